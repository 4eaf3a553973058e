-- The calls' refusals, judged in two steps: what is asked, then the number's state by the table.
use Rattle.std.proofs.Common.{◌≡◌, ℕ, Bool, true, false, not, ◌&&◌, eqb, ltb, leb, List, length, Some, None, Option, sym, refl, ap, ◌∙◌}
use Rattle.foundation.specs.Fault.{Refused, unless_in}
use Rattle.foundation.specs.First.{all_to, or_else}
use Rattle.book.specs.declared.claim.OpenClaim.{OpenClaim}
use Rattle.book.specs.declared.state.Declaration.{Declaration}
use Rattle.book.specs.declared.state.Kind.{Kind}
use Rattle.book.specs.declared.state.Kind.TheVariants.{Regulation, Delayed}
use Rattle.book.specs.declared.state.State.{State}
use Rattle.book.specs.declared.state.State.TheVariants as state
use Rattle.book.specs.declared.state.table.Event.TheVariants.{Declare, Withdraw, Claim, Recover, HandBack}
use Rattle.book.specs.declared.state.table.Proposal.{Proposal}
use Rattle.book.specs.declared.term.Term.{Term}
use Rattle.book.specs.Calls.{claim_fault, declare_fault, declared_in, is_right_part, not_open, number_fault, payment, service_at, state_fault, under_fault, withdraw_fault}
use Rattle.book.specs.Checks.{Proposes, declaration_fault, is_delayed, kind_fault, outer_fault, request_fault, set_fault, terms_fault}
use Rattle.book.specs.States.{after, is_claimed, is_free_state}
use Rattle.book.specs.Table.{is_fitting, proposal_fault, table_fault}

-- an answer of the second step
late : (o a b whole : Option Refused) → whole ≡ or_else a b → None ≡ a → o ≡ b → o ≡ whole
late o a b whole e none p = p ∙ ap (λ x. or_else x b) none ∙ sym e

three : (a b c d : Option Refused) → or_else a (or_else b (or_else c d)) ≡ or_else (or_else a (or_else b c)) d
three (Some a) b c d = refl
three None (Some b) c d = refl
three None None c d = refl

five : (a b c d e f : Option Refused) → or_else a (or_else b (or_else c (or_else d (or_else e f)))) ≡ or_else (or_else a (or_else b (or_else c (or_else d e)))) f
five (Some a) b c d e f = refl
five None (Some b) c d e f = refl
five None None c d e f = three c d e f

declare_table : (s : State) (kind : Kind) (regions made : ℕ) → or_else (unless_in 3 (is_free_state s) 8 0) (unless_in 3 (ltb made 32) 10 0) ≡ table_fault s (Declare kind regions made)
declare_table state.Free kind regions made = refl
declare_table (state.Declared d) kind regions made = refl
declare_table (state.Claimed d p) kind regions made = refl

declare_judged : (n kind regions : ℕ) (s : State) (made : ℕ) (k : Kind) → declare_fault n kind regions s made ≡ or_else (declaration_fault n kind regions) (table_fault s (Declare k regions made))
declare_judged n kind regions s made k =
    three (number_fault n) (kind_fault kind) (set_fault regions) (or_else (unless_in 3 (is_free_state s) 8 0) (unless_in 3 (ltb made 32) 10 0))
    ∙ ap (or_else (declaration_fault n kind regions)) (declare_table s k regions made)

pub declare_late : (n kind regions : ℕ) (s : State) (made : ℕ) (k : Kind) (o : Option Refused) → None ≡ declaration_fault n kind regions → o ≡ table_fault s (Declare k regions made) → o ≡ declare_fault n kind regions s made
declare_late n kind regions s made k o none e = late o (declaration_fault n kind regions) (table_fault s (Declare k regions made)) _ (declare_judged n kind regions s made k) none e

withdraw_table : (s : State) → or_else (unless_in 3 (not (is_free_state s)) 9 0) (unless_in 3 (not (is_claimed s)) 11 0) ≡ table_fault s Withdraw
withdraw_table state.Free = refl
withdraw_table (state.Declared d) = refl
withdraw_table (state.Claimed d p) = refl

withdraw_judged : (n : ℕ) (s : State) → withdraw_fault n s ≡ or_else (number_fault n) (table_fault s Withdraw)
withdraw_judged n s = ap (or_else (number_fault n)) (withdraw_table s)

pub withdraw_late : (n : ℕ) (s : State) (o : Option Refused) → None ≡ number_fault n → o ≡ table_fault s Withdraw → o ≡ withdraw_fault n s
withdraw_late n s o none e = late o (number_fault n) (table_fault s Withdraw) _ (withdraw_judged n s) none e

not_not : (b : Bool) → not (not b) ≡ b
not_not true = refl
not_not false = refl

fitting : (k : Kind) (value : ℕ) (ts : List Term) (p : Proposal) → p.payment ≡ payment value ts → p.delayed ≡ is_delayed ts → is_fitting k p ≡ is_right_part k ts (payment value ts) p.part
fitting Regulation value ts p pays delayed =
    ap (λ t. not t && eqb p.part p.payment) delayed
    ∙ ap (λ t. t && eqb p.part p.payment) (not_not (all_to (length ts) (λ k. eqb (service_at ts k) 1)))
    ∙ ap (λ z. all_to (length ts) (λ k. eqb (service_at ts k) 1) && eqb p.part z) pays
fitting Delayed value ts p pays delayed = ap (leb p.part) pays

under : (d : Declaration) (value : ℕ) (ts : List Term) (p : Proposal) → Proposes d.regions value ts p → proposal_fault d p ≡ under_fault d p.interval.number value ts p.part
under d value ts p is =
    let a = unless_in 3 (leb (after d.last) p.interval.number) 4 0 in
    let last = unless_in 3 (leb 1 p.part) 14 0 in
    ap (λ o. or_else a (or_else o (or_else (unless_in 3 (is_fitting d.kind p) 13 0) (or_else (unless_in 3 (leb p.payment 200000000000) 15 0) last)))) is.outside
    ∙ ap (λ t. or_else a (or_else (outer_fault d.regions ts) (or_else (unless_in 3 t 13 0) (or_else (unless_in 3 (leb p.payment 200000000000) 15 0) last)))) (fitting d.kind value ts p is.payment is.delayed)
    ∙ ap (λ z. or_else a (or_else (outer_fault d.regions ts) (or_else (unless_in 3 (is_right_part d.kind ts (payment value ts) p.part) 13 0) (or_else (unless_in 3 (leb z 200000000000) 15 0) last)))) is.payment

claim_table : (s : State) (value : ℕ) (ts : List Term) (p : Proposal) → Proposes (declared_in s) value ts p → table_fault s (Claim p) ≡ state_fault s p.interval.number value ts p.part
claim_table state.Free value ts p is = refl
claim_table (state.Declared d) value ts p is = under d value ts p is
claim_table (state.Claimed d q) value ts p is = refl

claim_split : (n interval value : ℕ) (ts : List Term) (part : ℕ) (s : State) → claim_fault n interval value ts part s ≡ or_else (request_fault n interval value ts) (state_fault s interval value ts part)
claim_split n interval value ts part s = five (unless_in 3 (leb (length ts) 10) 1 0) (number_fault n) (unless_in 3 (leb interval 2015) 2 0) (unless_in 3 (leb value 2000000) 2 0) (terms_fault ts) (state_fault s interval value ts part)

-- a claim that the table answered
pub claim_late : (n interval value : ℕ) (ts : List Term) (part : ℕ) (s : State) (p : Proposal) (o : Option Refused) → None ≡ request_fault n interval value ts → Proposes (declared_in s) value ts p → p.interval.number ≡ interval → p.part ≡ part → o ≡ table_fault s (Claim p) → o ≡ claim_fault n interval value ts part s
claim_late n interval value ts part s p o none is at paid e =
    late o (request_fault n interval value ts) (state_fault s interval value ts part) _ (claim_split n interval value ts part s) none
    (e ∙ claim_table s value ts p is ∙ ap (λ i. state_fault s i value ts p.part) at ∙ ap (state_fault s interval value ts) paid)

-- the end of a claim, recovered or handed back
pub recover_table : (s : State) (c : OpenClaim) → table_fault s (Recover c) ≡ not_open s c
recover_table state.Free c = refl
recover_table (state.Declared d) c = refl
recover_table (state.Claimed d p) c = refl

pub return_table : (s : State) (c : OpenClaim) → table_fault s (HandBack c) ≡ not_open s c
return_table state.Free c = refl
return_table (state.Declared d) c = refl
return_table (state.Claimed d p) c = refl
