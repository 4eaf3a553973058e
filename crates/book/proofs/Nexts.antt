-- The states that the table gives are those that the calls leave.
use Rattle.std.proofs.Common.{◌≡◌, ℕ, suc, ◌<◌, ltb, None, sym, refl, ap, ◌∙◌}
use Rattle.std.proofs.lemmas.Bool.{ltb-true}
use Rattle.foundation.specs.Fault.{refused_in}
use Rattle.foundation.proofs.First.{some_none}
use Rattle.book.specs.declared.claim.OpenClaim.{OpenClaim}
use Rattle.book.specs.declared.state.Kind.{Kind}
use Rattle.book.specs.declared.state.State.{State}
use Rattle.book.specs.declared.state.State.TheVariants.{Free, Declared, Claimed}
use Rattle.book.specs.declared.state.table.Event.TheVariants.{Declare, Withdraw, Claim, Recover, HandBack}
use Rattle.book.specs.declared.state.table.Proposal.{Proposal}
use Rattle.book.specs.Calls.{claimed_state, declared_state, recovered_state, returned_state}
use Rattle.book.specs.Checks.{kind_of}
use Rattle.book.specs.Table.{table_fault, table_state}
use Rattle.book.proofs.Terms.{unless_none}

pub declare_next : (s : State) (k : Kind) (kind regions made : ℕ) → None ≡ table_fault s (Declare k regions made) → k ≡ kind_of kind → table_state s (Declare k regions made) ≡ declared_state kind regions (suc made)
declare_next Free k kind regions made e same = ap (λ z. Declared (record { serial = suc made; kind = z; regions = regions; last = None })) same
declare_next (Declared d) k kind regions made e same = absurd (some_none (refused_in 3 8 0) (sym e))
declare_next (Claimed d p) k kind regions made e same = absurd (some_none (refused_in 3 8 0) (sym e))

pub declare_room : (s : State) (k : Kind) (regions made : ℕ) → None ≡ table_fault s (Declare k regions made) → made < 32
declare_room Free k regions made e = ltb-true made 32 (unless_none 3 (ltb made 32) 10 0 (sym e))
declare_room (Declared d) k regions made e = absurd (some_none (refused_in 3 8 0) (sym e))
declare_room (Claimed d p) k regions made e = absurd (some_none (refused_in 3 8 0) (sym e))

pub withdraw_next : (s : State) → None ≡ table_fault s Withdraw → table_state s Withdraw ≡ Free
withdraw_next Free e = refl
withdraw_next (Declared d) e = refl
withdraw_next (Claimed d p) e = absurd (some_none (refused_in 3 11 0) (sym e))

claim_next : (s : State) (p : Proposal) → table_state s (Claim p) ≡ claimed_state s (record { interval = p.interval; part = p.part })
claim_next Free p = refl
claim_next (Declared d) p = refl
claim_next (Claimed d q) p = refl

-- the state after a claim, by the figures of its token
pub claimed_next : (s t : State) (p : Proposal) (c : OpenClaim) → s ≡ t → p.interval ≡ c.interval → p.part ≡ c.part → table_state s (Claim p) ≡ claimed_state t (record { interval = c.interval; part = c.part })
claimed_next s t p c same at paid =
    claim_next s p
    ∙ ap (λ x. claimed_state x (record { interval = p.interval; part = p.part })) same
    ∙ ap (λ i. claimed_state t (record { interval = i; part = p.part })) at
    ∙ ap (λ z. claimed_state t (record { interval = c.interval; part = z })) paid

pub recover_next : (s : State) (c : OpenClaim) → table_state s (Recover c) ≡ recovered_state s
recover_next Free c = refl
recover_next (Declared d) c = refl
recover_next (Claimed d p) c = refl

pub return_next : (s : State) (c : OpenClaim) → table_state s (HandBack c) ≡ returned_state s
return_next Free c = refl
return_next (Declared d) c = refl
return_next (Claimed d p) c = refl
