-- When each call is refused, in which order, and what it leaves.
use Rattle.std.specs.Prelude.{◌≡◌, ℕ, suc, ◌*◌, Bool, false, cond, not, ◌&&◌, List, length, Some, None, Ok, Err, Option, Result, ◌==◌, nat_eq, nat_le, nat_lt, slice_index_or}
use Rattle.foundation.specs.Fault.{Refused, refused_in, told, unless_in}
use Rattle.foundation.specs.First.{all_to, first_to, or_else}
use Rattle.foundation.specs.Sums.{sum_to}
use Rattle.energy.specs.Energy.{member}
use Rattle.sampling.specs.declared.factors.Factors.{Factors}
use Rattle.recovery.specs.Recovery.{lines_fault, nobody_fault}
use Rattle.recovery.specs.Shares.{Basis}
use Rattle.book.specs.declared.claim.Claim.{Claim}
use Rattle.book.specs.declared.claim.OpenClaim.{OpenClaim}
use Rattle.book.specs.declared.claim.Returned.{Returned}
use Rattle.book.specs.declared.state.Declaration.{Declaration}
use Rattle.book.specs.declared.state.Kind.{Kind}
use Rattle.book.specs.declared.state.Kind.TheVariants.{Regulation, Delayed}
use Rattle.book.specs.declared.state.Pending.{Pending}
use Rattle.book.specs.declared.state.State.{State}
use Rattle.book.specs.declared.state.State.TheVariants as state
use Rattle.book.specs.declared.term.Term.{Term}
use Rattle.book.specs.History.{Claimed, Event, claimed, declared, recovered, refused, returned, withdrawn}
use Rattle.book.specs.States.{after, is_claimed, is_free_state, is_number}

abbrev pub number_fault : ℕ → Option Refused
number_fault n = unless_in 3 (is_number n) 2 0

-- declare, where the number is in this state and so many declarations were made
abbrev pub declare_fault : (number kind regions : ℕ) → State → (made : ℕ) → Option Refused
declare_fault n kind regions s made =
    or_else (number_fault n)
    (or_else (unless_in 3 (nat_le 1 kind && nat_le kind 2) 2 0)
    (or_else (unless_in 3 (nat_le 1 regions && nat_le regions 31) 2 0)
    (or_else (unless_in 3 (is_free_state s) 8 0) (unless_in 3 (nat_lt made 32) 10 0))))

abbrev pub withdraw_fault : (number : ℕ) → State → Option Refused
withdraw_fault n s = or_else (number_fault n) (or_else (unless_in 3 (not (is_free_state s)) 9 0) (unless_in 3 (not (is_claimed s)) 11 0))

-- the terms of a claim
abbrev pub region_at : List Term → ℕ → ℕ
region_at ts k = (slice_index_or ts k (record { region = 0; service = 0; amount = 0 })).region

abbrev pub service_at : List Term → ℕ → ℕ
service_at ts k = (slice_index_or ts k (record { region = 0; service = 0; amount = 0 })).service

abbrev pub amount_at : List Term → ℕ → ℕ
amount_at ts k = (slice_index_or ts k (record { region = 0; service = 0; amount = 0 })).amount

-- a region from 0 to 4, service 1 or 2, and an amount of at most 20,000 tenths of a MW
abbrev pub is_term : List Term → ℕ → Bool
is_term ts k = nat_lt (region_at ts k) 5 && ((nat_le 1 (service_at ts k) && nat_le (service_at ts k) 2) && nat_le (amount_at ts k) 20000)

-- what the enabled amounts cost, in ticks
unfoldable pub payment : (value : ℕ) → List Term → ℕ
payment value ts = value * sum_to (length ts) (amount_at ts)

-- a regulation requirement has only regulation terms and is recovered whole, a delayed one up to its payment
abbrev pub is_right_part : Kind → List Term → (payment part : ℕ) → Bool
is_right_part Regulation ts pay part = all_to (length ts) (λ k. nat_eq (service_at ts k) 1) && part == pay
is_right_part Delayed ts pay part = nat_le part pay

-- a claim under a declaration
abbrev pub under_fault : Declaration → (interval value : ℕ) → List Term → (part : ℕ) → Option Refused
under_fault d interval value ts part =
    or_else (unless_in 3 (nat_le (after d.last) interval) 4 0)
    (or_else (first_to (length ts) (λ k. unless_in 3 (member d.regions (region_at ts k)) 12 k))
    (or_else (unless_in 3 (is_right_part d.kind ts (payment value ts) part) 13 0)
    (or_else (unless_in 3 (nat_le (payment value ts) 200000000000) 15 0) (unless_in 3 (nat_le 1 part) 14 0))))

-- a claim of a number in this state
abbrev pub state_fault : State → (interval value : ℕ) → List Term → (part : ℕ) → Option Refused
state_fault state.Free interval value ts part = Some (refused_in 3 9 0)
state_fault (state.Claimed d p) interval value ts part = Some (refused_in 3 11 0)
state_fault (state.Declared d) interval value ts part = under_fault d interval value ts part

abbrev pub claim_fault : (number interval value : ℕ) → List Term → (part : ℕ) → State → Option Refused
claim_fault n interval value ts part s =
    or_else (unless_in 3 (nat_le (length ts) 10) 1 0)
    (or_else (number_fault n)
    (or_else (unless_in 3 (nat_le interval 2015) 2 0)
    (or_else (unless_in 3 (nat_le value 2000000) 2 0)
    (or_else (first_to (length ts) (λ k. unless_in 3 (is_term ts k) 2 k)) (state_fault s interval value ts part)))))

-- the four figures of a claim
abbrev pub figures_of : OpenClaim → Claimed
figures_of c = record { number = c.number; serial = c.serial; interval = c.interval.number; part = c.part }

-- whether a claim is the one that its number's state holds open
abbrev pub is_open : State → OpenClaim → Bool
is_open state.Free c = false
is_open (state.Declared d) c = false
is_open (state.Claimed d p) c = d.serial == c.serial && (p.interval.number == c.interval.number && p.part == c.part)

-- the regions of the declaration that a state stands for
abbrev pub declared_in : State → ℕ
declared_in state.Free = 0
declared_in (state.Declared d) = d.regions
declared_in (state.Claimed d p) = d.regions

abbrev pub not_open : State → OpenClaim → Option Refused
not_open s c = unless_in 3 (is_open s c) 16 0

abbrev pub recovery_fault : State → OpenClaim → Basis → (left : ℕ) → Option Refused
recovery_fault s c b left = or_else (not_open s c) (or_else (nobody_fault (declared_in s) b) (lines_fault (declared_in s) b left))

-- what a refused recovery says
abbrev pub returned_for : {A : Type 0} → Result A Returned → Option Refused
returned_for (Ok v) = None
returned_for (Err r) = Some (told r.fault)

-- a refused recovery gives its claim back
abbrev pub GivenBack : {A : Type 0} → Result A Returned → Claim → Type 0
GivenBack (Ok v) c = Unit {0}
GivenBack (Err r) c = r.claim ≡ c

-- the states of the numbers with one of them changed
abbrev pub changed : (number : ℕ) → State → (ℕ → State) → ℕ → State
changed n new f k = cond (k == n) new (f k)

-- the states after a call, by its answer
abbrev pub after_call : {A E : Type 0} → Result A E → (number : ℕ) → State → (ℕ → State) → ℕ → State
after_call (Ok v) n new f = changed n new f
after_call (Err e) n new f = f

-- the state after each call that is carried out
abbrev pub declared_state : (kind : ℕ) (regions serial : ℕ) → State
declared_state kind regions serial = state.Declared (record { serial = serial; kind = cond (kind == 1) Regulation Delayed; regions = regions; last = None })

abbrev pub claimed_state : State → Pending → State
claimed_state state.Free p = state.Free
claimed_state (state.Declared d) p = state.Claimed d p
claimed_state (state.Claimed d q) p = state.Claimed d q

-- a recovery raises the last interval recovered, a return leaves it
abbrev pub recovered_state : State → State
recovered_state state.Free = state.Free
recovered_state (state.Declared d) = state.Declared d
recovered_state (state.Claimed d p) = state.Declared (record { serial = d.serial; kind = d.kind; regions = d.regions; last = Some p.interval })

abbrev pub returned_state : State → State
returned_state state.Free = state.Free
returned_state (state.Declared d) = state.Declared d
returned_state (state.Claimed d p) = state.Declared d

-- the states after a claim, which is open with the interval and part of the token given
abbrev pub after_claim : {E : Type 0} → Result Claim E → (number : ℕ) → (ℕ → State) → ℕ → State
after_claim (Ok c) n f = changed n (claimed_state (f n) (record { interval = c.figures.interval; part = c.figures.part })) f
after_claim (Err e) n f = f

-- how many declarations were made after one more was asked for
abbrev pub count_after : {A E : Type 0} → Result A E → ℕ → ℕ
count_after (Ok v) made = suc made
count_after (Err e) made = made

-- the claim that a number in this state holds open
abbrev pub open_in : (number : ℕ) → State → Option OpenClaim
open_in n state.Free = None
open_in n (state.Declared d) = None
open_in n (state.Claimed d p) = Some (record { number = n; serial = d.serial; interval = p.interval; part = p.part })

-- a token that has these figures, or none where there are none
abbrev pub TakenUp : Option OpenClaim → Option Claim → Type 0
TakenUp (Some f) (Some c) = c.figures ≡ f
TakenUp (Some f) None = ⊥
TakenUp None (Some c) = ⊥
TakenUp None None = Unit {0}

-- the declaration for which a number in this state stands
abbrev pub declaration_in : State → Option Declaration
declaration_in state.Free = None
declaration_in (state.Declared d) = Some d
declaration_in (state.Claimed d p) = Some d

-- each call as it counts in a history, by its answer
abbrev pub declare_event : {A E : Type 0} → Result A E → (number regions : ℕ) → Event
declare_event (Ok s) n d = declared n d
declare_event (Err f) n d = refused

abbrev pub withdraw_event : {A E : Type 0} → Result A E → (number : ℕ) → Event
withdraw_event (Ok u) n = withdrawn n
withdraw_event (Err f) n = refused

abbrev pub claim_event : {E : Type 0} → Result Claim E → Event
claim_event (Ok c) = claimed (figures_of c.figures)
claim_event (Err f) = refused

abbrev pub recover_event : {A E : Type 0} → Result A E → OpenClaim → Factors → (ℕ → ℕ → ℕ) → Event
recover_event (Ok v) c f e = recovered (figures_of c) f e
recover_event (Err r) c f e = refused

abbrev pub return_event : {A E : Type 0} → Result A E → OpenClaim → Event
return_event (Ok u) c = returned (figures_of c)
return_event (Err f) c = refused
