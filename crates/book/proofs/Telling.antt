-- What each call that was carried out adds to a history.
use Rattle.std.proofs.Common.{◌≡◌, ℕ, suc, ◌+◌, ◌<◌, ◌≤◌, Bool, true, false, not, ◌&&◌, eqb, leb, List, ◌∷◌, length, ℤ, Some, None, Option, sym, refl}
use Rattle.std.proofs.lemmas.Bool.{and_parts, eqb-true, leb-true, true≢false}
use Rattle.foundation.specs.Fault.{unless_in}
use Rattle.foundation.specs.First.{first_to, or_else}
use Rattle.foundation.proofs.First.{some_none}
use Rattle.sampling.specs.declared.factors.Factors.{Factors}
use Rattle.recovery.specs.Recovery.{lowered}
use Rattle.recovery.specs.Shares.{Basis, basis_of, cmpf, crmpf, share_paid}
use Rattle.book.specs.declared.claim.OpenClaim.{OpenClaim}
use Rattle.book.specs.declared.state.Declaration.{Declaration}
use Rattle.book.specs.declared.state.Pending.{Pending}
use Rattle.book.specs.declared.state.State.{State}
use Rattle.book.specs.declared.state.State.TheVariants as state
use Rattle.book.specs.declared.term.Term.{Term}
use Rattle.book.specs.Calls.{changed, claim_fault, claimed_state, declare_fault, declared_in, declared_state, figures_of, is_open, is_term, number_fault, recovered_state, recovery_fault, returned_state, state_fault, withdraw_fault}
use Rattle.book.specs.History.{Claimed, History, claimed, declared, recovered, returned, withdrawn}
use Rattle.book.specs.Kept.{Kept, serial_in}
use Rattle.book.specs.States.{is_claimed, is_declaration, is_free_state, is_number, is_sound}
use Rattle.book.proofs.Histories.{kept_claimed, kept_declared, kept_recovered, kept_returned, kept_withdrawn}

-- no fault at all is none of either
none_both : {A : Type 0} (a b : Option A) → or_else a b ≡ None → (a ≡ None) × (b ≡ None)
none_both None b h = (refl, h)
none_both (Some x) b h = absurd (some_none x h)

unless_none : (layer : ℕ) (t : Bool) (number place : ℕ) → unless_in layer t number place ≡ None → t ≡ true
unless_none layer true number place h = refl
unless_none layer false number place h = absurd (some_none _ h)

pub number_from : (n : ℕ) → is_number n ≡ true → (1 ≤ n) × (n ≤ 16)
number_from n h =
    let both = and_parts (leb 1 n) (leb n 16) h in
    (leb-true 1 n both.0, leb-true n 16 both.1)

number_in : (n : ℕ) → number_fault n ≡ None → (1 ≤ n) × (n ≤ 16)
number_in n h =
    number_from n (unless_none 3 (is_number n) 2 0 h)

pub open_from : (s : State) (c : OpenClaim) (b : Basis) (left : ℕ) → recovery_fault s c b left ≡ None → is_open s c ≡ true
open_from s c b left h = unless_none 3 (is_open s c) 16 0 (none_both (unless_in 3 (is_open s c) 16 0) _ h).0

pub open_by : (s : State) (c : OpenClaim) → unless_in 3 (is_open s c) 16 0 ≡ None → is_open s c ≡ true
open_by s c h = unless_none 3 (is_open s c) 16 0 h

is_free : (s : State) → is_free_state s ≡ true → s ≡ state.Free
is_free state.Free h = refl
is_free (state.Declared d) h = absurd (true≢false (sym h))
is_free (state.Claimed d p) h = absurd (true≢false (sym h))

pub told_declare : (h : History) (f g : ℕ → State) (m l n kind D : ℕ) (owed : ℕ → ℕ → ℤ) → declare_fault n kind D (f n) m ≡ None → ((k : ℕ) → g k ≡ changed n (declared_state kind D (suc m)) f k) → l ≡ suc m → Kept h f m owed → Kept (declared n D ∷ h) g l owed
told_declare h f g m l n kind D owed none new more k =
    let a = none_both (number_fault n) _ none in
    let b = none_both (unless_in 3 (leb 1 kind && leb kind 2) 2 0) _ a.1 in
    let c = none_both (unless_in 3 (leb 1 D && leb D 31) 2 0) _ b.1 in
    let d = none_both (unless_in 3 (is_free_state (f n)) 8 0) _ c.1 in
    kept_declared h f g m l n D _ owed k (number_in n a.0).0 (number_in n a.0).1 (is_free (f n) (unless_none 3 (is_free_state (f n)) 8 0 d.0)) refl refl new more

-- the state that a call finds
pub told_withdraw : (h : History) (f g : ℕ → State) (m n : ℕ) (owed : ℕ → ℕ → ℤ) → withdraw_fault n (f n) ≡ None → ((k : ℕ) → g k ≡ changed n state.Free f k) → Kept h f m owed → Kept (withdrawn n ∷ h) g m owed
told_withdraw h f g m n owed none new k =
    let a = none_both (number_fault n) _ none in
    go (f n) refl a.1 (number_in n a.0)
  where
    go : (s : State) → f n ≡ s → or_else (unless_in 3 (not (is_free_state s)) 9 0) (unless_in 3 (not (is_claimed s)) 11 0) ≡ None → (1 ≤ n) × (n ≤ 16) → Kept (withdrawn n ∷ h) g m owed
    go state.Free e x r = absurd (some_none _ x)
    go (state.Declared d) e x r = kept_withdrawn h f g m n d owed k r.0 r.1 e new
    go (state.Claimed d p) e x r = absurd (some_none _ x)

pub told_claim : (h : History) (f g : ℕ → State) (m n interval value : ℕ) (ts : List Term) (part : ℕ) (p : Pending) (c : Claimed) (owed : ℕ → ℕ → ℤ) → claim_fault n interval value ts part (f n) ≡ None → ((k : ℕ) → g k ≡ changed n (claimed_state (f n) p) f k) → c ≡ record { number = n; serial = serial_in (f n); interval = p.interval.number; part = p.part } → Kept h f m owed → Kept (claimed c ∷ h) g m owed
told_claim h f g m n interval value ts part p c owed none new figures k =
    let a = none_both (unless_in 3 (leb (length ts) 10) 1 0) _ none in
    let b = none_both (number_fault n) _ a.1 in
    let d = none_both (unless_in 3 (leb interval 2015) 2 0) _ b.1 in
    let e = none_both (unless_in 3 (leb value 2000000) 2 0) _ d.1 in
    let s = none_both (first_to (length ts) (λ k. unless_in 3 (is_term ts k) 2 k)) _ e.1 in
    go (f n) refl s.1 (number_in n b.0) new figures
  where
    go : (s : State) → f n ≡ s → state_fault s interval value ts part ≡ None → (1 ≤ n) × (n ≤ 16) → ((k : ℕ) → g k ≡ changed n (claimed_state s p) f k) → c ≡ record { number = n; serial = serial_in s; interval = p.interval.number; part = p.part } → Kept (claimed c ∷ h) g m owed
    go state.Free e x r y z = absurd (some_none _ x)
    go (state.Declared d) e x r y z = kept_claimed h f g m n d p c owed k r.0 r.1 e y z
    go (state.Claimed d q) e x r y z = absurd (some_none _ x)

-- the figures of a claim that is open are those that the state holds
figures_are : (n : ℕ) (d : Declaration) (p : Pending) (c : OpenClaim) → c.number ≡ n → is_open (state.Claimed d p) c ≡ true → figures_of c ≡ record { number = n; serial = d.serial; interval = p.interval.number; part = p.part }
figures_are n d p c e h =
    let a = and_parts (eqb d.serial c.serial) _ h in
    let b = and_parts (eqb p.interval.number c.interval.number) _ a.1 in
    let serial = sym (eqb-true d.serial c.serial a.0) in
    let interval = sym (eqb-true p.interval.number c.interval.number b.0) in
    let part = sym (eqb-true p.part c.part b.1) in
    λ i. record { number = e i; serial = serial i; interval = interval i; part = part i }

pub told_return : (h : History) (f g : ℕ → State) (m n : ℕ) (c : OpenClaim) (owed : ℕ → ℕ → ℤ) → 1 ≤ n → n ≤ 16 → c.number ≡ n → is_open (f n) c ≡ true → ((k : ℕ) → g k ≡ changed n (returned_state (f n)) f k) → Kept h f m owed → Kept (returned (figures_of c) ∷ h) g m owed
told_return h f g m n c owed lo hi num is new k = go (f n) refl is new
  where
    go : (s : State) → f n ≡ s → is_open s c ≡ true → ((j : ℕ) → g j ≡ changed n (returned_state s) f j) → Kept (returned (figures_of c) ∷ h) g m owed
    go state.Free e x y = absurd (true≢false (sym x))
    go (state.Declared d) e x y = absurd (true≢false (sym x))
    go (state.Claimed d p) e x y = kept_returned h f g m n d d p (figures_of c) owed k lo hi e refl refl y (figures_are n d p c num x)

pub told_recover : (h : History) (f g : ℕ → State) (m n : ℕ) (c : OpenClaim) (owed after : ℕ → ℕ → ℤ) (fac : Factors) (kwh : ℕ → ℕ → ℕ) → 1 ≤ n → n ≤ 16 → c.number ≡ n → is_sound m (f n) ≡ true → is_open (f n) c ≡ true → 0 < cmpf (declared_in (f n)) (basis_of c.part fac kwh) + crmpf (declared_in (f n)) (basis_of c.part fac kwh) → ((k : ℕ) → g k ≡ changed n (recovered_state (f n)) f k) → ((q s : ℕ) → after q s ≡ lowered (share_paid (declared_in (f n)) (basis_of c.part fac kwh)) 64 c.serial owed q s) → Kept h f m owed → Kept (recovered (figures_of c) fac kwh ∷ h) g m after
told_recover h f g m n c owed after fac kwh lo hi num sound is some new amounts k = go (f n) refl sound is some new amounts
  where
    go : (s : State) → f n ≡ s → is_sound m s ≡ true → is_open s c ≡ true → 0 < cmpf (declared_in s) (basis_of c.part fac kwh) + crmpf (declared_in s) (basis_of c.part fac kwh) → ((j : ℕ) → g j ≡ changed n (recovered_state s) f j) → ((q t : ℕ) → after q t ≡ lowered (share_paid (declared_in s) (basis_of c.part fac kwh)) 64 c.serial owed q t) → Kept (recovered (figures_of c) fac kwh ∷ h) g m after
    go state.Free e v x w y z = absurd (true≢false (sym x))
    go (state.Declared d) e v x w y z = absurd (true≢false (sym x))
    go (state.Claimed d p) e v x w y z =
        kept_recovered h f g m n d _ p (figures_of c) owed k lo hi e refl refl y (figures_are n d p c num x) fac kwh after (leb-true 1 d.serial (and_parts (leb 1 d.serial) _ (and_parts (is_declaration m d) _ v).0).0) w z
