-- When a recovery is refused, and what it leaves in a ledger.
use Rattle.std.specs.Prelude.{◌≡◌, ℕ, ◌+◌, ◌≤◌, cond, ◌&&◌, ℤ, pos, ◌+ℤ◌, neg_ℤ, Ok, Err, Option, Result, ◌==◌, nat_le, nat_lt}
use Rattle.foundation.specs.Fault.{Refused, unless_in}
use Rattle.foundation.specs.First.{or_else}
use Rattle.recovery.specs.Shares.{Basis, cmpf, crmpf, lines_of, share_paid}

abbrev pub part_fault : ℕ → Option Refused
part_fault part = unless_in 3 (nat_le 1 part && nat_le part 200000000000) 2 0

abbrev pub regions_fault : ℕ → Option Refused
regions_fault D = unless_in 3 (nat_le 1 D && nat_le D 31) 2 0

abbrev pub serial_fault : ℕ → Option Refused
serial_fault serial = unless_in 3 (nat_le 1 serial && nat_le serial 32) 2 0

-- there must be something to divide the part over
abbrev pub nobody_fault : ℕ → Basis → Option Refused
nobody_fault D b = unless_in 3 (nat_le 1 (cmpf D b + crmpf D b)) 17 0

abbrev pub lines_fault : ℕ → Basis → (left : ℕ) → Option Refused
lines_fault D b left = unless_in 4 (nat_le (lines_of D b) left) 18 0

-- the first fault of the shares of a recovery
abbrev pub split_fault : ℕ → Basis → Option Refused
split_fault D b = or_else (part_fault b.part) (or_else (regions_fault D) (nobody_fault D b))

-- the first fault of a recovery where so many lines are left
abbrev pub recover_fault : ℕ → Basis → (serial left : ℕ) → Option Refused
recover_fault D b serial left =
    or_else (part_fault b.part) (or_else (regions_fault D) (or_else (serial_fault serial) (or_else (nobody_fault D b) (lines_fault D b left))))

-- amounts with the shares s taken from those of parties 0, .., n - 1 under a serial
abbrev pub lowered : (s : ℕ → ℕ) (n serial : ℕ) → (ℕ → ℕ → ℤ) → ℕ → ℕ → ℤ
lowered s n serial f q t = f q t +ℤ cond (t == serial && nat_lt q n) (neg_ℤ (pos (s q))) (pos 0)

-- the amounts after a recovery, by its answer
abbrev pub after_recovery : {A E : Type 0} → Result A E → ℕ → Basis → (serial : ℕ) → (ℕ → ℕ → ℤ) → ℕ → ℕ → ℤ
after_recovery (Ok v) D b serial f = lowered (share_paid D b) 64 serial f
after_recovery (Err e) D b serial f = f

-- the lines left fall by at most so many where the call was carried out, and stay where not
abbrev pub FallsBy : {A E : Type 0} → Result A E → (lines before after : ℕ) → Type 0
FallsBy (Ok v) lines before after = (before ≤ after + lines) × (after ≤ before)
FallsBy (Err e) lines before after = after ≡ before

-- what a recovery that was carried out answers: CMPF, CRMPF and how many lines it posted
pub record Outcome (D : ℕ) (b : Basis) (causers residual lines : ℕ) : Type 0 where
  pub causers_are : causers ≡ cmpf D b
  pub residual_is : residual ≡ crmpf D b
  pub lines_are : lines ≡ lines_of D b
