-- How a book stands to what it has gone through. The calls carry it along, so nobody has to believe it.
use Rattle.std.specs.Prelude.{◌≡◌, ℕ, ◌+◌, ◌<◌, ◌≤◌, List, [], ◌∷◌, ℤ, pos, neg_ℤ}
use Rattle.recovery.specs.Shares.{cmpf, crmpf}
use Rattle.book.specs.declared.state.State.{State}
use Rattle.book.specs.declared.state.State.TheVariants as state
use Rattle.book.specs.History.{Claimed, History, claims, of_number, paid, recovered_claims, recoveries, regions_of, returned_claims, serials, standing, still_open, ticks}
use Rattle.book.specs.Settled.{Each}

-- the claim that a number's state holds open
abbrev pub held_in : ℕ → State → List Claimed
held_in n state.Free = []
held_in n (state.Declared d) = []
held_in n (state.Claimed d p) = record { number = n; serial = d.serial; interval = p.interval.number; part = p.part } ∷ []

-- the serial for which a number in this state stands, and its regions
abbrev pub serial_in : State → ℕ
serial_in state.Free = 0
serial_in (state.Declared d) = d.serial
serial_in (state.Claimed d p) = d.serial

abbrev pub regions_in : State → ℕ
regions_in state.Free = 0
regions_in (state.Declared d) = d.regions
regions_in (state.Claimed d p) = d.regions

-- the states of the numbers, the count of declarations and a ledger's amounts are what the history says
pub record Kept (h : History) (states : ℕ → State) (made : ℕ) (owed : ℕ → ℕ → ℤ) : Type 0 where
  pub count : made ≡ serials h
  pub serial : (n : ℕ) → 1 ≤ n → n ≤ 16 → serial_in (states n) ≡ standing h n
  pub regions : (n : ℕ) → 1 ≤ n → n ≤ 16 → 1 ≤ standing h n → regions_in (states n) ≡ regions_of h (standing h n)
  pub claim : (n : ℕ) → 1 ≤ n → n ≤ 16 → held_in n (states n) ≡ of_number n (still_open h)
  pub owes : (p s : ℕ) → p < 64 → 1 ≤ s → s ≤ 32 → owed p s ≡ neg_ℤ (pos (paid (regions_of h s) (recoveries h s) p))
  pub accounted : (s : ℕ) → ticks s (claims h) ≡ ticks s (recovered_claims h) + ticks s (returned_claims h) + ticks s (still_open h)
  -- nothing was recovered under a serial that is not made yet
  pub fresh : (s : ℕ) → serials h < s → recoveries h s ≡ []
  -- each recovery had something to divide its part over
  pub weighed : (s : ℕ) → Each (λ b. 0 < cmpf (regions_of h s) b + crmpf (regions_of h s) b) (recoveries h s)
