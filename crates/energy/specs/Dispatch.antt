-- The dispatch figure.
use Rattle.std.specs.Prelude.{ℕ, ◌*◌, ◌/◌, cond, ◌&&◌, Option, nat_le}
use Rattle.foundation.specs.Fault.{Refused}
use Rattle.foundation.specs.Sums.{sum_to}
use Rattle.energy.specs.Energy.{in_region, member}
use Rattle.energy.specs.Metered.{unless}

-- RMPF × totals in the set / all totals, rounded down; a quotient by 0 is 0
abbrev pub dispatch_of : (rmpf set : ℕ) → (ℕ → ℕ → ℕ) → ℕ
dispatch_of rmpf set f = rmpf * sum_to 5 (λ r. cond (member set r) (in_region f r) 0) / sum_to 5 (in_region f)

-- a set is a number from 1 to 31
abbrev pub dispatch_fault : ℕ → Option Refused
dispatch_fault set = unless (nat_le 1 set && nat_le set 31) 2 0
