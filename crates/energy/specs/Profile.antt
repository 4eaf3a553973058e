-- A profile: five regional totals, each divided over 64 weights.
use Rattle.std.specs.Prelude.{ℕ, List, Option, nat_le}
use Rattle.foundation.specs.Division.{share}
use Rattle.foundation.specs.Fault.{Refused}
use Rattle.foundation.specs.Sums.{listed, sum_to}
use Rattle.energy.specs.Metered.{unless}

-- a party's part of a region's total
abbrev pub profile_kwh : List ℕ → List ℕ → ℕ → ℕ → ℕ
profile_kwh totals weights p r = share (listed totals r) 64 (listed weights) p

-- the totals are limited, whatever the weights
abbrev pub profile_fault : List ℕ → Option Refused
profile_fault totals = unless (nat_le (sum_to 5 (listed totals)) 40000000) 19 0
