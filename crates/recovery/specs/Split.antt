-- The shares of one recovery, as the code holds them.
use Rattle.std.specs.Prelude.{◌≡◌, ℕ, ◌<◌, cond, nat_lt}
use Rattle.foundation.specs.Sums.{listed}
use Rattle.recovery.specs.declared.split.Split.{Split}
use Rattle.recovery.specs.Shares.{Basis, Shared, energy_in, atce, cmpf, crmpf, residual_part_of}

-- what a split answers of a party, nothing out of range
abbrev pub share_in : Split → ℕ → ℕ
share_in s p = cond (nat_lt p 64) (listed s.shares p) 0

abbrev pub energy_of : Split → ℕ → ℕ
energy_of s p = cond (nat_lt p 64) (listed s.energies p) 0

-- a split is that of a set of regions and a basis
pub record Parted (D : ℕ) (b : Basis) (s : Split) : Type 0 where
  pub law : Shared D b (listed s.shares)
  pub energies : (p : ℕ) → p < 64 → listed s.energies p ≡ energy_in D b p
  pub all_causers : s.cmpf ≡ cmpf D b
  pub residual : s.crmpf ≡ crmpf D b
  pub borne : s.residual_part ≡ residual_part_of D b
  pub all_customers : s.residual_energy ≡ atce D b
