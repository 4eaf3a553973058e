-- Shares as exact fractions, and what they are worked out from.
use Rattle.std.specs.Prelude.{◌≡◌, ℕ, ◌+◌, ◌-◌, ◌*◌, ◌/◌, ◌<◌, ◌≤◌, false, cond, nat_lt}
use Rattle.foundation.specs.Sums.{sum_to}
use Rattle.settle.specs.declared.exact.Decimals.{Decimals}
use Rattle.settle.specs.declared.exact.OffBy.{OffBy}
use Rattle.settle.specs.declared.exact.OffBy.TheVariants.{Above, Below}
use Rattle.sampling.specs.declared.factors.Factors.{Factors}
use Rattle.sampling.specs.Factors.{is_factored}
use Rattle.energy.specs.Energy.{grand}
use Rattle.recovery.specs.declared.split.Split.{Split}
use Rattle.recovery.specs.Shares.{basis_of, exact_top, exact_bottom}
use Rattle.recovery.specs.Split.{Parted, energy_of, share_in}

-- a fraction in thousandths, rounded down
abbrev pub thousandths_of : (top bottom : ℕ) → ℕ
thousandths_of top bottom = top * 1000 / bottom

-- how far a whole number is off a fraction, all multiplied by the divisor
abbrev pub apart : (whole top bottom : ℕ) → ℕ
apart whole top bottom = (whole * bottom - top) + (top - whole * bottom)

-- how far a share is off its exact share, in thousandths: the difference is rounded
abbrev pub off_by : (share top bottom : ℕ) → OffBy
off_by share top bottom =
    let by : Decimals = record { thousandths = thousandths_of (apart share top bottom) bottom } in
    cond (nat_lt top (share * bottom)) (Above by) (Below by)

-- the split is that of a part, by factors, over some set of regions and some source's energies
pub record SplitOf (part : ℕ) (f : Factors) (s : Split) : Type 0 where
  pub regions : ℕ
  pub kwh : ℕ → ℕ → ℕ
  pub limited : grand kwh ≤ 40000000
  pub small : part ≤ 200000000000
  pub parted : Parted regions (basis_of part f kwh) s

-- what bounds the figures of such a split
pub record Bounded (part : ℕ) (f : Factors) (s : Split) : Type 0 where
  pub small : part ≤ 200000000000
  pub weighed : 0 < s.cmpf + s.crmpf
  pub weights : s.cmpf + s.crmpf ≤ 1000000
  pub energies : sum_to 64 (energy_of s) ≤ 40000000
  pub customers : s.residual_energy ≤ 40000000
  pub customer : (p : ℕ) → p < 64 → is_factored f p ≡ false → 0 < energy_of s p → 0 < s.residual_energy
  pub whole : sum_to 64 (share_in s) ≡ part

-- the fraction is the exact share of a party, whatever the regions and the energies
abbrev pub ExactOf : (part : ℕ) → Factors → Split → (party top bottom : ℕ) → Type 0
ExactOf part f s p top bottom =
    (D : ℕ) (kwh : ℕ → ℕ → ℕ) → Parted D (basis_of part f kwh) s → (top ≡ exact_top D (basis_of part f kwh) p) × (bottom ≡ exact_bottom D (basis_of part f kwh) p)
