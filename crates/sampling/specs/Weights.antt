-- From sums to weights and factors.
use Rattle.std.specs.Prelude.{ℕ, suc, ◌+◌, cond, ◌||◌, ℤ, pos, negsuc, Some, None, Option, ◌==◌, int_div, nat_eq}
use Rattle.foundation.specs.Division.{share}
use Rattle.foundation.specs.Fault.{Refused}
use Rattle.foundation.specs.First.{all_to}
use Rattle.foundation.specs.Sums.{sum_to, sum_to_int}
use Rattle.sampling.specs.declared.category.Category.{Category}
use Rattle.sampling.specs.declared.category.Category.TheVariants.{RaiseNotEnabled, RaiseEnabled, LowerNotEnabled, LowerEnabled}
use Rattle.sampling.specs.Interval.{in_samples}

-- what was sampled: the units with their owners and category sums, and how many intervals were used
pub record Sampled : Type 0 where
  pub units : ℕ
  pub owner : ℕ → ℕ
  pub sum : ℕ → Category → ℤ
  pub used : ℕ

-- a category sum divided by the count of intervals, toward zero
abbrev pub average : ℤ → ℕ → ℤ
average z used = int_div z (pos used)

-- a unit's average, where the unit is the owner's
abbrev pub part : (owner o : ℕ) → ℤ → ℕ → ℤ
part owner o z used = cond (owner == o) (average z used) (pos 0)

-- the averages of a category, summed over the units of an owner: party 0 to 63, or 64, the residual
unfoldable pub subtotal : Sampled → ℕ → Category → ℤ
subtotal f o c = sum_to_int f.units (λ u. part (f.owner u) o (f.sum u c) f.used)

-- minus f, which keeps a negative number and turns any other into 0
abbrev pub loss : ℤ → ℕ
loss (pos n) = 0
loss (negsuc n) = suc n

-- a weight is minus the sum of the four f's: no category offsets another
abbrev pub weight_of : (Category → ℤ) → ℕ
weight_of t = loss (t RaiseNotEnabled) + loss (t RaiseEnabled) + loss (t LowerNotEnabled) + loss (t LowerEnabled)

unfoldable pub weight : Sampled → ℕ → ℕ
weight f o = weight_of (subtotal f o)

-- a million divided over the weights of parties 0 to 63, then the residual
abbrev pub factor_in : Sampled → ℕ → ℕ
factor_in f o = share 1000000 65 (weight f) o

-- how many units an owner has
unfoldable pub units_in : Sampled → ℕ → ℕ
units_in f o = sum_to f.units (λ u. cond (f.owner u == o) 1 0)

-- why factors are not ready to be published
unfoldable pub ready_fault : Sampled → Option Refused
ready_fault f = cond (f.units == 0 || f.used == 0) (Some (in_samples 6 0)) (cond (all_to 65 (λ o. nat_eq (weight f o) 0)) (Some (in_samples 7 0)) None)
