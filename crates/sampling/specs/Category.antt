-- The categories of a sample.
use Rattle.std.specs.Prelude.{ℕ, zero, suc, ◌^◌, ◌≤◌, Bool, cond, ℤ, pos, negsuc, ◌*ℤ◌, Some, None, Option, ◌==◌, unsigned_abs}
use Rattle.sampling.specs.declared.category.Category.{Category}
use Rattle.sampling.specs.declared.category.Category.TheVariants.{RaiseNotEnabled, RaiseEnabled, LowerNotEnabled, LowerEnabled}
use Rattle.sampling.specs.declared.category.Sums.{Sums}

-- the category of a sample at a frequency indicator, by what the unit is enabled for
abbrev pub category_of : ℤ → Bool → Bool → Option Category
category_of (pos zero) raise lower = None
category_of (pos (suc n)) raise lower = Some (cond raise RaiseEnabled RaiseNotEnabled)
category_of (negsuc n) raise lower = Some (cond lower LowerEnabled LowerNotEnabled)

-- whether two categories are the same
abbrev pub row_of : Category → ℕ
row_of RaiseNotEnabled = 0
row_of RaiseEnabled = 1
row_of LowerNotEnabled = 2
row_of LowerEnabled = 3

abbrev pub same : Category → Category → Bool
same c d = row_of c == row_of d

-- x in its own category, 0 in the others
abbrev pub counted : Category → Option Category → ℤ → ℤ
counted c None x = pos 0
counted c (Some d) x = cond (same c d) x (pos 0)

-- what a sample adds to category c: deviation × FI where it counts there, else 0
unfoldable pub product_in : Category → (indicator : ℤ) → (raise lower : Bool) → (deviation : ℤ) → ℤ
product_in c indicator raise lower deviation = counted c (category_of indicator raise lower) (deviation *ℤ indicator)

-- the figure of a category
abbrev pub sum_in : Sums → Category → ℤ
sum_in s RaiseNotEnabled = s.raise_not_enabled
sum_in s RaiseEnabled = s.raise_enabled
sum_in s LowerNotEnabled = s.lower_not_enabled
sum_in s LowerEnabled = s.lower_enabled

-- figures that leave room for one sum more
abbrev pub Small : Sums → Type 0
Small s = (c : Category) → unsigned_abs (sum_in s c) ≤ 2 ^ 60
