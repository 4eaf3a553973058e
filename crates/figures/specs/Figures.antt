-- The worked figures of the settlement rules, stated with the definitions that the contracts of the code cite.
use Rattle.std.specs.Prelude.{◌≡◌, ℕ, Bool, false, cond, [], ◌∷◌, ℤ, pos, negsuc, ◌==◌}
use Rattle.foundation.specs.Division.{share}
use Rattle.foundation.specs.Sums.{listed}
use Rattle.sampling.specs.declared.category.Category.{Category}
use Rattle.sampling.specs.declared.category.Category.TheVariants.{RaiseNotEnabled, RaiseEnabled, LowerNotEnabled, LowerEnabled}
use Rattle.sampling.specs.Category.{product_in}
use Rattle.sampling.specs.Weights.{average, weight_of}

-- the weights 1, 1, 1
abbrev pub thirds : ℕ → ℕ
thirds = listed (1 ∷ 1 ∷ 1 ∷ [])

-- the subtotals RNEF -300, REF 50, LNEF -10 and LEF 0
abbrev pub mixed : Category → ℤ
mixed RaiseNotEnabled = negsuc 299
mixed RaiseEnabled = pos 50
mixed LowerNotEnabled = negsuc 9
mixed LowerEnabled = pos 0

-- the weights by owner: 310 for party 0, 690 for the residual at place 64, and 0 for all others
abbrev pub causers : ℕ → ℕ
causers o = cond (o == 0) 310 (cond (o == 64) 690 0)

-- what a sample with FI 100 and deviation -20 adds to a category, where raise is not enabled
abbrev pub raise_missed : (lower : Bool) → Category → ℤ
raise_missed lower c = product_in c (pos 100) false lower (negsuc 19)

pub record WorkedFigures : Type 0 where
  -- 10 over the weights 1, 1, 1: shares 3, 3, 4
  pub division : (share 10 3 thirds 0 ≡ 3) × (share 10 3 thirds 1 ≡ 3) × (share 10 3 thirds 2 ≡ 4)
  -- FI 100, deviation -20, raise not enabled: -2,000 to RNEF and nothing to the other three, whatever is enabled for lower
  pub product : (lower : Bool) → (raise_missed lower RaiseNotEnabled ≡ negsuc 1999) × (raise_missed lower RaiseEnabled ≡ pos 0) × (raise_missed lower LowerNotEnabled ≡ pos 0) × (raise_missed lower LowerEnabled ≡ pos 0)
  -- FI 0: nothing to any category, whatever the deviation and the enablements
  pub steady : (c : Category) (raise lower : Bool) (deviation : ℤ) → product_in c (pos 0) raise lower deviation ≡ pos 0
  -- a sum of -7 over 2 intervals: average -3
  pub toward_zero : average (negsuc 6) 2 ≡ negsuc 2
  -- subtotals RNEF -300, REF 50, LNEF -10, LEF 0: weight 310
  pub weight : weight_of mixed ≡ 310
  -- a million over the weights 310 of party 0, 0 of party 1 and 690 of the residual: 310,000, 0 and 690,000
  pub factors : (share 1000000 65 causers 0 ≡ 310000) × (share 1000000 65 causers 1 ≡ 0) × (share 1000000 65 causers 64 ≡ 690000)
