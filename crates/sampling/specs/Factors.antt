-- What published factors mean.
use Rattle.std.specs.Prelude.{◌≡◌, ℕ, ◌<◌, Bool, cond, ◌&&◌, nat_lt}
use Rattle.foundation.specs.Sums.{listed}
use Rattle.sampling.specs.declared.factors.Factors.{Factors}
use Rattle.sampling.specs.Weights.{Sampled, factor_in, units_in}

-- a party's factor
abbrev pub factor_of : Factors → ℕ → ℕ
factor_of f p = cond (nat_lt p 64) (listed f.factors p) 0

-- whether a party has a unit
abbrev pub is_factored : Factors → ℕ → Bool
is_factored f p = nat_lt p 64 && nat_lt 0 (listed f.units p)

-- the residual's factor, RMPF
abbrev pub residual_of : Factors → ℕ
residual_of f = listed f.factors 64

-- how many units an owner has
abbrev pub owned_by : Factors → ℕ → ℕ
owned_by f o = cond (nat_lt 64 o) 0 (listed f.units o)

-- the factors are those of what was sampled
pub record Published (s : Sampled) (f : Factors) : Type 0 where
  pub factor : (p : ℕ) → p < 64 → factor_of f p ≡ factor_in s p
  pub residual : residual_of f ≡ factor_in s 64
  pub units : (o : ℕ) → o < 65 → owned_by f o ≡ units_in s o
