-- What the two divisions of a recovery are made over, as the code holds it.
use Rattle.std.specs.Prelude.{◌≡◌, ℕ, ◌<◌}
use Rattle.foundation.specs.Sums.{listed}
use Rattle.recovery.specs.declared.weights.Weights.{Weights}
use Rattle.recovery.specs.Shares.{Basis, energy_in, customer, atce, cmpf, crmpf, weight}

pub record Weighed (D : ℕ) (b : Basis) (w : Weights) : Type 0 where
  pub energies : (p : ℕ) → p < 64 → listed w.energies p ≡ energy_in D b p
  pub causers : (k : ℕ) → k < 65 → listed w.causers k ≡ weight D b k
  pub customers : (p : ℕ) → p < 64 → listed w.customers p ≡ customer D b p
  pub all_causers : w.cmpf ≡ cmpf D b
  pub residual : w.crmpf ≡ crmpf D b
  pub all_customers : w.residual_energy ≡ atce D b
