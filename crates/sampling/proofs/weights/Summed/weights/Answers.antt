use Rattle.std.proofs.Common.{◌≡◌, ℕ, ◌^◌, ◌<◌, ◌≤◌, get_or, rules}
use Rattle.foundation.proofs.Arrays.{made_at}
use Rattle.sampling.specs.Units.{sampled}
use Rattle.sampling.specs.Weights.{weight}
use Rattle.sampling.proofs.weights.Summed.weights.Goals as goal

pub returns : goal.returns
returns c =
    let summed = sampled c.args.self.now.units.now c.args.self.now.used in
    let each : (o : ℕ) → o < 65 → (get_or c.from_fn.result o 0 ≡ weight summed o) × (get_or c.from_fn.result o 0 ≤ 2 ^ 57) = λ o l. made_at _ (λ i y. (y ≡ weight summed i) × (y ≤ 2 ^ 57)) _ (λ i y q h. search rules) _ _ c.from_fn.ensures.items o 0 l in
    record { value = λ o l. (each o l).0; bound = λ o l. (each o l).1 }
