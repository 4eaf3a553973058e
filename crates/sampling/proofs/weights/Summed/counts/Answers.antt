use Rattle.std.proofs.Common.{◌≡◌, rules}
use Rattle.foundation.proofs.Arrays.{made_at}
use Rattle.sampling.specs.Units.{sampled}
use Rattle.sampling.specs.Weights.{units_in}
use Rattle.sampling.proofs.weights.Summed.counts.Goals as goal

pub returns : goal.returns
returns c = λ o l. made_at _ (λ i y. y ≡ units_in (sampled c.args.self.now.units.now 0) i) _ (λ i y q h. search rules) _ _ c.from_fn.ensures.items o 0 l
