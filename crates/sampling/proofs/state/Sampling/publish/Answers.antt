use Rattle.std.proofs.Common.{◌≡◌, vec_items, refl, ap, ◌∙◌}
use Rattle.foundation.specs.Sums.{listed}
use Rattle.sampling.specs.Units.{sampled}
use Rattle.sampling.specs.Weights.{units_in, weight}
use Rattle.sampling.proofs.History.{gone_same, published_same}
use Rattle.sampling.proofs.Published.{published}
use Rattle.sampling.proofs.state.Sampling.publish.Goals as goal

pub returns : goal.returns
returns c =
    let same : sampled c.new-summed.result.units.now c.new-summed.result.used ≡ sampled (vec_items c.args.self.units) c.args.self.used = rw (c.new-summed.ensures.units, c.as_slice.ensures.value, c.new-summed.ensures.used) refl in
    let all =
    published (vec_items c.args.self.units) c.args.self.used c.weights.result c.divided.result
    (λ o l. c.weights.ensures.value o l ∙ ap (λ s. weight s o) same)
    c.divided.ensures.factors
    (λ o l. ap (λ us. listed us o) c.divided.ensures.units ∙ c.counts.ensures o l ∙ ap (λ us. units_in (sampled us 0) o) (c.new-summed.ensures.units ∙ c.as_slice.ensures.value)) in
    record { answer = all; law = λ h g. published_same _ _ c.divided.result (gone_same h c.args.self g) all }
