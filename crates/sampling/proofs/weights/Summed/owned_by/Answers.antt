use Rattle.std.proofs.Common.{◌≡◌, cond, eqb, ◌∙◌, rules}
use Rattle.std.specs.List.{count_by}
use Rattle.foundation.proofs.Lists.{sum_by_places}
use Rattle.sampling.specs.declared.unit.Unit.{Unit}
use Rattle.sampling.specs.Units.{no_unit}
use Rattle.sampling.specs.Weights.{units_in}
use Rattle.sampling.proofs.weights.Summed.owned_by.Goals as goal

pub returns : goal.returns
unfolding units_in
returns c =
    let counted : c.count.result ≡ count_by (λ (u : Unit). eqb u.owner c.args.owner) c.args.self.now.units.now = search rules in
    counted ∙ sum_by_places (λ u. cond (eqb u.owner c.args.owner) 1 0) c.args.self.now.units.now no_unit
