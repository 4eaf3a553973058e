use Rattle.std.proofs.Common.{◌≡◌, arith, rules}
use Rattle.sampling.specs.Units.{sampled}
use Rattle.sampling.specs.Weights.{loss, subtotal}
use Rattle.sampling.proofs.Subtotals.{loss_most}
use Rattle.sampling.proofs.weights.Summed.loss.Goals as goal

pub returns-clause-bound : goal.returns-clause-bound
returns-clause-bound c =
    let value : c.unsigned_abs.result ≡ loss (subtotal (sampled c.args.self.now.units.now c.args.self.now.used) c.args.owner c.args.category) = search rules in
    omega (arith, value, loss_most c.args.self.now.units.now c.args.self.now.used c.args.owner c.args.category c.args.self.now.few c.args.self.now.bounded)
