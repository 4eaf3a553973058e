use Rattle.std.proofs.Common.{arith}
use Rattle.settle.proofs.exact.PartSplit.of_residual.Goals as goal

pub overflow_add-weights : goal.overflow_add-weights
overflow_add-weights c = omega (arith, c.cmpf.ensures, c.crmpf.ensures, c.args.self.now.bounded.weights)

pub of_weight-requires : goal.of_weight-requires
of_weight-requires c = record { part = c.args.self.now.bounded.small; some = omega (arith, c.cmpf.ensures, c.crmpf.ensures, c.args.self.now.bounded.weighed) }
