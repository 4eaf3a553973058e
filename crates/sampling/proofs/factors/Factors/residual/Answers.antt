use Rattle.std.proofs.Common.{arith, lit<}
use Rattle.foundation.specs.Sums.{listed}
use Rattle.sampling.proofs.Published.{factor_most}
use Rattle.sampling.proofs.factors.Factors.residual.Goals as goal

pub overflow_cast-result : goal.overflow_cast-result
overflow_cast-result c = record { fits = omega (arith, factor_most (listed c.args.self.now.factors) 64 (lit< tt) c.args.self.now.whole) }
