use Rattle.std.proofs.Common.{arith}
use Rattle.foundation.specs.Sums.{listed}
use Rattle.sampling.proofs.Published.{factor_most}
use Rattle.sampling.proofs.factors.Factors.factor.Goals as goal

pub overflow_cast-result-2 : goal.overflow_cast-result-2
overflow_cast-result-2 c = record { fits = omega (arith, factor_most (listed c.args.self.now.factors) c.args.party (omega arith) c.args.self.now.whole) }
