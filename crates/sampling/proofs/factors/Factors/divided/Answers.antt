use Rattle.std.proofs.Common.{lit≤}
use Rattle.foundation.specs.Sums.{listed}
use Rattle.sampling.proofs.Published.{whole_million, weights_fit}
use Rattle.sampling.proofs.factors.Factors.divided.Goals as goal

pub shares-requires : goal.shares-requires
shares-requires c = (lit≤ tt, weights_fit (listed c.args.weights.now) c.requires)

pub invariant_of-result : goal.invariant_of-result
invariant_of-result c = record { whole = whole_million 65 (listed c.args.weights.now) (listed c.shares.result) c.shares.ensures }
