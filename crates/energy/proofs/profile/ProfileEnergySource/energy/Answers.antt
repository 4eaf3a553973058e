use Rattle.std.proofs.Common.{arith}
use Rattle.foundation.specs.Sums.{listed}
use Rattle.foundation.proofs.Shares.{share_le}
use Rattle.foundation.proofs.Sums.{sum_to_one_le}
use Rattle.energy.proofs.profile.ProfileEnergySource.energy.Goals as goal

pub overflow_cast-result-2 : goal.overflow_cast-result-2
overflow_cast-result-2 c =
    let totals = listed c.args.self.now.totals in
    record { fits = omega (arith, c.args.self.now.limited, sum_to_one_le 5 totals c.args.region (omega arith), c.parts.ensures c.args.party (omega arith), share_le (totals c.args.region) 64 (listed c.args.self.now.weights) c.args.party (omega arith)) }
