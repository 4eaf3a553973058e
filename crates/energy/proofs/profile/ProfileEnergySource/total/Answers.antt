use Rattle.std.proofs.Common.{arith}
use Rattle.energy.specs.Divisions.{weightless_total, weighted_total}
use Rattle.energy.proofs.profile.ProfileEnergySource.total.Goals as goal

pub returns-then-is_weightless : goal.returns-then-is_weightless
returns-then-is_weightless c = weightless_total c.args.self.now.totals c.args.self.now.weights c.args.region (omega arith) c.if-is_weightless.ensures

pub returns : goal.returns
returns c = weighted_total c.args.self.now.totals c.args.self.now.weights c.args.region (omega arith) c.if-is_weightless.ensures
