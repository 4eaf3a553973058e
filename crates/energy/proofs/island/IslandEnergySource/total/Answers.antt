use Rattle.std.proofs.Common.{◌∙◌}
use Rattle.energy.specs.Totals.{total_hidden, total_shown}
use Rattle.energy.proofs.island.IslandEnergySource.total.Goals as goal

pub returns-then-not-in_set : goal.returns-then-not-in_set
returns-then-not-in_set g c = total_hidden c.args.self.now.regions (g.E.EnergySource.kwh c.args.self.now.below) c.args.region c.if-not-in_set.ensures

pub returns : goal.returns
returns g c = c.total.ensures ∙ total_shown c.args.self.now.regions (g.E.EnergySource.kwh c.args.self.now.below) c.args.region c.if-not-in_set.ensures
