use Rattle.std.proofs.Common.{refl}
use Rattle.energy.specs.Totals.{within_all, within_moved, within_within}
use Rattle.energy.proofs.island.Island.new.Goals as goal

pub returns : goal.returns
returns g c =
    let f = g.E.EnergySource.kwh c.args.below in
    record {
      made = (refl, refl);
      all = within_all c.args.regions f;
      handed = λ l s p r. within_moved c.args.regions l s f p r;
      piled = λ set p r. within_within set c.args.regions f p r;
    }
