use Rattle.std.proofs.Common.{refl}
use Rattle.energy.specs.Totals.{moved_region, moved_other}
use Rattle.energy.proofs.handover.Handover.new.Goals as goal

pub returns : goal.returns
returns g c =
    let f = g.E.EnergySource.kwh c.args.below in
    record {
      made = (refl, refl, refl);
      totals = λ r. moved_region c.args.leaver c.args.successor f r;
      others = λ p r d e. moved_other c.args.leaver c.args.successor f p r d e;
    }
