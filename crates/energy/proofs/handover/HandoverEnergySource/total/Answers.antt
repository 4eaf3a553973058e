use Rattle.std.proofs.Common.{cond, ltb, sym, ap, ◌∙◌}
use Rattle.energy.specs.Totals.{moved_region}
use Rattle.energy.proofs.handover.HandoverEnergySource.total.Goals as goal

pub returns : goal.returns
returns g c =
    let self = c.args.self.now in
    c.total.ensures ∙ ap (λ n. cond (ltb c.args.region 5) n 0) (sym (moved_region self.leaver self.successor (g.E.EnergySource.kwh self.below) c.args.region))
