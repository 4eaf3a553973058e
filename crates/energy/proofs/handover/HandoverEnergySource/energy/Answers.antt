use Rattle.std.proofs.Common.{arith}
use Rattle.energy.specs.Totals.{two_seen}
use Rattle.energy.proofs.handover.HandoverEnergySource.energy.Goals as goal

pub overflow_add-result : goal.overflow_add-result
overflow_add-result g c =
    let self = c.args.self.now in
    record { fits = omega (arith, c.energy-then-party-self-2.ensures, c.energy-then-party-self-2-2.ensures, two_seen self.leaver self.successor (g.E.EnergySource.kwh self.below) c.args.region c.if-not-moves.ensures, g.met.E.EnergySource.bounded self.below) }
