use Rattle.std.proofs.Common.{◌≡◌, ◌-◌, ◌*◌, ◌≤◌}
use Rattle.settle.specs.Standing.{standing_in}
use Rattle.settle.proofs.run.ledgers.standing.Given as goal

abbrev pub invariant-loop-serial : goal.invariant-loop-serial
invariant-loop-serial g l = (l.count ≡ standing_in (g.L.Ledger.owed l.ledger) (l.serial - 1)) × (l.count ≤ 64 * (l.serial - 1))
