use Rattle.std.proofs.Common.{◌≡◌, ◌≤◌}
use Rattle.settle.specs.Standing.{standing_under_serial}
use Rattle.settle.proofs.run.ledgers.standing_under.Given as goal

abbrev pub invariant-loop-party : goal.invariant-loop-party
invariant-loop-party g l = (l.count ≡ standing_under_serial (g.L.Ledger.owed l.ledger) l.serial l.party) × (l.count ≤ l.party)
