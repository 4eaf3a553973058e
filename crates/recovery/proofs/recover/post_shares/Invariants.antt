use Rattle.std.proofs.Common.{◌≡◌, ℕ, ◌+◌, ◌≤◌}
use Rattle.foundation.specs.Sums.{listed}
use Rattle.recovery.specs.Recovery.{lowered}
use Rattle.recovery.specs.Shares.{lines_for}
use Rattle.recovery.proofs.recover.post_shares.Given as goal

abbrev pub invariant-loop-party : goal.invariant-loop-party
invariant-loop-party g l =
    ((q t : ℕ) → g.L.Ledger.owed l.ledger q t ≡ lowered (listed l.shares) l.party l.serial (g.L.Ledger.owed l.initial.ledger) q t)
    × (g.L.Ledger.room l.initial.ledger ≤ g.L.Ledger.room l.ledger + lines_for (listed l.shares) l.party)
    × (g.L.Ledger.room l.ledger ≤ g.L.Ledger.room l.initial.ledger)
