use Rattle.std.proofs.Common.{◌≡◌}
use Rattle.foundation.specs.Sums.{sum_to}
use Rattle.recovery.specs.Split.{share_in, energy_of}
use Rattle.settle.proofs.exact.PartSplit.sums.Given as goal

abbrev pub invariant-loop-party : goal.invariant-loop-party
invariant-loop-party l = (l.energy ≡ sum_to l.party (energy_of l.self.shares)) × (l.share ≡ sum_to l.party (share_in l.self.shares))
