use Rattle.std.proofs.Common.{◌≡◌}
use Rattle.foundation.specs.Sums.{sum_to_int}
use Rattle.sampling.proofs.Subtotals.{parts_of}
use Rattle.sampling.proofs.weights.Summed.subtotal.Given as goal

abbrev pub invariant-loop-unit : goal.invariant-loop-unit
invariant-loop-unit l = l.sum ≡ sum_to_int l.unit-index (parts_of l.self.units.now l.self.used l.owner l.category)
