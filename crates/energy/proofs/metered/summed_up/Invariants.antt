use Rattle.std.proofs.Common.{◌≡◌, ℕ}
use Rattle.foundation.specs.Sums.{sum_to}
use Rattle.energy.specs.Energy.{grand}
use Rattle.energy.specs.Metered.{kwh_at, summed}
use Rattle.energy.specs.Table.{figure_of}
use Rattle.energy.proofs.metered.summed_up.Given as goal

abbrev pub invariant-loop-record : goal.invariant-loop-record
invariant-loop-record l = record { each : (p r : ℕ) → figure_of l.figures.rows p r ≡ summed l.bytes l.record-index p r; all : grand (figure_of l.figures.rows) ≡ sum_to l.record-index (kwh_at l.bytes) }
