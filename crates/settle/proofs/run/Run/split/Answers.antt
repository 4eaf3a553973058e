-- Written down, as a search goes on without end where the split is not the one that was asked for.
use Rattle.std.proofs.Common.{arith}
use Rattle.settle.proofs.run.Run.split.Goals as goal

pub summary-requires : goal.summary-requires
summary-requires c = record { asked = omega (arith, c.in-Ok.ensures.kept.0) }

pub table-requires : goal.table-requires
table-requires c = record { asked = (omega (arith, c.in-Ok.ensures.kept.0), c.in-Ok.ensures.kept.1) }
