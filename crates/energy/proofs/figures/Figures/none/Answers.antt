use Rattle.std.proofs.Common.{arith}
use Rattle.energy.proofs.Tables.{zero_figures, grand_zero}
use Rattle.energy.proofs.figures.Figures.none.Goals as goal

pub invariant_of-result : goal.invariant_of-result
invariant_of-result c = record { limited = omega (arith, grand_zero _ (zero_figures 64 5)) }

pub returns : goal.returns
returns c = zero_figures 64 5
