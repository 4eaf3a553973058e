use Rattle.std.proofs.Common.{pos, refl, ap, arith}
use Rattle.ledger.proofs.Postings.{magnitudes_zero}
use Rattle.ledger.proofs.Tables.{zero_amounts}
use lib.Signed.{le_z}
use Rattle.ledger.proofs.table.Table.new.Goals as goal

pub invariant_of-result : goal.invariant_of-result
invariant_of-result c = record { few = omega arith; debts = λ p s. ap (λ z. le_z z (pos 0)) (zero_amounts 2048 p s); sizes = omega (arith, magnitudes_zero _ (zero_amounts 2048)) }

pub returns : goal.returns
returns c = record { amounts = zero_amounts 2048; lines = refl; history = record { sums = λ p s h. zero_amounts 2048 p s; lines = refl } }
