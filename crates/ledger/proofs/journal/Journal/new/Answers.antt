use Rattle.std.proofs.Common.{refl, arith}
use Rattle.ledger.proofs.Postings.{magnitudes_zero}
use Rattle.ledger.proofs.journal.Journal.new.Goals as goal

pub invariant_of-result : goal.invariant_of-result
invariant_of-result c = record { inside = omega arith; lines = λ k l. omega (arith, l); debts = λ p s. refl; sizes = omega (arith, magnitudes_zero _ (λ p s. refl)) }
