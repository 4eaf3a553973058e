use Rattle.std.proofs.Common.{◌≡◌}
use Rattle.foundation.specs.Sums.{sum_to_int}
use Rattle.ledger.specs.Amounts.{seen}
use Rattle.book.proofs.book.Book.total.Given as goal

abbrev pub invariant-loop-party : goal.invariant-loop-party
invariant-loop-party g l = l.sum ≡ sum_to_int l.party (λ p. seen (g.L.Ledger.owed l.ledger) p l.serial)
