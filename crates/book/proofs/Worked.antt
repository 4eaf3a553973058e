-- The worked payments follow from the definition.
use Rattle.std.proofs.Common.{refl}
use Rattle.foundation.specs.Sums.{sum_to}
use Rattle.book.specs.Calls.{payment}
use Rattle.book.specs.Worked.{WorkedPayments}

pub worked : WorkedPayments
unfolding payment sum_to
worked = record { three_terms = refl; one_term = refl }
