use Rattle.std.proofs.Common.{sym, arith}
use Rattle.std.proofs.lemmas.Result.{err_from_is_err_and}
use Rattle.foundation.proofs.First.{first_to_all, first_to_at}
use Rattle.book.proofs.check.check_terms.Goals as goal

pub returns-in_err-check_term : goal.returns-in_err-check_term
returns-in_err-check_term c =
    let p = err_from_is_err_and c.from_residual.result c.from_residual.ensures.1 in
    rw (p.1, p.2) (sym (first_to_at _ _ c.loop-place.place _ c.loop-place-test.true c.loop-place.invariant (sym c.in_err-check_term.ensures)))

pub returns : goal.returns
returns c = sym (first_to_all _ _ (λ k h. c.loop-place.invariant k (omega arith)))
