use Rattle.std.proofs.Common.{get_or, pos, sym, arith, w16, SFits, rules}
use Rattle.std.proofs.lemmas.Result.{err_from_is_err_and}
use Rattle.std.proofs.lemmas.Int.{to_z-of_z}
use Rattle.foundation.proofs.First.{first_to_all, first_to_at}
use Rattle.sampling.proofs.check.check_values.Goals as goal

pub returns-in_err-check_value : goal.returns-in_err-check_value
returns-in_err-check_value c =
    let fits : SFits w16 (get_or c.args.values.now c.loop-value.value-index (pos 0)) = search rules in
    let p = err_from_is_err_and c.from_residual.result c.from_residual.ensures.1 in
    rw (p.1, p.2) (sym (first_to_at _ _ c.loop-value.value-index _ (omega arith) c.loop-value.invariant (sym (simp to_z-of_z at c.in_err-check_value.ensures))))

pub returns : goal.returns
returns c = sym (first_to_all _ _ (λ k h. c.loop-value.invariant k (omega arith)))
