use Rattle.std.proofs.lemmas.Result.{err_from_is_err_and}
use Rattle.settle.proofs.Words.{refused_heading}
use Rattle.settle.proofs.steps.claim.Goals as goal

pub returns-in_err-number : goal.returns-in_err-number
returns-in_err-number c =
    let why = err_from_is_err_and c.from_residual-in_err-number.result c.from_residual-in_err-number.ensures.1 in
    let parts = rw c.in_ok-first.ensures.ok_part at c.split_at_checked.ensures.cases in
    rw (why.1, why.2) (refused_heading c.args.words.now _ parts.1 c.in_err-number.field-0.0 c.in_err-number.ensures)
