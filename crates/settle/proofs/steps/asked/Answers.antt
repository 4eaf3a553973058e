-- Where words follow a keyword that nothing may follow, no step is asked for.
use Rattle.std.proofs.Common.{codes, rules}
use Rattle.std.proofs.lemmas.Result.{err_from_is_err_and}
use Rattle.settle.specs.Sheet.{texts}
use Rattle.settle.proofs.Words.{refused_nothing}
use Rattle.settle.proofs.steps.asked.Goals as goal

pub returns-in_err-nothing-in-totals : goal.returns-in_err-nothing-in-totals
returns-in_err-nothing-in-totals c =
    let why = err_from_is_err_and c.from_residual-in_err-nothing-in-totals.result c.from_residual-in_err-nothing-in-totals.ensures.1 in
    rw (why.1, why.2) (refused_nothing (codes "totals") c.args.keyword.now (texts c.args.words.now) c.in_err-nothing-in-totals.field-0.0 c.in-totals.is (λ step asks. search rules) c.in_err-nothing-in-totals.ensures)

pub returns-in_err-nothing-in-table : goal.returns-in_err-nothing-in-table
returns-in_err-nothing-in-table c =
    let why = err_from_is_err_and c.from_residual-in_err-nothing-in-table.result c.from_residual-in_err-nothing-in-table.ensures.1 in
    rw (why.1, why.2) (refused_nothing (codes "table") c.args.keyword.now (texts c.args.words.now) c.in_err-nothing-in-table.field-0.0 c.in-table.is (λ step asks. search rules) c.in_err-nothing-in-table.ensures)

pub returns-in_err-nothing-in-amounts : goal.returns-in_err-nothing-in-amounts
returns-in_err-nothing-in-amounts c =
    let why = err_from_is_err_and c.from_residual-in_err-nothing-in-amounts.result c.from_residual-in_err-nothing-in-amounts.ensures.1 in
    rw (why.1, why.2) (refused_nothing (codes "amounts") c.args.keyword.now (texts c.args.words.now) c.in_err-nothing-in-amounts.field-0.0 c.in-amounts.is (λ step asks. search rules) c.in_err-nothing-in-amounts.ensures)
