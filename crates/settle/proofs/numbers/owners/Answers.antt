use Rattle.std.proofs.Common.{ℕ, ◌≤◌, length, vec_items, Vec, Global, arith}
use Rattle.std.proofs.lemmas.List.{take_all}
use Rattle.std.proofs.lemmas.Result.{err_from_is_err_and}
use Rattle.settle.specs.Numbers.{Numbers}
use Rattle.settle.specs.Sheet.{texts}
use Rattle.settle.proofs.Words.{refused}
use Rattle.settle.proofs.Written.{numbers_more, number_at}
use Rattle.settle.proofs.numbers.owners.Goals as goal

pub returns-in_err-number : goal.returns-in_err-number
returns-in_err-number c =
    let why = err_from_is_err_and c.from_residual.result c.from_residual.ensures.1 in
    rw (why.1, why.2) (refused _ (λ (v : Vec ℕ Global). v.items) (λ ns. Numbers 255 (texts c.args.words.now) ns) (λ ns h. number_at 255 c.args.words.now c.loop-word.word-index _ ns c.loop-word-test.true h) c.in_err-number.field-0.0 c.in_err-number.ensures.answer)

pub loop-word-preserved : goal.loop-word-preserved
loop-word-preserved c =
    rw c.in_ok-push.ensures.items
    (numbers_more 255 c.args.words.now c.loop-word.word-index _ (vec_items c.loop-word.owners) c.in_ok-number.field-0 c.loop-word-test.true c.loop-word.invariant c.in_ok-number.ensures.answer)

pub returns : goal.returns
returns c =
    let all : length c.args.words.now ≤ c.loop-word.word-index = omega arith in
    rw (take_all c.loop-word.word-index c.args.words.now all) at c.loop-word.invariant
