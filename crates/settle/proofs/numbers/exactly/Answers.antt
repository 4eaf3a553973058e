use Rattle.std.proofs.Common.{◌<◌, ◌≤◌, length, ◌∙◌, refl, arith, rules, length-set}
use Rattle.std.proofs.lemmas.List.{take_all}
use Rattle.std.proofs.lemmas.Result.{err_from_is_err_and}
use Rattle.settle.specs.Numbers.{Numbers, Exactly}
use Rattle.settle.specs.Sheet.{texts}
use Rattle.settle.proofs.Words.{length_texts, refused}
use Rattle.settle.proofs.Written.{as_many, put_number, number_at, within}
use Rattle.settle.proofs.numbers.exactly.Goals as goal

pub returns-then-words-clause-answer : goal.returns-then-words-clause-answer
returns-then-words-clause-answer g c ns h =
    let many = as_many c.args.most (texts c.args.words.now) ns h.1 in
    let same = length_texts c.args.words.now _ refl in
    search rules

pub returns-in_err-numbers-clause-answer : goal.returns-in_err-numbers-clause-answer
returns-in_err-numbers-clause-answer g c =
    let why = err_from_is_err_and c.from_residual.result c.from_residual.ensures.1 in
    rw (why.1, why.2) (refused _ (λ ns. ns) (λ ns. Exactly g.row.N c.args.most (texts c.args.words.now) ns) (λ ns h. number_at c.args.most c.args.words.now c.loop-k.k _ ns c.loop-k-test.true h.1) c.in_err-numbers.field-0.0 c.in_err-numbers.ensures.answer)

pub loop-k-preserved : goal.loop-k-preserved
loop-k-preserved g c =
    let ns = c.loop-k.numbers in
    let inside : c.loop-k.k < length ns = omega (arith, c.loop-k.invariant.long) in
    record {
      long = length-set ns c.loop-k.k c.in_ok-numbers.field-0 ∙ c.loop-k.invariant.long;
      read = put_number c.args.most c.args.words.now ns c.loop-k.k _ c.in_ok-numbers.field-0 c.loop-k-test.true inside c.loop-k.invariant.read c.in_ok-numbers.ensures.answer;
    }

pub returns : goal.returns
returns g c =
    let long = c.loop-k.invariant.long in
    let all : length c.args.words.now ≤ c.loop-k.k = omega arith in
    let filled : length c.loop-k.numbers ≤ c.loop-k.k = omega (arith, long) in
    let read : Numbers c.args.most (texts c.args.words.now) c.loop-k.numbers =
    rw (take_all c.loop-k.k c.args.words.now all, take_all c.loop-k.k c.loop-k.numbers filled) at c.loop-k.invariant.read in
    record { answer = (long, read); small = within c.args.most _ _ read }
