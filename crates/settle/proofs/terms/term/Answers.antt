use Rattle.std.proofs.Common.{◌≡◌, length, rules}
use Rattle.settle.proofs.Termed.{three_words}
use Rattle.settle.proofs.Words.{nowhere}
use Rattle.settle.proofs.terms.term.Goals as goal

pub returns : goal.returns
returns c =
    let three : length c.args.words.now ≡ 3 = search rules in
    rw (three_words c.args.words.now nowhere three) ((c.in_ok-region.ensures.answer, (c.in_ok-service.ensures.answer, c.in_ok-amount.ensures.answer)), tt)
