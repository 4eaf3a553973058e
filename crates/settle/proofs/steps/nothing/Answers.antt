use Rattle.std.proofs.Common.{◌≡◌, length, rules}
use Rattle.settle.proofs.Words.{no_texts, length_texts}
use Rattle.settle.proofs.steps.nothing.Goals as goal

pub returns-then-is_empty : goal.returns-then-is_empty
returns-then-is_empty c =
    let none : length c.args.words.now ≡ 0 = search rules in
    no_texts c.args.words.now none

pub returns-else-is_empty : goal.returns-else-is_empty
returns-else-is_empty c u e =
    let none = length_texts c.args.words.now _ e in
    search rules
