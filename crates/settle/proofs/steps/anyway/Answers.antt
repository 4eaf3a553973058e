use Rattle.std.proofs.Common.{◌≡◌, ℕ, true, false, List, [], ◌∷◌, length, ap, ◌∙◌, rules}
use Rattle.settle.proofs.Words.{no_texts, one_text, length_texts, first_text, nowhere}
use Rattle.settle.proofs.steps.anyway.Goals as goal

pub returns-in-empty : goal.returns-in-empty
returns-in-empty c =
    let none : length c.args.words.now ≡ 0 = search rules in
    no_texts c.args.words.now none

pub returns-in-anyway : goal.returns-in-anyway
returns-in-anyway c =
    let one : length c.args.words.now ≡ 1 = search rules in
    one_text c.args.words.now _ one ∙ ap (λ (word : List ℕ). word ∷ []) c.in-anyway.is-anyway

pub returns-in_default : goal.returns-in_default
returns-in_default c true e =
    let first = first_text c.args.words.now nowhere _ _ e in
    search rules
returns-in_default c false e =
    let none = length_texts c.args.words.now _ e in
    search rules

pub returns-in_default-2 : goal.returns-in_default-2
returns-in_default-2 c true e =
    let one = length_texts c.args.words.now _ e in
    search rules
returns-in_default-2 c false e =
    let none = length_texts c.args.words.now _ e in
    search rules
