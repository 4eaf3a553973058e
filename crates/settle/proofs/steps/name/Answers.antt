use Rattle.std.proofs.Common.{◌≡◌, ℕ, List, [], ◌∷◌, length, sym, ap, ◌∙◌, rules}
use Rattle.settle.proofs.Words.{one_text, length_texts}
use Rattle.settle.proofs.steps.name.Goals as goal

pub returns-in_ok-from_str-in-len1 : goal.returns-in_ok-from_str-in-len1
returns-in_ok-from_str-in-len1 c =
    let one : length c.args.words.now ≡ 1 = search rules in
    one_text c.args.words.now _ one ∙ ap (λ (word : List ℕ). word ∷ []) (sym c.in_ok-from_str-in-len1.ensures.ok)

pub returns-in_default : goal.returns-in_default
returns-in_default c x e =
    let one = length_texts c.args.words.now _ e in
    search rules
