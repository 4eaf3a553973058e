use Rattle.std.proofs.Common.{◌≡◌, ◌-◌, ◌<◌, [], ◌∷◌, length, get_or, take, drop, sym, ap, ◌∙◌, rules}
use Rattle.std.proofs.lemmas.Result.{err_from_is_err_and}
use Rattle.settle.specs.Sheet.{said_of, words_of, texts}
use Rattle.settle.proofs.Words.{no_texts, nowhere, first_and_rest, asked_all, refused_all}
use Rattle.settle.proofs.sheet.parse.Goals as goal

pub returns-in-empty : goal.returns-in-empty
returns-in-empty c =
    let words = c.as_slice.result.now in
    let none : length words ≡ 0 = search rules in
    let all : words_of (said_of c.args.line.now) ≡ [] =
    ap words_of (sym c.said.ensures) ∙ sym c.in_ok-words.ensures ∙ ap texts (sym c.as_slice.ensures.value) ∙ no_texts words none in
    rw all tt

pub returns-in_err-asked-in-len1-up : goal.returns-in_err-asked-in-len1-up
returns-in_err-asked-in-len1-up c =
    let words = c.as_slice.result.now in
    let some : 0 < length words = search rules in
    let all : words_of (said_of c.args.line.now) ≡ (get_or words 0 nowhere).now ∷ texts (take (length words - 1) (drop 1 words)) =
    ap words_of (sym c.said.ensures) ∙ sym c.in_ok-words.ensures ∙ ap texts (sym c.as_slice.ensures.value) ∙ first_and_rest words nowhere some in
    let why = err_from_is_err_and c.from_residual-in_err-asked-in-len1-up.result c.from_residual-in_err-asked-in-len1-up.ensures.1 in
    rw (why.1, why.2) (refused_all _ _ _ all c.in_err-asked-in-len1-up.field-0.0 c.in_err-asked-in-len1-up.ensures)

pub returns : goal.returns
returns c =
    let words = c.as_slice.result.now in
    let some : 0 < length words = search rules in
    let all : words_of (said_of c.args.line.now) ≡ (get_or words 0 nowhere).now ∷ texts (take (length words - 1) (drop 1 words)) =
    ap words_of (sym c.said.ensures) ∙ sym c.in_ok-words.ensures ∙ ap texts (sym c.as_slice.ensures.value) ∙ first_and_rest words nowhere some in
    asked_all _ _ _ all c.in_ok-asked-in-len1-up.field-0 c.in_ok-asked-in-len1-up.ensures
