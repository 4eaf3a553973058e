use Rattle.std.proofs.Common.{◌≡◌, ℕ, length, rules}
use Rattle.std.proofs.lemmas.Result.{err_from_is_err_and}
use Rattle.settle.specs.Terms.{Heading}
use Rattle.settle.specs.Sheet.{texts}
use Rattle.settle.proofs.Termed.{four_texts}
use Rattle.settle.proofs.Words.{nowhere, refused}
use Rattle.settle.proofs.terms.heading.Goals as goal

pub returns-in_err-part : goal.returns-in_err-part
returns-in_err-part c =
    let four : length c.args.words.now ≡ 4 = search rules in
    let why = err_from_is_err_and c.from_residual-in_err-part.result c.from_residual-in_err-part.ensures.1 in
    rw (why.1, why.2) (refused _ (λ h. h) (λ (h : ℕ × ℕ × ℕ × ℕ). Heading (texts c.args.words.now) h.0 h.1 h.2 h.3) (λ h said. (h.3, (rw (four_texts c.args.words.now nowhere four) at said).1.1.1)) c.in_err-part.field-0.0 c.in_err-part.ensures.answer)
