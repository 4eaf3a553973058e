use Rattle.std.proofs.Common.{◌≡◌, ℕ, ◌<◌, length, get_or, set, pos, ap, ◌∙◌, arith, w16, SFits, of_z, rules}
use Rattle.std.proofs.lemmas.List.{get_or-set_same, get_or-set_other}
use Rattle.std.proofs.lemmas.Int.{to_z-of_z}
use Rattle.figures.proofs.Bytes.{number_same, values_shown, zeros}
use Rattle.figures.proofs.samples.record_of.Goals as goal

pub returns : goal.returns
returns c =
    let named = c.put-2.new.bytes in
    let enabled = set named 4 c.args.enablement in
    let b = c.put-4.new.bytes in
    let long : 4 < length named = search rules in
    let two : length c.args.values ≡ 2 = search rules in
    let f : SFits w16 (get_or c.args.values 0 (pos 0)) = search rules in
    let g : SFits w16 (get_or c.args.values 1 (pos 0)) = search rules in
    let fields : (i : ℕ) → i < 6 → get_or b i 0 ≡ get_or enabled i 0 = λ i l. c.put-4.ensures.rest i (λ e. omega arith) (λ e. omega arith) ∙ c.put-3.ensures.rest i (λ e. omega arith) (λ e. omega arith) in
    let numbers : (i : ℕ) → i < 4 → get_or b i 0 ≡ get_or named i 0 = λ i l. fields i (omega arith) ∙ get_or-set_other named 4 i c.args.enablement 0 (λ e. omega arith) in
    let start : (i : ℕ) → i < 2 → get_or b i 0 ≡ get_or c.put.new.bytes i 0 = λ i l. numbers i (omega arith) ∙ c.put-2.ensures.rest i (λ e. omega arith) (λ e. omega arith) in
    let none : (i : ℕ) → (i < 4 → ⊥) → (i ≡ 4 → ⊥) → get_or enabled i 0 ≡ 0 = λ i l m. get_or-set_other named 4 i c.args.enablement 0 m ∙ c.put-2.ensures.rest i (λ e. omega arith) (λ e. omega arith) ∙ c.put.ensures.rest i (λ e. omega arith) (λ e. omega arith) ∙ zeros 156 i in
    record {
      interval = number_same b c.put.new.bytes 0 0 (start 0 (omega arith)) (start 1 (omega arith)) ∙ c.put.ensures.number;
      unit = number_same b named 2 2 (numbers 2 (omega arith)) (numbers 3 (omega arith)) ∙ c.put-2.ensures.number;
      enablement = fields 4 (omega arith) ∙ get_or-set_same named 4 c.args.enablement 0 long;
      last = fields 5 (omega arith) ∙ none 5 (λ l. omega arith) (λ e. omega arith);
      value = λ k l.
          values_shown b c.args.values two f g
          (number_same b c.put-3.new.bytes 6 6 (c.put-4.ensures.rest 6 (λ e. omega arith) (λ e. omega arith)) (c.put-4.ensures.rest 7 (λ e. omega arith) (λ e. omega arith)) ∙ c.put-3.ensures.number ∙ c.cast_unsigned.ensures ∙ ap (of_z w16) (to_z-of_z w16 _ f))
          (c.put-4.ensures.number ∙ c.cast_unsigned-2.ensures ∙ ap (of_z w16) (to_z-of_z w16 _ g))
          (λ i m. c.put-4.ensures.rest i (λ e. omega arith) (λ e. omega arith) ∙ c.put-3.ensures.rest i (λ e. omega arith) (λ e. omega arith) ∙ none i (λ e. omega arith) (λ e. omega arith))
          k;
    }
