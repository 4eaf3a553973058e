-- Which lines choose the ledger.
use Rattle.std.proofs.Common.{◌≡◌, ℕ, zero, suc, ◌+◌, ◌-◌, ◌<◌, ◌≤◌, Bool, true, false, List, [], ◌∷◌, length, get_or, drop, Some, None, ⊎_elim, sym, ap, ◌∙◌, arith, length-drop, rules}
use Rattle.std.specs.List.{position, position_or_len}
use Rattle.std.proofs.lemmas.List.{get_or-drop}
use Rattle.std.proofs.lemmas.List.Quantifiers.{position-Some}
use Rattle.std.proofs.lemmas.List.Sums.{fails_before_first}
use Rattle.std.proofs.lemmas.Bool.{cases_lt, lt-ltb}
use Rattle.settle.specs.declared.sheet.Line.{Line}
use Rattle.settle.specs.declared.sheet.Step.TheVariants.{Totals}
use Rattle.settle.specs.Choice.{ChoosesAt, FirstFrom, chooses_ledger}

chooses_at : (lines : List Line) (k : ℕ) (d : Line) → k < length lines → chooses_ledger (get_or lines k d).step ≡ true → ChoosesAt lines k
chooses_at [] k d l e = absurd (omega arith)
chooses_at (line ∷ lines) zero d l e = e
chooses_at (line ∷ lines) (suc k) d l e = chooses_at lines k d (omega arith) e

not_at : (lines : List Line) (k : ℕ) (d : Line) → chooses_ledger (get_or lines k d).step ≡ false → ChoosesAt lines k → ⊥
not_at [] k d e h = h
not_at (line ∷ lines) zero d e h = search rules
not_at (line ∷ lines) (suc k) d e h = not_at lines k d e h

at_inside : (lines : List Line) (k : ℕ) → ChoosesAt lines k → k < length lines
at_inside [] k h = elim h [ ]
at_inside (line ∷ lines) zero h = omega arith
at_inside (line ∷ lines) (suc k) h = omega (arith, at_inside lines k h)

no_line : Line
no_line = record { number = 0; step = Totals }

abbrev choosing : Line → Bool
choosing line = chooses_ledger line.step

none_passes : (lines : List Line) (i : ℕ) → position choosing lines ≡ None → i < length lines → choosing (get_or lines i no_line) ≡ false
none_passes lines i e l =
    ⊎_elim
    (λ (s : position_or_len choosing lines < length lines). let q = rw (lt-ltb _ _ s) at e in cc)
    (λ (s : length lines ≤ position_or_len choosing lines). fails_before_first choosing lines i no_line (omega arith))
    (cases_lt (position_or_len choosing lines) (length lines))

module _ (lines : List Line) (from : ℕ) where
  -- line j is line j - from of those from there on
  onward : (j : ℕ) → from ≤ j → get_or (drop from lines) (j - from) no_line ≡ get_or lines j no_line
  onward j l = get_or-drop from lines (j - from) no_line ∙ ap (λ i. get_or lines i no_line) (omega arith)

  -- none chooses past the last line
  pub none_past : length lines < from → (k : ℕ) → from ≤ k → ChoosesAt lines k → ⊥
  none_past l k g h = omega (arith, at_inside lines k h)

  pub none_from : position choosing (drop from lines) ≡ None → (k : ℕ) → from ≤ k → ChoosesAt lines k → ⊥
  none_from e k g h =
      let inside = at_inside lines k h in
      let long = length-drop from lines in
      not_at lines k no_line (ap choosing (sym (onward k g)) ∙ none_passes (drop from lines) (k - from) e (omega arith)) h

  pub first_from : (k : ℕ) → position choosing (drop from lines) ≡ Some k → FirstFrom from lines (from + k)
  first_from k e =
      let found = position-Some choosing (drop from lines) k no_line e in
      let inside : from + k < length lines = omega (arith, found.0, length-drop from lines) in
      record {
        onward = omega arith;
        inside = inside;
        chosen = chooses_at lines (from + k) no_line inside (ap choosing (sym (get_or-drop from lines k no_line)) ∙ found.1);
        first = λ j g l h. not_at lines j no_line (ap choosing (sym (onward j g)) ∙ found.2 (j - from) (omega arith)) h;
      }
