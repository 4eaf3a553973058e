-- Which lines of a run sheet choose the ledger.
use Rattle.std.specs.Prelude.{◌≡◌, ℕ, zero, suc, ◌<◌, ◌≤◌, Bool, true, false, List, [], ◌∷◌, length}
use Rattle.settle.specs.declared.sheet.Line.{Line}
use Rattle.settle.specs.declared.sheet.Step.{Step}
use Rattle.settle.specs.declared.sheet.Step.TheVariants.{Units, UnitsFile, Samples, Publish, Metered, Profile, Island, Handover, Totals, Dispatch, Table, Journal, Amounts, Records, Split, Call}

abbrev pub chooses_ledger : Step → Bool
chooses_ledger (Units owners) = false
chooses_ledger (UnitsFile name) = false
chooses_ledger (Samples name) = false
chooses_ledger (Publish anyway) = false
chooses_ledger (Metered name) = false
chooses_ledger (Profile totals weights) = false
chooses_ledger (Island set) = false
chooses_ledger (Handover leaver successor) = false
chooses_ledger Totals = false
chooses_ledger (Dispatch set) = false
chooses_ledger Table = true
chooses_ledger (Journal records name) = true
chooses_ledger Amounts = false
chooses_ledger (Records name) = false
chooses_ledger (Split part set) = false
chooses_ledger (Call call) = false

-- there is a line at the place, and it chooses the ledger
abbrev pub ChoosesAt : List Line → ℕ → Type 0
ChoosesAt [] k = ⊥
ChoosesAt (line ∷ lines) zero = chooses_ledger line.step ≡ true
ChoosesAt (line ∷ lines) (suc k) = ChoosesAt lines k

-- the first such place from one on
pub record FirstFrom (start : ℕ) (lines : List Line) (k : ℕ) : Type 0 where
  pub onward : start ≤ k
  pub inside : k < length lines
  pub chosen : ChoosesAt lines k
  pub first : (j : ℕ) → start ≤ j → j < k → ChoosesAt lines j → ⊥
