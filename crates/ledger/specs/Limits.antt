-- The bounds of the amounts of a table and of a journal.
use Rattle.std.specs.Prelude.{◌≡◌, ℕ, ◌-◌, ◌*◌, ◌≤◌, true, List, ℤ, pos, int_le}
use Rattle.std.proofs.Common.{lit≤}
use Rattle.std.proofs.Math.Nat.{le_trans, min-le_right, mul-le-mul_right, sub-le}
use Rattle.ledger.specs.Amounts.{Bounded, magnitudes}
use Rattle.ledger.specs.Journal.{owed_in, records_in}

-- debts that a million lines at most have come to stay within the limit
pub within_limit : (f : ℕ → ℕ → ℤ) (lines : ℕ) → ((p s : ℕ) → int_le (f p s) (pos 0) ≡ true) → magnitudes f ≤ lines * 200000000000 → lines ≤ 1000000 → Bounded f
within_limit f lines debts sizes few = record { debts = λ p s h. debts p s; all = le_trans sizes (mul-le-mul_right 200000000000 few) }

pub left_few : (lines : ℕ) → 1000000 - lines ≤ 1000000
left_few lines = sub-le 1000000 lines

-- the same for the records of a journal, of which there are at most 4,096
pub journal_limit : (b : List ℕ) (written : ℕ) → ((p s : ℕ) → int_le (owed_in b written p s) (pos 0) ≡ true) → magnitudes (owed_in b written) ≤ written * 200000000000 → written ≤ records_in b → Bounded (owed_in b written)
journal_limit b written debts sizes inside = within_limit (owed_in b written) written debts sizes (le_trans inside (le_trans (min-le_right _ 4096) (lit≤ {m = 4096} {n = 1000000} tt)))

pub journal_few : (b : List ℕ) (written : ℕ) → records_in b - written ≤ 1000000
journal_few b written = le_trans (sub-le (records_in b) written) (le_trans (min-le_right _ 4096) (lit≤ {m = 4096} {n = 1000000} tt))
