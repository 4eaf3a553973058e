-- How many amounts of a ledger are not 0.
use Rattle.std.specs.Prelude.{ℕ, ◌+◌, ℤ, unsigned_abs}
use Rattle.foundation.specs.Sums.{sum_to}
use Rattle.ledger.specs.Amounts.{seen}
use Rattle.recovery.specs.Shares.{lines_for}

-- of the first parties, under a serial
abbrev pub standing_under_serial : (ℕ → ℕ → ℤ) → (serial parties : ℕ) → ℕ
standing_under_serial owed serial n = lines_for (λ p. unsigned_abs (seen owed p serial)) n

-- of all parties, under the first serials, which are counted from 1
abbrev pub standing_in : (ℕ → ℕ → ℤ) → (serials : ℕ) → ℕ
standing_in owed n = sum_to n (λ k. standing_under_serial owed (k + 1) 64)
