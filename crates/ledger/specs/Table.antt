-- The amounts of a table.
use Rattle.std.specs.Prelude.{◌≡◌, ℕ, ◌+◌, ◌-◌, ◌*◌, List, length, ℤ, pos, slice_index_or}
use Rattle.ledger.specs.Amounts.{seen}
use Rattle.ledger.specs.Posts.{Event, Holds, lines_in}

-- the place of a party's amount under a serial
abbrev pub place_of : ℕ → ℕ → ℕ
place_of p s = 32 * p + (s - 1)

abbrev pub amounts_of : List ℤ → ℕ → ℕ → ℤ
amounts_of xs = seen (λ p s. slice_index_or xs (place_of p s) (pos 0))

-- a table that has gone through the posts of h
pub record TableHolds (h : List Event) (amounts : List ℤ) (posted : ℕ) : Type 0 where
  pub sums : Holds h (amounts_of amounts)
  pub lines : posted ≡ length (lines_in h)
