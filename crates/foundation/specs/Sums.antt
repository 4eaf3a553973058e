-- Sums over places counted from 0.
use Rattle.std.specs.Prelude.{ℕ, zero, suc, ◌+◌, List, ℤ, pos, ◌+ℤ◌, slice_index}

-- f 0 + .. + f (n - 1)
unfoldable pub sum_to : ℕ → (ℕ → ℕ) → ℕ
sum_to zero f = 0
sum_to (suc n) f = sum_to n f + f n

-- the same for signed numbers
unfoldable pub sum_to_int : ℕ → (ℕ → ℤ) → ℤ
sum_to_int zero f = pos 0
sum_to_int (suc n) f = sum_to_int n f +ℤ f n

-- a list as a function of the place, 0 past its end
abbrev pub listed : List ℕ → ℕ → ℕ
listed xs k = slice_index xs k
