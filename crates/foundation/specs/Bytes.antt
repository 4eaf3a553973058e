-- Numbers in bytes, the highest byte first.
use Rattle.std.specs.Prelude.{ℕ, ◌+◌, ◌*◌, List, slice_index}

-- the number in the two bytes at a place
unfoldable pub number_at : List ℕ → ℕ → ℕ
number_at b i = slice_index b i * 256 + slice_index b (i + 1)

-- the number in the eight bytes at a place
unfoldable pub long_at : List ℕ → ℕ → ℕ
long_at b i =
    slice_index b i * 72057594037927936 + slice_index b (i + 1) * 281474976710656 + slice_index b (i + 2) * 1099511627776 + slice_index b (i + 3) * 4294967296
    + slice_index b (i + 4) * 16777216 + slice_index b (i + 5) * 65536 + slice_index b (i + 6) * 256 + slice_index b (i + 7)
