-- Numbers in the bytes of a record.
use Rattle.std.specs.Prelude.{◌≡◌, ℕ, ◌+◌, ◌*◌, ◌<◌, List, [], slice_index, slice_index_or}
use Rattle.std.proofs.Common.{ap, ◌∙◌, arith}
use Rattle.std.specs.Simd.{first_chunks}
use Rattle.foundation.specs.Bytes.{number_at, long_at}
use Rattle.foundation.proofs.Chunks.{chunk_at}

-- byte i of record j, counted from a place in that record
byte_in : (n m : ℕ) (xs : List ℕ) (j i d : ℕ) → j < m → i + d < n → slice_index (slice_index_or (first_chunks n m xs) j []) (i + d) ≡ slice_index xs (n * j + i + d)
byte_in n m xs j i d l h = chunk_at n m xs j (i + d) l h ∙ ap (slice_index xs) (omega arith)

pub number_in : (n m : ℕ) (xs : List ℕ) (j i : ℕ) → j < m → i + 1 < n → number_at (slice_index_or (first_chunks n m xs) j []) i ≡ number_at xs (n * j + i)
unfolding number_at
number_in n m xs j i l h = omega (arith, chunk_at n m xs j i l (omega arith), byte_in n m xs j i 1 l h)

pub long_in : (n m : ℕ) (xs : List ℕ) (j i : ℕ) → j < m → i + 7 < n → long_at (slice_index_or (first_chunks n m xs) j []) i ≡ long_at xs (n * j + i)
unfolding long_at
long_in n m xs j i l h =
    omega (
      arith,
      chunk_at n m xs j i l (omega arith),
      byte_in n m xs j i 1 l (omega arith),
      byte_in n m xs j i 2 l (omega arith),
      byte_in n m xs j i 3 l (omega arith),
      byte_in n m xs j i 4 l (omega arith),
      byte_in n m xs j i 5 l (omega arith),
      byte_in n m xs j i 6 l (omega arith),
      byte_in n m xs j i 7 l h,
    )
