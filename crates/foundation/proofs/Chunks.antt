-- Bytes cut into records of one width.
use Rattle.std.specs.Prelude.{◌≡◌, ℕ, zero, suc, ◌+◌, ◌*◌, ◌<◌, List, [], length, take, drop, slice_index, slice_index_or}
use Rattle.std.proofs.Common.{refl, ap, ◌∙◌, arith}
use Rattle.std.proofs.lemmas.List.{drop-drop, get_or-take, get_or-drop}
use Rattle.std.specs.Simd.{first_chunks}

pub chunks_many : {X : Type 0} (n k : ℕ) (xs : List X) → length (first_chunks n k xs) ≡ k
chunks_many n zero xs = refl
chunks_many n (suc k) xs = ap suc (chunks_many n k (drop n xs))

-- record j
pub chunk_is : {X : Type 0} (n k : ℕ) (xs : List X) (j : ℕ) → j < k → slice_index_or (first_chunks n k xs) j [] ≡ take n (drop (n * j) xs)
chunk_is n zero xs j l = absurd (omega arith)
chunk_is n (suc k) xs zero l = let none : n * 0 ≡ 0 = omega arith in rw none refl
chunk_is n (suc k) xs (suc j) l =
    chunk_is n k (drop n xs) j (omega arith) ∙ ap (take n) (drop-drop (n * j) n xs) ∙ ap (λ m. take n (drop m xs)) (omega arith)

-- byte i of record j
pub chunk_at : (n k : ℕ) (xs : List ℕ) (j i : ℕ) → j < k → i < n → slice_index (slice_index_or (first_chunks n k xs) j []) i ≡ slice_index xs (n * j + i)
chunk_at n k xs j i l m = ap (λ c. slice_index c i) (chunk_is n k xs j l) ∙ get_or-take n (drop (n * j) xs) i 0 m ∙ get_or-drop (n * j) xs i 0
