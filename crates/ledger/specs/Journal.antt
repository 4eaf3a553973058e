-- The records of a journal's bytes, 16 bytes each: party (2), serial (2), zero (4) and line (8, in two's complement).
use Rattle.std.specs.Prelude.{◌≡◌, ℕ, zero, suc, ◌+◌, ◌*◌, ◌/◌, ◌%◌, min, List, [], ◌∷◌, ◌++◌, length, take, drop, ℤ, pos}
use Rattle.std.specs.Int.{w64}
use Rattle.std.proofs.Common.{to_z, of_z}
use Rattle.foundation.specs.Bytes.{number_at, long_at}
use Rattle.ledger.specs.Amounts.{posted}
use Rattle.ledger.specs.Posts.{Event, Post, lines_in}

-- the fields of record k
abbrev pub party_at : List ℕ → ℕ → ℕ
party_at b k = number_at b (16 * k)

abbrev pub serial_at : List ℕ → ℕ → ℕ
serial_at b k = number_at b (16 * k + 2)

abbrev pub line_at : List ℕ → ℕ → ℤ
line_at b k = to_z w64 (long_at b (16 * k + 8))

-- the amounts that the first n records come to
abbrev pub owed_in : List ℕ → ℕ → ℕ → ℕ → ℤ
owed_in b zero p s = pos 0
owed_in b (suc n) p s = posted (party_at b n) (serial_at b n) (line_at b n) (owed_in b n) p s

-- how many records the bytes have room for
abbrev pub records_in : List ℕ → ℕ
records_in b = min (length b / 16) 4096

-- the bytes of a record
abbrev pub record_of : (party serial : ℕ) (line : ℤ) → List ℕ
record_of p s line =
    p / 256 % 256 ∷ p % 256 ∷ s / 256 % 256 ∷ s % 256 ∷ 0 ∷ 0 ∷ 0 ∷ 0
    ∷ of_z w64 line / 72057594037927936 % 256 ∷ of_z w64 line / 281474976710656 % 256 ∷ of_z w64 line / 1099511627776 % 256 ∷ of_z w64 line / 4294967296 % 256
    ∷ of_z w64 line / 16777216 % 256 ∷ of_z w64 line / 65536 % 256 ∷ of_z w64 line / 256 % 256 ∷ of_z w64 line % 256 ∷ []

-- the bytes with a record laid at place n, all others as they were
abbrev pub laid : List ℕ → ℕ → List ℕ → List ℕ
laid b n x = take (16 * n) b ++ (x ++ drop (16 * n + 16) b)

-- lines encoded in the order in which they were posted
abbrev pub encoded : List Post → List ℕ
encoded [] = []
encoded (l ∷ ls) = encoded ls ++ record_of l.party l.serial l.line

-- a journal over bytes that held b0 before, and that has gone through the posts of h
pub record JournalHolds (h : List Event) (b0 b : List ℕ) (written : ℕ) : Type 0 where
  pub lines : written ≡ length (lines_in h)
  -- the records written, in order, then the old bytes
  pub bytes : b ≡ encoded (lines_in h) ++ drop (16 * length (lines_in h)) b0
