-- One record of a journal, as it is read.
use Rattle.std.specs.Prelude.{◌≡◌, ℕ, ◌+◌, ◌*◌, ◌/◌, ◌%◌, ◌<◌, ◌≤◌, Bool, ◌&&◌, List, [], ◌∷◌, length, Some, None, Option, ◌==◌, slice_index}
use Rattle.std.specs.Int.{w64}
use Rattle.std.proofs.Common.{of_z}
use Rattle.ledger.specs.declared.entry.Entry.{Entry}
use Rattle.ledger.specs.Amounts.{is_amount, is_debit}
use Rattle.ledger.specs.Journal.{line_at, party_at, serial_at}

-- the four bytes of record k that are 0 in a ledger's record
abbrev pub zero_at : List ℕ → ℕ → ℕ
zero_at b k = slice_index b (16 * k + 4) * 16777216 + slice_index b (16 * k + 5) * 65536 + slice_index b (16 * k + 6) * 256 + slice_index b (16 * k + 7)

-- an entry that holds what the bytes say at record k
pub record EntryAt (b : List ℕ) (k : ℕ) (e : Entry) : Type 0 where
  pub party : e.party ≡ party_at b k
  pub serial : e.serial ≡ serial_at b k
  pub rest : e.zero ≡ zero_at b k
  pub line : e.line ≡ line_at b k

-- record k, or none where the bytes have not that many whole records
abbrev pub ReadAt : List ℕ → ℕ → Option Entry → Type 0
ReadAt b k (Some e) = (k < length b / 16) × EntryAt b k e
ReadAt b k None = length b / 16 ≤ k

-- the bytes of an entry's record; those of a ledger's entry are `record_of`
abbrev pub bytes_of : Entry → List ℕ
bytes_of e =
    e.party / 256 % 256 ∷ e.party % 256 ∷ e.serial / 256 % 256 ∷ e.serial % 256
    ∷ e.zero / 16777216 % 256 ∷ e.zero / 65536 % 256 ∷ e.zero / 256 % 256 ∷ e.zero % 256
    ∷ of_z w64 e.line / 72057594037927936 % 256 ∷ of_z w64 e.line / 281474976710656 % 256 ∷ of_z w64 e.line / 1099511627776 % 256 ∷ of_z w64 e.line / 4294967296 % 256
    ∷ of_z w64 e.line / 16777216 % 256 ∷ of_z w64 e.line / 65536 % 256 ∷ of_z w64 e.line / 256 % 256 ∷ of_z w64 e.line % 256 ∷ []

-- whether a ledger can have written the entry
abbrev pub is_ledgers : Entry → Bool
is_ledgers e = is_amount e.party e.serial && (is_debit e.line && e.zero == 0)
