-- The records of a journal's bytes as they are cut into arrays.
use Rattle.std.specs.Prelude.{◌≡◌, ℕ, ◌<◌, ◌≤◌, List, [], take, slice_index_or}
use Rattle.std.specs.Simd.{first_chunks}
use Rattle.std.specs.Int.{w64}
use Rattle.std.proofs.Common.{to_z, ap, ◌∙◌, subst, arith}
use Rattle.std.proofs.lemmas.List.{get_or-take}
use Rattle.foundation.specs.Bytes.{number_at}
use Rattle.foundation.proofs.Chunks.{chunk_at}
use Rattle.foundation.proofs.Numbers.{number_in, long_in}
use Rattle.ledger.specs.declared.entry.Entry.{Entry}
use Rattle.ledger.specs.Entries.{EntryAt}

pub entry_in : (b : List ℕ) (records : List (List ℕ)) (n k : ℕ) (e : Entry) → records ≡ first_chunks 16 n b → k < n → EntryAt (slice_index_or records k []) 0 e → EntryAt b k e
entry_in b records n k e cut l at =
    let here = subst (λ x. EntryAt (slice_index_or x k []) 0 e) cut at in
    record {
      party = here.party ∙ number_in 16 n b k 0 l (omega arith) ∙ ap (number_at b) (omega arith);
      serial = here.serial ∙ number_in 16 n b k 2 l (omega arith);
      rest = omega (arith, here.rest, chunk_at 16 n b k 4 l (omega arith), chunk_at 16 n b k 5 l (omega arith), chunk_at 16 n b k 6 l (omega arith), chunk_at 16 n b k 7 l (omega arith));
      line = here.line ∙ ap (to_z w64) (long_in 16 n b k 8 l (omega arith));
    }

-- the same of the first w records
pub entry_taken : (b : List ℕ) (records : List (List ℕ)) (n w k : ℕ) (e : Entry) → records ≡ first_chunks 16 n b → w ≤ n → k < w → EntryAt (slice_index_or (take w records) k []) 0 e → EntryAt b k e
entry_taken b records n w k e cut few l at = entry_in b records n k e cut (omega arith) (subst (λ x. EntryAt x 0 e) (get_or-take w records k [] l) at)
