-- The records of a sample interval's bytes: the frequency indicator's is record 0, unit u's is record u + 1.
use Rattle.std.specs.Prelude.{◌≡◌, ℕ, suc, ◌+◌, ◌*◌, ◌/◌, ◌%◌, ◌<◌, ◌≤◌, Bool, List, length, ℤ, pos, ◌==◌, slice_index, slice_index_or, unsigned_abs}
use Rattle.std.specs.Int.{w16}
use Rattle.std.proofs.Common.{to_z}
use Rattle.foundation.specs.Bytes.{number_at}
use Rattle.sampling.specs.declared.reader.Record.{Record}

-- the fields of a record
pub record Fields : Type 0 where
  pub interval : ℕ
  pub unit : ℕ
  pub enablement : ℕ
  pub last : ℕ
  pub value : ℕ → ℤ

-- the fields of record r: each record has 156 bytes, of which the last 150 are 75 values in two's complement
abbrev pub fields_at : List ℕ → ℕ → Fields
fields_at b r = record {
  interval = number_at b (156 * r);
  unit = number_at b (156 * r + 2);
  enablement = slice_index b (156 * r + 4);
  last = slice_index b (156 * r + 5);
  value = λ k. to_z w16 (number_at b (156 * r + 6 + 2 * k));
}

-- what a record has that was read
abbrev pub fields_of : Record → Fields
fields_of x = record { interval = x.interval; unit = x.unit; enablement = x.enablement; last = x.zero; value = λ k. slice_index_or x.values k (pos 0) }

abbrev pub interval_at : List ℕ → ℕ
interval_at b = (fields_at b 0).interval

abbrev pub value_at : List ℕ → ℕ → ℕ → ℤ
value_at b r k = (fields_at b r).value k

-- what is enabled in record r: bit 0 raise, bit 1 lower
abbrev pub raise_at : List ℕ → ℕ → Bool
raise_at b r = (fields_at b r).enablement % 2 == 1

abbrev pub lower_at : List ℕ → ℕ → Bool
lower_at b r = (fields_at b r).enablement / 2 % 2 == 1

-- the bytes of record r
abbrev pub IsRecord : List ℕ → ℕ → List ℕ → Type 0
IsRecord b r c = (i : ℕ) → i < 156 → slice_index c i ≡ slice_index b (156 * r + i)

-- a record that holds what the bytes say at place r
pub record Holds (b : List ℕ) (r : ℕ) (x : Record) : Type 0 where
  pub at : x.place ≡ r
  pub interval : x.interval ≡ (fields_at b r).interval
  pub unit : x.unit ≡ (fields_at b r).unit
  pub enablement : x.enablement ≡ (fields_at b r).enablement
  pub last : x.zero ≡ (fields_at b r).last
  pub values : (k : ℕ) → k < 75 → slice_index_or x.values k (pos 0) ≡ value_at b r k

-- the bytes of n units' records after the frequency indicator's, each value in its range
pub record Inside (n : ℕ) (b : List ℕ) : Type 0 where
  pub long : length b ≡ 156 * suc n
  pub indicator : (k : ℕ) → k < 75 → unsigned_abs (value_at b 0 k) ≤ 1560
  pub deviations : (u k : ℕ) → u < n → k < 75 → unsigned_abs (value_at b (suc u) k) ≤ 20000
