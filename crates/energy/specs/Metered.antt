-- Metered records: 8 bytes each, of party, region, a zero byte and kWh.
use Rattle.std.specs.Prelude.{◌≡◌, ℕ, ◌+◌, ◌*◌, ◌/◌, ◌%◌, Bool, cond, ◌&&◌, List, length, Some, Option, ◌==◌, nat_le, slice_index}
use Rattle.foundation.specs.Fault.{Refused, refused_in, unless_in}
use Rattle.foundation.specs.First.{first_to, or_else, silent}
use Rattle.foundation.specs.Sums.{sum_to}
use Rattle.foundation.specs.Bytes.{number_at}
use Rattle.energy.specs.declared.metered.Reading.{Reading}

-- a refusal in the layer of the energies
abbrev pub in_energies : ℕ → ℕ → Refused
in_energies number place = refused_in 2 number place

abbrev pub unless : Bool → ℕ → ℕ → Option Refused
unless test number place = unless_in 2 test number place

-- the fields of record k
abbrev pub party_at : List ℕ → ℕ → ℕ
party_at b k = number_at b (8 * k)

abbrev pub region_at : List ℕ → ℕ → ℕ
region_at b k = slice_index b (8 * k + 2)

abbrev pub zero_at : List ℕ → ℕ → ℕ
zero_at b k = slice_index b (8 * k + 3)

abbrev pub kwh_at : List ℕ → ℕ → ℕ
kwh_at b k = number_at b (8 * k + 4) * 65536 + number_at b (8 * k + 6)

-- a reading that holds what the bytes say at record k
pub record ReadingAt (b : List ℕ) (k : ℕ) (r : Reading) : Type 0 where
  pub party : r.party ≡ party_at b k
  pub region : r.region ≡ region_at b k
  pub rest : r.zero ≡ zero_at b k
  pub kwh : r.kwh ≡ kwh_at b k

-- the fault of a record by its fields and the sum of the kWh before it
abbrev pub fields_fault : (place party region none before kwh : ℕ) → Option Refused
fields_fault place party region none before kwh = or_else (unless (nat_le party 63 && nat_le region 4 && none == 0) 2 place) (unless (nat_le (before + kwh) 40000000) 19 place)

abbrev pub record_fault : List ℕ → ℕ → Option Refused
record_fault b k = fields_fault k (party_at b k) (region_at b k) (zero_at b k) (sum_to k (kwh_at b)) (kwh_at b k)

-- the first fault of metered bytes: their length, then record by record
unfoldable pub metered_fault : List ℕ → Option Refused
metered_fault b = cond (length b % 8 == 0 && nat_le (length b / 8) 4096) (first_to (length b / 8) (record_fault b)) (Some (in_energies 1 0))

-- the kWh of the first n records that are of a pair
unfoldable pub summed : List ℕ → ℕ → ℕ → ℕ → ℕ
summed b n p r = sum_to n (λ k. cond (party_at b k == p && region_at b k == r) (kwh_at b k) 0)

-- what metered bytes mean: for each pair the kWh of its records; nothing where they have a fault
abbrev pub metered_kwh : List ℕ → ℕ → ℕ → ℕ
metered_kwh b p r = cond (silent (metered_fault b)) (summed b (length b / 8) p r) 0
