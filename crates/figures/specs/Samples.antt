-- What the bytes of a sample interval hold.
use Rattle.std.specs.Prelude.{◌≡◌, ℕ, suc, ◌*◌, ◌<◌, List, [], ◌∷◌, length, get_or, ℤ, pos, slice_index_or}
use Rattle.sampling.specs.declared.state.Sampling.{Sampling}
use Rattle.sampling.specs.History.{Gone, offered, registered}
use Rattle.sampling.specs.Records.{Fields, fields_at}
use Rattle.figures.specs.declared.samples.Reading.{Reading}

-- the fields of a record that begins with the given values and has 0 in place of the others
abbrev pub fields_from : (interval unit enablement : ℕ) → List ℤ → Fields
fields_from i u e vs = record { interval = i; unit = u; enablement = e; last = 0; value = λ k. slice_index_or vs k (pos 0) }

-- record r of the bytes has these fields, with 75 values
pub record Shows (b : List ℕ) (r : ℕ) (f : Fields) : Type 0 where
  pub interval : (fields_at b r).interval ≡ f.interval
  pub unit : (fields_at b r).unit ≡ f.unit
  pub enablement : (fields_at b r).enablement ≡ f.enablement
  pub last : (fields_at b r).last ≡ f.last
  pub value : (k : ℕ) → k < 75 → (fields_at b r).value k ≡ f.value k

abbrev pub no_reading : Reading
no_reading = record { enablement = 0; deviations = [] }

-- the fields of unit u's record
abbrev pub unit_fields : ℕ → List Reading → ℕ → Fields
unit_fields i readings u = fields_from i u (get_or readings u no_reading).enablement (get_or readings u no_reading).deviations

-- the frequency indicator's record, then one for each reading, and nothing else
pub record Encodes (interval : ℕ) (indicator : List ℤ) (readings : List Reading) (b : List ℕ) : Type 0 where
  pub long : length b ≡ 156 * suc (length readings)
  pub first : Shows b 0 (fields_from interval 65535 0 indicator)
  pub units : (u : ℕ) → u < length readings → Shows b (suc u) (unit_fields interval readings u)

-- a sampling in which units were registered and then one interval was used, number 0
pub record UsedOne (owners : List ℕ) (indicator : List ℤ) (readings : List Reading) (s : Sampling) : Type 0 where
  pub bytes : List ℕ
  pub encoded : Encodes 0 indicator readings bytes
  pub gone : Gone (offered bytes ∷ registered owners ∷ []) s
  pub used : s.used ≡ 1
