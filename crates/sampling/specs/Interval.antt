-- When an interval is refused, and when it is accepted.
use Rattle.std.specs.Prelude.{ℕ, zero, suc, ◌*◌, Bool, false, cond, not, List, length, ℤ, pos, negsuc, Some, None, Option, ◌==◌, nat_le, unsigned_abs}
use Rattle.foundation.specs.declared.interval.SampleInterval.{SampleInterval}
use Rattle.foundation.specs.Fault.{Refused, refused_in, unless_in}
use Rattle.foundation.specs.First.{or_else, first_to}
use Rattle.sampling.specs.Records.{Fields, fields_at, interval_at}

-- a refusal in the layer of the samples
abbrev pub in_samples : ℕ → ℕ → Refused
in_samples number place = refused_in 1 number place

abbrev pub unless : Bool → ℕ → ℕ → Option Refused
unless test number place = unless_in 1 test number place

-- the first interval number that is above the last used one; each kind of interval has a definition of its own
abbrev pub after : Option SampleInterval → ℕ
after None = 0
after (Some i) = suc i.number

-- the mark of a missing sample, -32,768
abbrev pub is_mark : ℤ → Bool
is_mark (pos n) = false
is_mark (negsuc n) = n == 32767

-- a value's fault, where values go from -limit to limit
abbrev pub value_fault : (place limit : ℕ) → ℤ → Option Refused
value_fault place limit v = or_else (unless (not (is_mark v)) 3 place) (unless (nat_le (unsigned_abs v) limit) 2 place)

-- the first fault of the fields after the interval, in the order of their bytes
unfoldable pub fields_fault : (place expected most limit : ℕ) → Fields → Option Refused
fields_fault place expected most limit f = or_else (unless (f.unit == expected) 5 place) (or_else (unless (nat_le f.enablement most) 2 place) (or_else (unless (f.last == 0) 2 place) (first_to 75 (λ k. value_fault place limit (f.value k)))))

-- the first fault of the frequency indicator's record, where least is the first interval that may be used
abbrev pub indicator_fault : (place least : ℕ) → Fields → Option Refused
indicator_fault place least f = or_else (unless (nat_le f.interval 8063) 2 place) (or_else (unless (nat_le least f.interval) 4 place) (fields_fault place 65535 0 1560 f))

-- the first fault of a unit's record in an interval
abbrev pub unit_fault : (place interval unit : ℕ) → Fields → Option Refused
unit_fault place interval unit f = or_else (unless (f.interval == interval) 2 place) (fields_fault place unit 3 20000 f)

-- the first fault of record r: the frequency indicator's is record 0, unit u's is record u + 1
unfoldable pub record_fault : ℕ → List ℕ → ℕ → Option Refused
record_fault least b zero = indicator_fault 0 least (fields_at b 0)
record_fault least b (suc u) = unit_fault (suc u) (interval_at b) u (fields_at b (suc u))

-- the first fault of an interval that is offered for n units: no units, its length, then record by record
unfoldable pub interval_fault : (n least : ℕ) → List ℕ → Option Refused
interval_fault n least b = cond (n == 0) (Some (in_samples 6 0)) (cond (length b == 156 * suc n) (first_to (suc n) (record_fault least b)) (Some (in_samples 1 0)))
