-- The conditions that an interval meets to be used, without regard to the order in which they are judged.
use Rattle.std.specs.Prelude.{ℕ, zero, suc, ◌*◌, Bool, ◌&&◌, leb, List, length, ◌==◌, nat_le, nat_lt, unsigned_abs}
use Rattle.foundation.specs.First.{all_to}
use Rattle.sampling.specs.Records.{Fields, fields_at, interval_at}

-- a record is the expected unit's, has no more enabled than may be, a zero byte, and values from -limit to limit
abbrev pub fields_meet : (expected most limit : ℕ) → Fields → Bool
fields_meet expected most limit f = f.unit == expected && (nat_le f.enablement most && (f.last == 0 && all_to 75 (λ k. leb (unsigned_abs (f.value k)) limit)))

-- record 0 is the frequency indicator's; unit u's record is u + 1, and of the same interval
abbrev pub record_meets : List ℕ → ℕ → Bool
record_meets b zero = fields_meet 65535 0 1560 (fields_at b 0)
record_meets b (suc u) = (fields_at b (suc u)).interval == interval_at b && fields_meet u 3 20000 (fields_at b (suc u))

-- there are units, the bytes are a record for the frequency indicator and one for each, and their interval is one of the
-- sample period that is not below least, the first that may still be used
unfoldable pub meets : (n least : ℕ) → List ℕ → Bool
meets n least b = nat_lt 0 n && (length b == 156 * suc n && ((nat_le (interval_at b) 8063 && nat_le least (interval_at b)) && all_to (suc n) (record_meets b)))
