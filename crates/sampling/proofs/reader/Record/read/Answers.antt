use Rattle.std.proofs.Common.{◌≡◌, ℕ, ◌+◌, ◌*◌, ◌<◌, List, get_or, take, drop, refl, ap, ◌∙◌, arith, w16, to_z}
use Rattle.std.proofs.lemmas.List.{get_or-take, get_or-drop}
use Rattle.foundation.specs.Bytes.{number_at}
use Rattle.sampling.specs.Records.{IsRecord}
use Rattle.sampling.proofs.reader.Record.read.Goals as goal

-- a number in a record's bytes, and where it stands
number_in : (b : List ℕ) (r : ℕ) (bytes : List ℕ) (i p : ℕ) → IsRecord b r bytes → i + 1 < 156 → 156 * r + i ≡ p → get_or bytes i 0 * 256 + get_or bytes (i + 1) 0 ≡ number_at b p
unfolding number_at
number_in b r bytes i p h l e =
    let next : 156 * r + (i + 1) ≡ p + 1 = omega arith in
    rw (h i (omega arith), h (i + 1) l, e, next)

-- value k's number, where the values begin at byte 6
value_in : (b : List ℕ) (r : ℕ) (bytes : List ℕ) (k : ℕ) → IsRecord b r bytes → k < 75 → number_at (take 150 (drop 6 bytes)) (2 * k) ≡ number_at b (156 * r + 6 + 2 * k)
unfolding number_at
value_in b r bytes k h l =
    let next : 6 + (2 * k + 1) ≡ 6 + 2 * k + 1 = omega arith in
    rw (get_or-take 150 (drop 6 bytes) (2 * k) 0 (omega arith), get_or-take 150 (drop 6 bytes) (2 * k + 1) 0 (omega arith), get_or-drop 6 bytes (2 * k) 0, get_or-drop 6 bytes (2 * k + 1) 0, next) (number_in b r bytes (6 + 2 * k) (156 * r + 6 + 2 * k) h (omega arith) (omega arith))

pub returns : goal.returns
returns c = λ b h. record {
  at = refl;
  interval = c.from_be_bytes.ensures ∙ number_in b c.args.place c.args.bytes.now 0 (156 * c.args.place) h (omega arith) (omega arith);
  unit = c.from_be_bytes-2.ensures ∙ number_in b c.args.place c.args.bytes.now 2 (156 * c.args.place + 2) h (omega arith) (omega arith);
  enablement = h 4 (omega arith);
  last = h 5 (omega arith);
  values = λ k l. c.decoded.ensures k l ∙ ap (to_z w16) (value_in b c.args.place c.args.bytes.now k h l);
}
