-- An interval without a fault is one that meets the conditions.
use Rattle.std.proofs.Common.{◌≡◌, ℕ, zero, suc, ◌*◌, ◌<◌, ◌≤◌, Bool, true, false, cond, not, ◌&&◌, eqb, ltb, leb, List, length, ℤ, pos, negsuc, nat_abs, Some, None, Option, sym, refl, ap, ◌∙◌, arith, lit<, true-eqb, false-eqb}
use borrow.Author.Tests.{true-leb}
use Rattle.std.proofs.lemmas.Bool.Decides.{nat_tests}
use Rattle.foundation.specs.Fault.{Refused}
use Rattle.foundation.specs.First.{first_to, or_else, silent, all_to}
use Rattle.foundation.proofs.First.{silent_or_else, silent_first_to, all_to_none, all_to_more, all_to_eq, some_none, or_else_left, or_else_right, first_to_silent}
use Rattle.sampling.specs.Accepted.{fields_meet, record_meets, meets}
use Rattle.sampling.specs.Interval.{in_samples, unless, is_mark, value_fault, fields_fault, record_fault, interval_fault}
use Rattle.sampling.specs.Records.{Fields, Inside, fields_at, interval_at}

silent_unless : (t : Bool) (n r : ℕ) → silent (unless t n r) ≡ t
silent_unless true n r = refl
silent_unless false n r = refl

unmarked : (v : ℤ) (limit : ℕ) → limit < 32768 → (not (is_mark v) && leb (nat_abs v) limit) ≡ leb (nat_abs v) limit
unmarked (pos n) limit h = refl
unmarked (negsuc n) limit h = grind (arith, nat_tests)

silent_fields : (r expected most limit : ℕ) (f : Fields) → limit < 32768 → silent (fields_fault r expected most limit f) ≡ fields_meet expected most limit f
unfolding fields_fault
silent_fields r expected most limit f h =
    simp (silent_or_else, silent_unless, silent_first_to) (ap (λ t. eqb f.unit expected && (leb f.enablement most && (eqb f.last 0 && t))) (all_to_eq 75 _ _ (λ k l. unmarked (f.value k) limit h)))

and_assoc : (a b c : Bool) → (a && b && c) ≡ (a && (b && c))
and_assoc true b c = refl
and_assoc false b c = refl

-- without record 0's own conditions on the interval, which stand before
silent_indicator : (least : ℕ) (b : List ℕ) → silent (record_fault least b 0) ≡ (leb (interval_at b) 8063 && leb least (interval_at b) && record_meets b 0)
unfolding record_fault
silent_indicator least b = simp (silent_or_else, silent_unless, silent_fields 0 65535 0 1560 (fields_at b 0) (lit< tt)) (sym (and_assoc (leb (interval_at b) 8063) (leb least (interval_at b)) (record_meets b 0)))

silent_unit : (least : ℕ) (b : List ℕ) (u : ℕ) → silent (record_fault least b (suc u)) ≡ record_meets b (suc u)
unfolding record_fault
silent_unit least b u = simp (silent_or_else, silent_unless, silent_fields (suc u) u 3 20000 (fields_at b (suc u)) (lit< tt))

module _ (least : ℕ) (b : List ℕ) where
  abbrev timely : Bool
  timely = leb (interval_at b) 8063 && leb least (interval_at b)

  records : (n : ℕ) → all_to (suc n) (λ r. silent (record_fault least b r)) ≡ (timely && all_to (suc n) (record_meets b))
  records zero =
      all_to_more 0 (λ r. silent (record_fault least b r))
      ∙ ap (λ t. t && silent (record_fault least b 0)) (all_to_none (λ r. silent (record_fault least b r)))
      ∙ silent_indicator least b
      ∙ ap (λ t. timely && t) (sym (all_to_more 0 (record_meets b) ∙ ap (λ t. t && record_meets b 0) (all_to_none (record_meets b))))
  records (suc n) =
      all_to_more (suc n) (λ r. silent (record_fault least b r))
      ∙ ap (λ t. t && silent (record_fault least b (suc n))) (records n)
      ∙ ap (λ t. timely && all_to (suc n) (record_meets b) && t) (silent_unit least b n)
      ∙ and_assoc timely (all_to (suc n) (record_meets b)) (record_meets b (suc n))
      ∙ ap (λ t. timely && t) (sym (all_to_more (suc n) (record_meets b)))

chosen : (p q : Bool) (x : Option Refused) (y z : Refused) → silent (cond p (Some y) (cond q x (Some z))) ≡ (not p && (q && silent x))
chosen true q x y z = refl
chosen false true x y z = refl
chosen false false x y z = refl

counted_units : (n : ℕ) → not (eqb n 0) ≡ ltb 0 n
counted_units n = grind (arith, nat_tests)

-- an interval is accepted exactly where it meets the conditions
pub silent_interval : (n least : ℕ) (b : List ℕ) → silent (interval_fault n least b) ≡ meets n least b
unfolding interval_fault meets
silent_interval n least b =
    chosen (eqb n 0) (eqb (length b) (156 * suc n)) (first_to (suc n) (record_fault least b)) (in_samples 6 0) (in_samples 1 0)
    ∙ ap (λ t. t && (eqb (length b) (156 * suc n) && silent (first_to (suc n) (record_fault least b)))) (counted_units n)
    ∙ ap (λ t. ltb 0 n && (eqb (length b) (156 * suc n) && t)) (silent_first_to (suc n) (record_fault least b) ∙ records least b n)

unless_none : (t : Bool) (n r : ℕ) → unless t n r ≡ None → t ≡ true
unless_none true n r h = refl
unless_none false n r h = absurd (some_none (in_samples n r) h)

chosen_none : (p q : Bool) (x : Option Refused) (y z : Refused) → cond p (Some y) (cond q x (Some z)) ≡ None → (q ≡ true) × (x ≡ None)
chosen_none true q x y z h = absurd (some_none y h)
chosen_none false true x y z h = (refl, h)
chosen_none false false x y z h = absurd (some_none z h)

skip : (t : Bool) (n r : ℕ) (x : Option Refused) → or_else (unless t n r) x ≡ None → x ≡ None
skip t n r x h = or_else_right (unless t n r) x h

value_inside : (r limit : ℕ) (v : ℤ) → value_fault r limit v ≡ None → nat_abs v ≤ limit
value_inside r limit v h = true-leb (nat_abs v) limit (sym (unless_none (leb (nat_abs v) limit) 2 r (skip (not (is_mark v)) 3 r (unless (leb (nat_abs v) limit) 2 r) h)))

fields_inside : (r expected most limit : ℕ) (f : Fields) → fields_fault r expected most limit f ≡ None → (k : ℕ) → k < 75 → nat_abs (f.value k) ≤ limit
unfolding fields_fault
fields_inside r expected most limit f h k l =
    let values = first_to 75 (λ j. value_fault r limit (f.value j)) in
    let zero-byte = or_else (unless (eqb f.last 0) 2 r) values in
    let enabled = or_else (unless (leb f.enablement most) 2 r) zero-byte in
    value_inside r limit (f.value k)
    (first_to_silent 75 (λ j. value_fault r limit (f.value j)) (skip (eqb f.last 0) 2 r values (skip (leb f.enablement most) 2 r zero-byte (skip (eqb f.unit expected) 5 r enabled h))) k l)

-- the values of an interval without a fault are in their ranges
pub inside : (n least : ℕ) (b : List ℕ) → interval_fault n least b ≡ None → Inside n b
unfolding interval_fault record_fault
inside n least b h =
    let p = chosen_none (eqb n 0) (eqb (length b) (156 * suc n)) (first_to (suc n) (record_fault least b)) (in_samples 6 0) (in_samples 1 0) h in
    let none = first_to_silent (suc n) (record_fault least b) p.1 in
    record {
      long = true-eqb (length b) (156 * suc n) (sym p.0);
      indicator =
          fields_inside 0 65535 0 1560 (fields_at b 0)
          (skip (leb least (interval_at b)) 4 0 (fields_fault 0 65535 0 1560 (fields_at b 0)) (skip (leb (interval_at b) 8063) 2 0 (or_else (unless (leb least (interval_at b)) 4 0) (fields_fault 0 65535 0 1560 (fields_at b 0))) (none 0 (omega arith))));
      deviations = λ u k l m. fields_inside (suc u) u 3 20000 (fields_at b (suc u)) (skip (eqb (fields_at b (suc u)).interval (interval_at b)) 2 (suc u) (fields_fault (suc u) u 3 20000 (fields_at b (suc u))) (none (suc u) (omega arith))) k m;
    }

-- an interval without a fault is not below the first that may be used
pub not_below : (n least : ℕ) (b : List ℕ) → interval_fault n least b ≡ None → least ≤ interval_at b
unfolding interval_fault record_fault
not_below n least b h =
    let p = chosen_none (eqb n 0) (eqb (length b) (156 * suc n)) (first_to (suc n) (record_fault least b)) (in_samples 6 0) (in_samples 1 0) h in
    let none = first_to_silent (suc n) (record_fault least b) p.1 0 (omega arith) in
    let rest = fields_fault 0 65535 0 1560 (fields_at b 0) in
    true-leb least (interval_at b)
    (sym (unless_none (leb least (interval_at b)) 4 0 (or_else_left (unless (leb least (interval_at b)) 4 0) rest (skip (leb (interval_at b) 8063) 2 0 (or_else (unless (leb least (interval_at b)) 4 0) rest) none))))

first_false : (p q : Bool) (x : Option Refused) (y z : Refused) → cond p (Some y) (cond q x (Some z)) ≡ None → false ≡ p
first_false true q x y z h = absurd (some_none y h)
first_false false q x y z h = refl

-- no interval is without a fault where there are no units
pub some_units : (n least : ℕ) (b : List ℕ) → interval_fault n least b ≡ None → n ≡ 0 → ⊥
unfolding interval_fault
some_units n least b h = false-eqb n 0 (first_false (eqb n 0) (eqb (length b) (156 * suc n)) (first_to (suc n) (record_fault least b)) (in_samples 6 0) (in_samples 1 0) h)
