-- What was read of a record tells its fault by the bytes.
use Rattle.std.proofs.Common.{◌≡◌, ℕ, zero, suc, ◌*◌, ◌<◌, List, length, get_or, pos, Some, None, sym, ap, ◌∙◌, subst, arith}
use Rattle.std.proofs.lemmas.Bool.Decides.{nat_tests}
use Rattle.foundation.specs.Fault.{Refused}
use Rattle.foundation.specs.First.{first_to}
use Rattle.foundation.proofs.First.{first_to_eq, first_to_all, first_to_at}
use Rattle.sampling.specs.declared.reader.Record.{Record}
use Rattle.sampling.specs.Records.{Holds, fields_of, fields_at, interval_at, value_at}
use Rattle.sampling.specs.Interval.{value_fault, fields_fault, indicator_fault, unit_fault, record_fault, interval_fault}

fields_held : (b : List ℕ) (r : ℕ) (x : Record) (expected most limit : ℕ) → Holds b r x → fields_fault x.place expected most limit (fields_of x) ≡ fields_fault r expected most limit (fields_at b r)
unfolding fields_fault
fields_held b r x expected most limit h =
    rw (h.at, h.unit, h.enablement, h.last, first_to_eq 75 (λ k. value_fault r limit (get_or x.values k (pos 0))) (λ k. value_fault r limit (value_at b r k)) (λ k l. ap (value_fault r limit) (h.values k l)))

-- the frequency indicator's record
pub indicator_held : (b : List ℕ) (least : ℕ) (x : Record) → Holds b 0 x → indicator_fault x.place least (fields_of x) ≡ record_fault least b 0
unfolding record_fault
indicator_held b least x h = rw (fields_held b 0 x 65535 0 1560 h, h.at, h.interval)

-- a unit's record
pub unit_held : (b : List ℕ) (least i u : ℕ) (x : Record) → i ≡ interval_at b → Holds b (suc u) x → unit_fault x.place i u (fields_of x) ≡ record_fault least b (suc u)
unfolding record_fault
unit_held b least i u x e h = rw (fields_held b (suc u) x u 3 20000 h, h.at, h.interval, e)

pub held_at : (b b' : List ℕ) (r r' : ℕ) (x : Record) → b ≡ b' → r ≡ r' → Holds b r x → Holds b' r' x
held_at b b' r r' x e f h = subst (λ (y : List ℕ). Holds y r' x) e (subst (λ (k : ℕ). Holds b k x) f h)

-- no fault in the first records
before : (least : ℕ) (b : List ℕ) (u : ℕ) → record_fault least b 0 ≡ None → ((k : ℕ) → k < u → record_fault 0 b (suc k) ≡ None) → (k : ℕ) → k < suc u → record_fault least b k ≡ None
unfolding record_fault
before least b u first units zero l = first
before least b u first units (suc k) l = units k (omega arith)

judged : (n least : ℕ) (b : List ℕ) → (n ≡ 0 → ⊥) → length b ≡ 156 * suc n → interval_fault n least b ≡ first_to (suc n) (record_fault least b)
unfolding interval_fault
judged n least b some long = grind (arith, nat_tests)

pub indicator_bad : (n least : ℕ) (b : List ℕ) (a : Refused) → (n ≡ 0 → ⊥) → length b ≡ 156 * suc n → record_fault least b 0 ≡ Some a → Some a ≡ interval_fault n least b
indicator_bad n least b a some long e = sym (judged n least b some long ∙ first_to_at (suc n) (record_fault least b) 0 a (omega arith) (λ k l. absurd (omega arith)) e)

pub unit_bad : (n least : ℕ) (b : List ℕ) (u : ℕ) (a : Refused) → (n ≡ 0 → ⊥) → length b ≡ 156 * suc n → u < n → record_fault least b 0 ≡ None → ((k : ℕ) → k < u → record_fault 0 b (suc k) ≡ None) → record_fault 0 b (suc u) ≡ Some a → Some a ≡ interval_fault n least b
unfolding record_fault
unit_bad n least b u a some long l first units e = sym (judged n least b some long ∙ first_to_at (suc n) (record_fault least b) (suc u) a (omega arith) (before least b u first units) e)

pub all_good : (n least : ℕ) (b : List ℕ) → (n ≡ 0 → ⊥) → length b ≡ 156 * suc n → record_fault least b 0 ≡ None → ((k : ℕ) → k < n → record_fault 0 b (suc k) ≡ None) → None ≡ interval_fault n least b
all_good n least b some long first units = sym (judged n least b some long ∙ first_to_all (suc n) (record_fault least b) (before least b n first units))
