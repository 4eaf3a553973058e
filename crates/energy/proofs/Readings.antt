-- Laws of metered records.
use Rattle.std.proofs.Common.{◌≡◌, ℕ, suc, ◌+◌, ◌/◌, ◌%◌, ◌<◌, ◌≤◌, Bool, true, false, cond, ◌&&◌, eqb, leb, List, [], length, Some, None, Option, sym, refl, ap, ◌∙◌, subst, add-one, arith}
use Rattle.std.specs.Prelude.{slice_index_or}
use Rattle.std.specs.Simd.{first_chunks}
use borrow.Author.Tests.{true-leb}
use Rattle.std.proofs.lemmas.Bool.Decides.{nat_tests}
use Rattle.foundation.specs.Fault.{Refused}
use Rattle.foundation.specs.First.{first_to}
use Rattle.foundation.specs.Sums.{sum_to}
use Rattle.foundation.proofs.First.{first_to_all, first_to_at, first_to_silent, or_else_left, or_else_right, some_none}
use Rattle.foundation.proofs.Sums.{sum_to_none, sum_to_more}
use Rattle.foundation.specs.Bytes.{number_at}
use Rattle.foundation.proofs.Chunks.{chunk_at}
use Rattle.foundation.proofs.Numbers.{number_in}
use Rattle.energy.specs.declared.metered.Reading.{Reading}
use Rattle.energy.specs.Metered.{ReadingAt, in_energies, unless, party_at, region_at, zero_at, kwh_at, fields_fault, record_fault, metered_fault, summed}
use Rattle.energy.specs.Table.{bumped}

pub bad_length : (b : List ℕ) → (eqb (length b % 8) 0 && leb (length b / 8) 4096) ≡ false → Some (in_energies 1 0) ≡ metered_fault b
unfolding metered_fault
bad_length b h = rw h refl

judged : (b : List ℕ) → length b % 8 ≡ 0 → length b / 8 ≤ 4096 → metered_fault b ≡ first_to (length b / 8) (record_fault b)
unfolding metered_fault
judged b whole few = grind (arith, nat_tests)

-- record k of the bytes as they are cut into records
pub reading_at : (b : List ℕ) (records : List (List ℕ)) (n k : ℕ) (r : Reading) → records ≡ first_chunks 8 n b → k < n → ReadingAt (slice_index_or records k []) 0 r → ReadingAt b k r
reading_at b records n k r cut l at =
    let here = subst (λ x. ReadingAt (slice_index_or x k []) 0 r) cut at in
    record {
      party = here.party ∙ number_in 8 n b k 0 l (omega arith) ∙ ap (number_at b) (omega arith);
      region = here.region ∙ chunk_at 8 n b k 2 l (omega arith);
      rest = here.rest ∙ chunk_at 8 n b k 3 l (omega arith);
      kwh = omega (arith, here.kwh, number_in 8 n b k 4 l (omega arith), number_in 8 n b k 6 l (omega arith));
    }

pub record_held : (b : List ℕ) (k before : ℕ) (r : Reading) → ReadingAt b k r → before ≡ sum_to k (kwh_at b) → fields_fault k r.party r.region r.zero before r.kwh ≡ record_fault b k
record_held b k before r at s =
    ap (λ x. fields_fault k x r.region r.zero before r.kwh) at.party
    ∙ ap (λ x. fields_fault k (party_at b k) x r.zero before r.kwh) at.region
    ∙ ap (λ x. fields_fault k (party_at b k) (region_at b k) x before r.kwh) at.rest
    ∙ ap (λ x. fields_fault k (party_at b k) (region_at b k) (zero_at b k) x r.kwh) s
    ∙ ap (fields_fault k (party_at b k) (region_at b k) (zero_at b k) (sum_to k (kwh_at b))) at.kwh

pub first_bad : (b : List ℕ) (k : ℕ) (a : Refused) → length b % 8 ≡ 0 → length b / 8 ≤ 4096 → k < length b / 8 → ((j : ℕ) → j < k → record_fault b j ≡ None) → record_fault b k ≡ Some a → Some a ≡ metered_fault b
first_bad b k a whole few l before e = sym (judged b whole few ∙ first_to_at (length b / 8) (record_fault b) k a l before e)

pub none_bad : (b : List ℕ) → length b % 8 ≡ 0 → length b / 8 ≤ 4096 → ((j : ℕ) → j < length b / 8 → record_fault b j ≡ None) → None ≡ metered_fault b
none_bad b whole few h = sym (judged b whole few ∙ first_to_all (length b / 8) (record_fault b) h)

unless_none : (t : Bool) (n r : ℕ) → unless t n r ≡ None → true ≡ t
unless_none true n r h = refl
unless_none false n r h = absurd (some_none (in_energies n r) h)

chosen_none : (p : Bool) (x : Option Refused) (y : Refused) → cond p x (Some y) ≡ None → x ≡ None
chosen_none true x y h = h
chosen_none false x y h = absurd (some_none y h)

first_of : (a b c : Bool) → true ≡ (a && b && c) → true ≡ a
first_of true b c h = refl
first_of false b c h = h

second_of : (a b c : Bool) → true ≡ (a && b && c) → true ≡ b
second_of true true c h = refl
second_of true false c h = h
second_of false b c h = absurd (let z : ◌≡◌ {A = ℕ} 0 1 = cc in omega arith)

-- the records of bytes without a fault
pub record Good (b : List ℕ) (k : ℕ) : Type 0 where
  pub party : party_at b k < 64
  pub region : region_at b k < 5
  pub room : sum_to k (kwh_at b) + kwh_at b k ≤ 40000000

pub good : (b : List ℕ) (k : ℕ) → metered_fault b ≡ None → k < length b / 8 → Good b k
unfolding metered_fault
good b k h l =
    let none = first_to_silent (length b / 8) (record_fault b) (chosen_none (eqb (length b % 8) 0 && leb (length b / 8) 4096) (first_to (length b / 8) (record_fault b)) (in_energies 1 0) h) k l in
    let fields : Bool = leb (party_at b k) 63 && leb (region_at b k) 4 && eqb (zero_at b k) 0 in
    let sum : Bool = leb (sum_to k (kwh_at b) + kwh_at b k) 40000000 in
    let inside = unless_none fields 2 k (or_else_left (unless fields 2 k) (unless sum 19 k) none) in
    record {
      party = omega (arith, true-leb (party_at b k) 63 (first_of (leb (party_at b k) 63) (leb (region_at b k) 4) (eqb (zero_at b k) 0) inside));
      region = omega (arith, true-leb (region_at b k) 4 (second_of (leb (party_at b k) 63) (leb (region_at b k) 4) (eqb (zero_at b k) 0) inside));
      room = true-leb (sum_to k (kwh_at b) + kwh_at b k) 40000000 (unless_none sum 19 k (or_else_right (unless fields 2 k) (unless sum 19 k) none));
    }

pub summed_none : (b : List ℕ) (p r : ℕ) → summed b 0 p r ≡ 0
unfolding summed
summed_none b p r = sum_to_none _

same_pair : (p q r s v : ℕ) → cond (eqb s r) (cond (eqb q p) v 0) 0 ≡ cond (eqb p q && eqb r s) v 0
same_pair p q r s v = grind (arith, nat_tests)

pub summed_more : (b : List ℕ) (k p r : ℕ) → summed b (suc k) p r ≡ summed b k p r + cond (eqb r (region_at b k)) (cond (eqb p (party_at b k)) (kwh_at b k) 0) 0
unfolding summed
summed_more b k p r = sum_to_more k _ ∙ ap (λ n. summed b k p r + n) (sym (same_pair (party_at b k) p (region_at b k) r (kwh_at b k)))

-- one record more is added to the figures
pub summed_bumped : (b : List ℕ) (k : ℕ) (x : Reading) (f : ℕ → ℕ → ℕ) (p r : ℕ) → ReadingAt b k x → f p r ≡ summed b k p r → bumped x.party x.region x.kwh f p r ≡ summed b (k + 1) p r
summed_bumped b k x f p r at h =
    ap (λ n. n + cond (eqb r x.region) (cond (eqb p x.party) x.kwh 0) 0) h
    ∙ ap (λ y. summed b k p r + cond (eqb r x.region) (cond (eqb p y) x.kwh 0) 0) at.party
    ∙ ap (λ y. summed b k p r + cond (eqb r y) (cond (eqb p (party_at b k)) x.kwh 0) 0) at.region
    ∙ ap (λ y. summed b k p r + cond (eqb r (region_at b k)) (cond (eqb p (party_at b k)) y 0) 0) at.kwh
    ∙ sym (summed_more b k p r)
    ∙ ap (λ n. summed b n p r) (sym (add-one k))

-- so is its kWh to all figures together
pub kwh_more : (b : List ℕ) (k : ℕ) → sum_to (k + 1) (kwh_at b) ≡ sum_to k (kwh_at b) + kwh_at b k
kwh_more b k = ap (λ n. sum_to n (kwh_at b)) (add-one k) ∙ sum_to_more k (kwh_at b)
