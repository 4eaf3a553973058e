-- What is known of owner bytes without a fault.
use Rattle.std.proofs.Common.{◌≡◌, ℕ, ◌≤◌, Bool, true, false, cond, ◌&&◌, eqb, leb, List, length, Some, None, Option, sym, refl, true-eqb}
use borrow.Author.Tests.{true-leb}
use Rattle.foundation.specs.Fault.{Refused}
use Rattle.foundation.proofs.First.{some_none}
use Rattle.sampling.specs.Interval.{in_samples}
use Rattle.sampling.specs.Registration.{owners_fault, registration_fault}

second : (p q r : Bool) (x : Option Refused) (y z : Refused) → cond p (cond (q && r) x (Some y)) (Some z) ≡ None → r ≡ true
second false q r x y z h = absurd (some_none z h)
second true false r x y z h = absurd (some_none y h)
second true true false x y z h = absurd (some_none y h)
second true true true x y z h = refl

pub few_owners : (n : ℕ) (os : List ℕ) → registration_fault n os ≡ None → length os ≤ 256
unfolding registration_fault
few_owners n os h = true-leb (length os) 256 (sym (second (eqb n 0) (leb 1 (length os)) (leb (length os) 256) (owners_fault os) (in_samples 1 0) (in_samples 4 0) h))

first : (p q : Bool) (x : Option Refused) (y z : Refused) → cond p (cond q x (Some y)) (Some z) ≡ None → p ≡ true
first false q x y z h = absurd (some_none z h)
first true q x y z h = refl

pub none_before : (n : ℕ) (os : List ℕ) → registration_fault n os ≡ None → n ≡ 0
unfolding registration_fault
none_before n os h = true-eqb n 0 (sym (first (eqb n 0) (leb 1 (length os) && leb (length os) 256) (owners_fault os) (in_samples 1 0) (in_samples 4 0) h))
