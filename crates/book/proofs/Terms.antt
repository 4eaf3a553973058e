-- What is known of terms without a fault.
use Rattle.std.proofs.Common.{◌≡◌, ℕ, ◌<◌, Bool, true, false, ◌&&◌, ltb, leb, List, length, None, sym, refl, ap, ◌∙◌, arith}
use Rattle.std.proofs.lemmas.Bool.{leb-true, ltb-true}
use Rattle.std.proofs.lemmas.Bool.Decides.{nat_tests}
use Rattle.foundation.specs.Fault.{refused_in, unless_in}
use Rattle.foundation.specs.First.{or_else}
use Rattle.foundation.proofs.First.{first_to_silent, or_else_left, or_else_right, some_none}
use Rattle.energy.specs.Energy.{member}
use Rattle.book.specs.declared.term.Term.{Term}
use Rattle.book.specs.Calls.{amount_at, is_term, number_fault, region_at, service_at}
use Rattle.book.specs.Checks.{Ranged, request_fault, terms_fault}

-- what stands past the end of a list of terms
abbrev pub no_term : Term
no_term = record { region = 0; service = 0; amount = 0 }

-- a region that there is lies in a set where the test says so
pub member_is : (D r : ℕ) (b : Bool) → r < 5 → b ≡ (ltb r 5 && member D r) → member D r ≡ b
member_is D r b low e = let t : ltb r 5 ≡ true = grind (arith, nat_tests) in sym (e ∙ ap (λ x. x && member D r) t)

pub unless_none : (layer : ℕ) (t : Bool) (number place : ℕ) → unless_in layer t number place ≡ None → t ≡ true
unless_none layer true number place e = refl
unless_none layer false number place e = absurd (some_none (refused_in layer number place) e)

pub and_first : (a b : Bool) → (a && b) ≡ true → a ≡ true
and_first true b e = refl
and_first false b e = e

pub and_second : (a b : Bool) → (a && b) ≡ true → b ≡ true
and_second true b e = e
and_second false b e = absurd (let z : ◌≡◌ {A = ℕ} 0 1 = cc in omega arith)

pub ranged : (n interval value : ℕ) (ts : List Term) → request_fault n interval value ts ≡ None → Ranged ts
ranged n interval value ts none =
    let values = or_else (unless_in 3 (leb value 2000000) 2 0) (terms_fault ts) in
    let intervals = or_else (unless_in 3 (leb interval 2015) 2 0) values in
    let numbers = or_else (number_fault n) intervals in
    let fine : terms_fault ts ≡ None = or_else_right _ _ (or_else_right (unless_in 3 (leb interval 2015) 2 0) values (or_else_right (number_fault n) intervals (or_else_right (unless_in 3 (leb (length ts) 10) 1 0) numbers none))) in
    record {
      few = leb-true (length ts) 10 (unless_none 3 (leb (length ts) 10) 1 0 (or_else_left _ numbers none));
      regions = λ k l. ltb-true (region_at ts k) 5 (and_first (ltb (region_at ts k) 5) ((leb 1 (service_at ts k) && leb (service_at ts k) 2) && leb (amount_at ts k) 20000) (unless_none 3 (is_term ts k) 2 k (first_to_silent (length ts) (λ j. unless_in 3 (is_term ts j) 2 j) fine k l)));
    }
