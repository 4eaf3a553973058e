-- The states of the numbers, with one of them written.
use Rattle.std.proofs.Common.{◌≡◌, ℕ, ◌-◌, ◌≤◌, Bool, true, false, cond, eqb, leb, List, length, get_or, set, sym, refl, ap, ◌∙◌, arith, get_or-set_other, get_or-set_same, true-eqb, false-eqb}
use Rattle.std.proofs.lemmas.Bool.{leb-true}
use Rattle.std.proofs.lemmas.Bool.Decides.{nat_tests}
use Rattle.book.specs.declared.state.State.{State}
use Rattle.book.specs.declared.state.State.TheVariants.{Free}
use Rattle.book.specs.Calls.{changed}
use Rattle.book.specs.States.{is_number, state_in}
use Rattle.book.proofs.Terms.{and_first, and_second}

-- a number and its place in the list
pub number_low : (n : ℕ) → is_number n ≡ true → 1 ≤ n
number_low n h = leb-true 1 n (and_first (leb 1 n) (leb n 16) h)

pub number_high : (n : ℕ) → is_number n ≡ true → n ≤ 16
number_high n h = leb-true n 16 (and_second (leb 1 n) (leb n 16) h)

pub is_number_within : (n : ℕ) → 1 ≤ n → n ≤ 16 → is_number n ≡ true
is_number_within n h k = grind (arith, nat_tests)

slot : (b : Bool) (s : State) (n k : ℕ) (states : List State) → eqb k n ≡ b → 1 ≤ k → 1 ≤ n → n ≤ 16 → length states ≡ 16 → get_or (set states (n - 1) s) (k - 1) Free ≡ cond b s (get_or states (k - 1) Free)
slot true s n k states e low first last long = let same : k ≡ n = true-eqb k n (sym e) in rw same (get_or-set_same states (n - 1) s Free (omega arith))
slot false s n k states e low first last long = get_or-set_other states (n - 1) (k - 1) s Free (λ same. false-eqb k n (sym e) (omega arith))

by_number : (b : Bool) (s : State) (n k : ℕ) (states : List State) → is_number k ≡ b → is_number n ≡ true → length states ≡ 16 → state_in (set states (n - 1) s) k ≡ changed n s (state_in states) k
by_number true s n k states h isn long =
    ap (λ t. cond t (get_or (set states (n - 1) s) (k - 1) Free) Free) h
    ∙ slot (eqb k n) s n k states refl (number_low k h) (number_low n isn) (number_high n isn) long
    ∙ sym (ap (λ t. cond (eqb k n) s (cond t (get_or states (k - 1) Free) Free)) h)
by_number false s n k states h isn long =
    let other : eqb k n ≡ false = grind (arith, nat_tests) in
    ap (λ t. cond t (get_or (set states (n - 1) s) (k - 1) Free) Free) h
    ∙ sym (ap (λ t. cond t s (state_in states k)) other ∙ ap (λ t. cond t (get_or states (k - 1) Free) Free) h)

pub written : (states : List State) (n : ℕ) (s : State) → is_number n ≡ true → length states ≡ 16 → (k : ℕ) → state_in (set states (n - 1) s) k ≡ changed n s (state_in states) k
written states n s isn long k = by_number (is_number k) s n k states refl isn long
