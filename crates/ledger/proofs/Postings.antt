-- One line more in one amount.
use Rattle.std.proofs.Common.{◌≡◌, ℕ, zero, suc, ◌+◌, ◌-◌, ◌*◌, ◌<◌, ◌≤◌, Bool, true, false, cond, ◌&&◌, eqb, ltb, leb, List, ◌∷◌, ℤ, pos, negsuc, ◌+ℤ◌, neg_ℤ, nat_abs, None, Ok, Err, Result, sym, refl, ap, ◌∙◌, ⊎_elim, arith}
use lib.Signed.{le_z}
use Rattle.std.proofs.lemmas.Int.{ints}
use Rattle.std.proofs.lemmas.Bool.{and_parts, cases_Bool, ltb-true, leb-true, cond-true, cond-false}
use Rattle.std.proofs.lemmas.Bool.Decides.{nat_tests}
use Rattle.foundation.specs.Fault.{unless_in}
use Rattle.foundation.specs.First.{or_else}
use Rattle.foundation.specs.Sums.{sum_to}
use Rattle.foundation.proofs.First.{some_none}
use Rattle.foundation.proofs.Signed.{nat_abs_add}
use Rattle.foundation.proofs.Sums.{sum_to_add, sum_to_cond, sum_to_eq, sum_to_le, sum_to_one_le, sum_to_single, sum_to_zero}
use Rattle.ledger.specs.Amounts.{is_amount, is_debit, seen, magnitudes, posted, post_fault, after_post}
use Rattle.ledger.specs.Posts.{Event, Holds, called_post, lines_in, sum_of}

-- a party and a serial that there are
pub party_in : (p s : ℕ) → is_amount p s ≡ true → p < 64
party_in p s h = ltb-true p 64 (and_parts _ _ h).0

pub serial_least : (p s : ℕ) → is_amount p s ≡ true → 1 ≤ s
serial_least p s h = leb-true 1 s (and_parts _ _ (and_parts _ _ h).1).0

pub serial_most : (p s : ℕ) → is_amount p s ≡ true → s ≤ 32
serial_most p s h = leb-true s 32 (and_parts (leb 1 s) _ (and_parts (ltb p 64) _ h).1).1

magnitudes_is : (f : ℕ → ℕ → ℤ) → magnitudes f ≡ sum_to 64 (λ p. sum_to 32 (λ s. nat_abs (f p (suc s))))
unfolding magnitudes
magnitudes_is f = refl

pub magnitudes_zero : (f : ℕ → ℕ → ℤ) → ((p s : ℕ) → f p s ≡ pos 0) → magnitudes f ≡ 0
magnitudes_zero f h = magnitudes_is f ∙ sum_to_zero 64 _ (λ p l. sum_to_zero 32 _ (λ s m. ap nat_abs (h p (suc s))))

pub magnitudes_eq : (f g : ℕ → ℕ → ℤ) → ((p s : ℕ) → f p s ≡ g p s) → magnitudes f ≡ magnitudes g
magnitudes_eq f g h = magnitudes_is f ∙ sum_to_eq 64 _ _ (λ p l. sum_to_eq 32 _ _ (λ s m. ap nat_abs (h p (suc s)))) ∙ sym (magnitudes_is g)

-- no amount is larger than all together
pub amount_le : (f : ℕ → ℕ → ℤ) (p s : ℕ) → p < 64 → s < 32 → nat_abs (f p (suc s)) ≤ magnitudes f
amount_le f p s l m =
    omega (arith, magnitudes_is f, sum_to_one_le 64 (λ q. sum_to 32 (λ t. nat_abs (f q (suc t)))) p l, sum_to_one_le 32 (λ t. nat_abs (f p (suc t))) s m)

-- a line adds at most its size to one amount, and to all together
single : (b c : Bool) (a line : ℤ) → nat_abs (a +ℤ cond (b && c) line (pos 0)) ≤ nat_abs a + cond b (cond c (nat_abs line) 0) 0
single true true a line = nat_abs_add a line
single true false a line = omega (arith, ints)
single false c a line = omega (arith, ints)

same_step : (t s : ℕ) → eqb (suc t) (suc s) ≡ eqb t s
same_step t s = grind (arith, nat_tests)

of_party : (p s : ℕ) (line : ℤ) (f : ℕ → ℕ → ℤ) (q : ℕ) → s < 32 → sum_to 32 (λ t. nat_abs (posted p (suc s) line f q (suc t))) ≤ sum_to 32 (λ t. nat_abs (f q (suc t))) + cond (eqb q p) (nat_abs line) 0
of_party p s line f q m =
    let each : (t : ℕ) → t < 32 → nat_abs (posted p (suc s) line f q (suc t)) ≤ nat_abs (f q (suc t)) + cond (eqb q p) (cond (eqb t s) (nat_abs line) 0) 0 =
    λ t l. rw (same_step t s) (single (eqb q p) (eqb t s) (f q (suc t)) line) in
    let all : sum_to 32 (λ t. cond (eqb q p) (cond (eqb t s) (nat_abs line) 0) 0) ≡ cond (eqb q p) (nat_abs line) 0 =
    sum_to_cond (eqb q p) 32 (λ t. cond (eqb t s) (nat_abs line) 0) ∙ ap (λ n. cond (eqb q p) n 0) (sum_to_single 32 s (nat_abs line) m) in
    omega (arith, sum_to_le 32 _ _ each, sum_to_add 32 (λ t. nat_abs (f q (suc t))) (λ t. cond (eqb q p) (cond (eqb t s) (nat_abs line) 0) 0), all)

pub posted_magnitudes : (p s : ℕ) (line : ℤ) (f : ℕ → ℕ → ℤ) → p < 64 → s < 32 → magnitudes (posted p (suc s) line f) ≤ magnitudes f + nat_abs line
posted_magnitudes p s line f l m =
    omega (
      arith,
      magnitudes_is f,
      magnitudes_is (posted p (suc s) line f),
      sum_to_le 64 _ (λ q. sum_to 32 (λ t. nat_abs (f q (suc t))) + cond (eqb q p) (nat_abs line) 0) (λ q k. of_party p s line f q m),
      sum_to_add 64 (λ q. sum_to 32 (λ t. nat_abs (f q (suc t)))) (λ q. cond (eqb q p) (nat_abs line) 0),
      sum_to_single 64 p (nat_abs line) l,
    )

-- a debt is minus its size
pub debt_is : (a : ℤ) → le_z a (pos 0) ≡ true → a ≡ neg_ℤ (pos (nat_abs a))
debt_is (pos n) h =
    let none : n ≡ 0 = omega (arith, leb-true n 0 h) in
    ap pos none ∙ sym (ap (λ k. neg_ℤ (pos k)) none)
debt_is (negsuc n) h = refl

pub debt_of : (n : ℕ) → le_z (neg_ℤ (pos n)) (pos 0) ≡ true
debt_of zero = refl
debt_of (suc n) = refl

both : (m n : ℕ) → neg_ℤ (pos m) +ℤ neg_ℤ (pos n) ≡ neg_ℤ (pos (m + n))
both m n = omega (arith, ints)

pub none_more : (a : ℤ) → a +ℤ pos 0 ≡ a
none_more a = omega (arith, ints)

-- debts stay debts
pub debt_more : (b : Bool) (a line : ℤ) → le_z a (pos 0) ≡ true → le_z line (pos 0) ≡ true → le_z (a +ℤ cond b line (pos 0)) (pos 0) ≡ true
debt_more true a line h k =
    ap (λ z. le_z z (pos 0)) (ap (λ z. z +ℤ line) (debt_is a h) ∙ ap (λ z. neg_ℤ (pos (nat_abs a)) +ℤ z) (debt_is line k) ∙ both (nat_abs a) (nat_abs line))
    ∙ debt_of (nat_abs a + nat_abs line)
debt_more false a line h k = ap (λ z. le_z z (pos 0)) (none_more a) ∙ h

-- what the posts so far come to goes on with one post more
pub holds_more : {A E : Type 0} (r : Result A E) (p s : ℕ) (line : ℤ) (f g : ℕ → ℕ → ℤ) → ((q t : ℕ) → g q t ≡ after_post r p s line f q t) → (h : List Event) → Holds h f → Holds (called_post r p s line ∷ h) g
holds_more (Ok u) p s line f g new h old q t m = new q t ∙ ap (λ z. z +ℤ cond (eqb q p && eqb t s) line (pos 0)) (old q t m)
holds_more (Err e) p s line f g new h old q t m = new q t ∙ old q t m

pub holds_seen : (f : ℕ → ℕ → ℤ) (h : List Event) → Holds h f → (p s : ℕ) → seen f p s ≡ seen (sum_of (lines_in h)) p s
holds_seen f h old p s =
    ⊎_elim
    (λ (m : is_amount p s ≡ true). cond-true _ _ _ m ∙ old p s m ∙ sym (cond-true _ _ _ m))
    (λ (m : is_amount p s ≡ false). cond-false _ _ _ m ∙ sym (cond-false _ _ _ m))
    (cases_Bool (is_amount p s))

-- a post that has no fault
found : (a b : Bool) → or_else (unless_in 4 a 2 0) (unless_in 4 b 18 0) ≡ None → (a ≡ true) × (b ≡ true)
found true true e = (refl, refl)
found true false e = absurd (some_none _ e)
found false b e = absurd (some_none _ e)

pub record Sound (p s : ℕ) (line : ℤ) (left : ℕ) : Type 0 where
  pub amount : is_amount p s ≡ true
  pub debt : le_z line (pos 0) ≡ true
  pub size : nat_abs line ≤ 200000000000
  pub some : 1 ≤ left

pub sound : (p s : ℕ) (line : ℤ) (left : ℕ) → post_fault p s line left ≡ None → Sound p s line left
sound p s line left e =
    let both = found (is_amount p s && is_debit line) (leb 1 left) e in
    let fields = and_parts (is_amount p s) (is_debit line) both.0 in
    let line_is = and_parts (le_z line (pos 0)) (leb (nat_abs line) 200000000000) fields.1 in
    record { amount = fields.0; debt = line_is.0; size = leb-true _ _ line_is.1; some = leb-true _ _ both.1 }

-- all amounts after a post, where some number of lines has come to what was there before
pub sizes_more : (p s : ℕ) (line : ℤ) (left lines : ℕ) (f g : ℕ → ℕ → ℤ) → Sound p s line left → ((q t : ℕ) → g q t ≡ posted p s line f q t) → magnitudes f ≤ lines * 200000000000 → magnitudes g ≤ (lines + 1) * 200000000000
sizes_more p s line left lines f g x new old =
    let next : suc (s - 1) ≡ s = omega (arith, serial_least p s x.amount) in
    let more : magnitudes (posted p (suc (s - 1)) line f) ≤ magnitudes f + nat_abs line = posted_magnitudes p (s - 1) line f (party_in p s x.amount) (omega (arith, serial_least p s x.amount, serial_most p s x.amount)) in
    let moved : magnitudes (posted p (suc (s - 1)) line f) ≡ magnitudes (posted p s line f) = ap (λ n. magnitudes (posted p n line f)) next in
    omega (arith, more, moved, magnitudes_eq g (posted p s line f) new, x.size, old)

-- nor are all parties' amounts under one serial
pub serial_le : (f : ℕ → ℕ → ℤ) (s : ℕ) → s < 32 → sum_to 64 (λ p. nat_abs (f p (suc s))) ≤ magnitudes f
serial_le f s m = omega (arith, magnitudes_is f, sum_to_le 64 (λ p. nat_abs (f p (suc s))) (λ p. sum_to 32 (λ t. nat_abs (f p (suc t)))) (λ p l. sum_to_one_le 32 (λ t. nat_abs (f p (suc t))) s m))
