-- The sum of all parties' amounts under a serial.
use Rattle.std.proofs.Common.{◌≡◌, ℕ, zero, suc, ◌+◌, ◌-◌, ◌*◌, ◌<◌, ◌≤◌, Bool, true, false, cond, ◌&&◌, ltb, leb, ℤ, pos, ◌+ℤ◌, nat_abs, ap, ⊎_elim, arith}
use Rattle.std.proofs.lemmas.Bool.{and_parts, and_right, cases_Bool, cond-false, leb-true}
use Rattle.std.proofs.lemmas.Int.{ints}
use Rattle.foundation.specs.Sums.{sum_to, sum_to_int}
use Rattle.foundation.proofs.Signed.{nat_abs_add}
use Rattle.foundation.proofs.Sums.{sum_to_le, sum_to_mono, sum_to_more, sum_to_zero, sum_to_int_more, sum_to_int_none}
use Rattle.ledger.specs.Amounts.{is_amount, magnitudes, seen}
use Rattle.ledger.proofs.Postings.{serial_le}

sizes : (n : ℕ) (g : ℕ → ℤ) → nat_abs (sum_to_int n g) ≤ sum_to n (λ p. nat_abs (g p))
sizes zero g = rw (sum_to_int_none g) (omega arith)
sizes (suc n) g = rw (sum_to_int_more n g) (omega (arith, nat_abs_add (sum_to_int n g) (g n), sizes n g, sum_to_more n (λ p. nat_abs (g p))))

seen_size : (f : ℕ → ℕ → ℤ) (p s : ℕ) → nat_abs (seen f p s) ≤ nat_abs (f p s)
seen_size f p s = one (is_amount p s)
  where
    one : (b : Bool) → nat_abs (cond b (f p s) (pos 0)) ≤ nat_abs (f p s)
    one true = omega arith
    one false = omega arith

none_seen : (f : ℕ → ℕ → ℤ) (p s : ℕ) → (leb 1 s && leb s 32) ≡ false → nat_abs (seen f p s) ≡ 0
none_seen f p s h = ap nat_abs (cond-false (is_amount p s) (f p s) (pos 0) (and_right (ltb p 64) (leb 1 s && leb s 32) h))

-- no sum of some parties' amounts is larger than all amounts together
pub sum_size : (f : ℕ → ℕ → ℤ) (s n : ℕ) → n ≤ 64 → nat_abs (sum_to_int n (λ p. seen f p s)) ≤ magnitudes f
sum_size f s n l =
    let all : nat_abs (sum_to_int n (λ p. seen f p s)) ≤ sum_to 64 (λ p. nat_abs (seen f p s)) = omega (arith, sizes n (λ p. seen f p s), sum_to_mono n 64 (λ p. nat_abs (seen f p s)) l) in
    ⊎_elim
    (λ (h : (leb 1 s && leb s 32) ≡ true).
    let both = and_parts (leb 1 s) (leb s 32) h in
    let next : suc (s - 1) ≡ s = omega (arith, leb-true 1 s both.0) in
    let most : sum_to 64 (λ p. nat_abs (f p (suc (s - 1)))) ≤ magnitudes f = serial_le f (s - 1) (omega (arith, leb-true 1 s both.0, leb-true s 32 both.1)) in
    let same : sum_to 64 (λ p. nat_abs (f p (suc (s - 1)))) ≡ sum_to 64 (λ p. nat_abs (f p s)) = ap (λ t. sum_to 64 (λ p. nat_abs (f p t))) next in
    omega (arith, all, sum_to_le 64 (λ p. nat_abs (seen f p s)) (λ p. nat_abs (f p s)) (λ p m. seen_size f p s), most, same))
    (λ (h : (leb 1 s && leb s 32) ≡ false). omega (arith, all, sum_to_zero 64 (λ p. nat_abs (seen f p s)) (λ p m. none_seen f p s h)))
    (cases_Bool (leb 1 s && leb s 32))

pub one_size : (f : ℕ → ℕ → ℤ) (s p : ℕ) → p < 64 → nat_abs (seen f p s) ≤ 2 * magnitudes f
one_size f s p l =
    let here = sum_size f s p (omega (arith, l)) in
    let next = sum_size f s (suc p) (omega (arith, l)) in
    let back : nat_abs (seen f p s) ≤ nat_abs (sum_to_int p (λ q. seen f q s) +ℤ seen f p s) + nat_abs (sum_to_int p (λ q. seen f q s)) = difference (sum_to_int p (λ q. seen f q s)) (seen f p s) in
    omega (arith, here, next, back, ap nat_abs (sum_to_int_more p (λ q. seen f q s)))
  where
    difference : (a b : ℤ) → nat_abs b ≤ nat_abs (a +ℤ b) + nat_abs a
    difference a b = omega (arith, ints)
