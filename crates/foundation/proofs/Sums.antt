-- Laws of sums over places counted from 0.
use Rattle.std.proofs.Common.{◌≡◌, ℕ, zero, suc, ◌+◌, ◌*◌, ◌<◌, ◌≤◌, Bool, true, false, cond, eqb, ℤ, pos, negsuc, ◌+ℤ◌, nat_abs, refl, ap, ⊎_elim, arith}
use lib.Signed.{mag}
use Rattle.std.proofs.lemmas.Int.{ints}
use Rattle.std.proofs.lemmas.Bool.{cases_lt}
use Rattle.std.proofs.lemmas.Bool.Decides.{nat_tests}
use Rattle.foundation.specs.Sums.{sum_to, sum_to_int}
use Rattle.foundation.proofs.Signed.{nat_abs_add}

pub sum_to_none : (f : ℕ → ℕ) → sum_to 0 f ≡ 0
unfolding sum_to
sum_to_none f = refl

pub sum_to_more : (n : ℕ) (f : ℕ → ℕ) → sum_to (suc n) f ≡ sum_to n f + f n
unfolding sum_to
sum_to_more n f = refl

pub sum_to_zero : (n : ℕ) (f : ℕ → ℕ) → ((k : ℕ) → k < n → f k ≡ 0) → sum_to n f ≡ 0
unfolding sum_to
sum_to_zero zero f h = refl
sum_to_zero (suc n) f h = omega (arith, sum_to_zero n f (λ k l. h k (omega arith)), h n (omega arith))

pub sum_to_eq : (n : ℕ) (f g : ℕ → ℕ) → ((k : ℕ) → k < n → f k ≡ g k) → sum_to n f ≡ sum_to n g
unfolding sum_to
sum_to_eq zero f g h = refl
sum_to_eq (suc n) f g h = omega (arith, sum_to_eq n f g (λ k l. h k (omega arith)), h n (omega arith))

pub sum_to_le : (n : ℕ) (f g : ℕ → ℕ) → ((k : ℕ) → k < n → f k ≤ g k) → sum_to n f ≤ sum_to n g
unfolding sum_to
sum_to_le zero f g h = omega arith
sum_to_le (suc n) f g h = omega (arith, sum_to_le n f g (λ k l. h k (omega arith)), h n (omega arith))

pub sum_to_mono : (m n : ℕ) (f : ℕ → ℕ) → m ≤ n → sum_to m f ≤ sum_to n f
unfolding sum_to
sum_to_mono m zero f h = let e : m ≡ 0 = omega arith in omega (arith, ap (λ k. sum_to k f) e)
sum_to_mono m (suc n) f h =
    ⊎_elim
    (λ (l : m < suc n). omega (arith, sum_to_mono m n f (omega arith)))
    (λ (l : suc n ≤ m). let e : m ≡ suc n = omega arith in omega (arith, ap (λ k. sum_to k f) e))
    (cases_lt m (suc n))

pub sum_to_add : (n : ℕ) (f g : ℕ → ℕ) → sum_to n (λ k. f k + g k) ≡ sum_to n f + sum_to n g
unfolding sum_to
sum_to_add zero f g = refl
sum_to_add (suc n) f g = omega (arith, sum_to_add n f g)

pub sum_to_bound : (n b : ℕ) (f : ℕ → ℕ) → ((k : ℕ) → k < n → f k ≤ b) → sum_to n f ≤ n * b
unfolding sum_to
sum_to_bound zero b f h = omega arith
sum_to_bound (suc n) b f h = omega (arith, sum_to_bound n b f (λ k l. h k (omega arith)), h n (omega arith))

-- one place is at most the whole
pub sum_to_one_le : (n : ℕ) (f : ℕ → ℕ) (k : ℕ) → k < n → f k ≤ sum_to n f
sum_to_one_le n f k h = omega (arith, sum_to_more k f, sum_to_mono (suc k) n f (omega arith))

-- a sum that stands under a test
pub sum_to_cond : (b : Bool) (n : ℕ) (f : ℕ → ℕ) → sum_to n (λ p. cond b (f p) 0) ≡ cond b (sum_to n f) 0
sum_to_cond true n f = refl
sum_to_cond false n f = sum_to_zero n (λ p. 0) (λ k l. refl)

-- what stands at one place only
pub sum_to_single : (n k v : ℕ) → k < n → sum_to n (λ p. cond (eqb p k) v 0) ≡ v
sum_to_single zero k v l = absurd (omega arith)
sum_to_single (suc n) k v l =
    ⊎_elim
    (λ (m : k < n). let other : cond (eqb n k) v 0 ≡ 0 = grind (arith, nat_tests) in omega (arith, sum_to_more n (λ p. cond (eqb p k) v 0), sum_to_single n k v m, other))
    (λ (m : n ≤ k).
    let here : cond (eqb n k) v 0 ≡ v = grind (arith, nat_tests) in
    omega (arith, sum_to_more n (λ p. cond (eqb p k) v 0), sum_to_zero n (λ p. cond (eqb p k) v 0) (λ p q. grind (arith, nat_tests)), here))
    (cases_lt k n)

pub sum_to_int_none : (f : ℕ → ℤ) → sum_to_int 0 f ≡ pos 0
unfolding sum_to_int
sum_to_int_none f = refl

pub sum_to_int_more : (n : ℕ) (f : ℕ → ℤ) → sum_to_int (suc n) f ≡ sum_to_int n f +ℤ f n
unfolding sum_to_int
sum_to_int_more n f = refl

pub sum_to_int_eq : (n : ℕ) (f g : ℕ → ℤ) → ((k : ℕ) → k < n → f k ≡ g k) → sum_to_int n f ≡ sum_to_int n g
unfolding sum_to_int
sum_to_int_eq zero f g h = refl
sum_to_int_eq (suc n) f g h = omega (arith, ints, sum_to_int_eq n f g (λ k l. h k (omega arith)), h n (omega arith))

pub sum_to_int_add : (n : ℕ) (f g : ℕ → ℤ) → sum_to_int n (λ k. f k +ℤ g k) ≡ sum_to_int n f +ℤ sum_to_int n g
unfolding sum_to_int
sum_to_int_add zero f g = refl
sum_to_int_add (suc n) f g = omega (arith, ints, sum_to_int_add n f g)

pub sum_to_int_zero : (n : ℕ) (f : ℕ → ℤ) → ((k : ℕ) → k < n → f k ≡ pos 0) → sum_to_int n f ≡ pos 0
unfolding sum_to_int
sum_to_int_zero zero f h = refl
sum_to_int_zero (suc n) f h = omega (arith, ints, sum_to_int_zero n f (λ k l. h k (omega arith)), h n (omega arith))

pub sum_to_int_abs : (n b : ℕ) (f : ℕ → ℤ) → ((k : ℕ) → k < n → nat_abs (f k) ≤ b) → nat_abs (sum_to_int n f) ≤ n * b
unfolding sum_to_int
sum_to_int_abs zero b f h = omega arith
sum_to_int_abs (suc n) b f h = omega (arith, nat_abs_add (sum_to_int n f) (f n), sum_to_int_abs n b f (λ k l. h k (omega arith)), h n (omega arith))

mag_le : (a : ℤ) → mag a ≤ nat_abs a
mag_le (pos n) = omega arith
mag_le (negsuc n) = omega arith

abs_le : (a : ℤ) → nat_abs a ≤ mag a + 1
abs_le (pos n) = omega arith
abs_le (negsuc n) = omega arith

-- `mag` below b says: from -b to b - 1. At most b would not do, as two numbers -1 show: each has mag 0, and their sum has 1
pub sum_to_int_bound : (n b : ℕ) (f : ℕ → ℤ) → ((k : ℕ) → k < n → mag (f k) < b) → mag (sum_to_int n f) ≤ n * b
sum_to_int_bound n b f h = omega (arith, mag_le (sum_to_int n f), sum_to_int_abs n b f (λ k l. omega (arith, abs_le (f k), h k l)))
