-- Laws of the shares of an amount over weights, at any number of places.
use Rattle.std.proofs.Common.{◌≡◌, ℕ, zero, suc, ◌+◌, ◌-◌, ◌*◌, ◌/◌, ◌<◌, ◌≤◌, sym, refl, ap, ◌∙◌, ⊎_elim, mul-le-mul_left, le-div_iff_mul-le, mul-add, arith}
use native.Mathlib.Nat.{div-zero, zero-div, mul-div_left}
use Rattle.std.proofs.lemmas.Bool.{cases_lt, lt-ltb, le-ltb}
use Rattle.foundation.specs.Sums.{sum_to}
use Rattle.foundation.specs.Division.{share, without, Divided}
use Rattle.foundation.proofs.Sums.{sum_to_none, sum_to_more, sum_to_eq, sum_to_one_le}

-- a larger number has no smaller quotient
pub div_le_div : (a b c : ℕ) → a ≤ b → a / c ≤ b / c
div_le_div a b zero h = omega (arith, div-zero a)
div_le_div a b (suc c) h = (le-div_iff_mul-le {k = suc c} (omega arith)).1 (omega arith)

-- no weights reach nothing
pub reached_none : (amount n : ℕ) (w : ℕ → ℕ) → amount * sum_to 0 w / sum_to n w ≡ 0
reached_none amount n w =
    let none : amount * sum_to 0 w ≡ 0 = omega (arith, ap (λ s. amount * s) (sum_to_none w)) in
    ap (λ x. x / sum_to n w) none ∙ zero-div (sum_to n w)

-- the quotient that the first k weights reach grows with k
pub reached_le : (amount n : ℕ) (w : ℕ → ℕ) (k : ℕ) → amount * sum_to k w / sum_to n w ≤ amount * sum_to (suc k) w / sum_to n w
reached_le amount n w k = div_le_div _ _ (sum_to n w) (mul-le-mul_left amount (omega (arith, sum_to_more k w)))

pub share_is : (amount n : ℕ) (w : ℕ → ℕ) (k : ℕ) → share amount n w k ≡ amount * sum_to (suc k) w / sum_to n w - amount * sum_to k w / sum_to n w
unfolding share
share_is amount n w k = refl

-- the first m shares add up to the quotient that the first m weights reach
pub share_sum : (amount n m : ℕ) (w : ℕ → ℕ) → sum_to m (share amount n w) ≡ amount * sum_to m w / sum_to n w
unfolding share
share_sum amount n zero w = sum_to_none (share amount n w) ∙ sym (reached_none amount n w)
share_sum amount n (suc m) w =
    omega (arith, sum_to_more m (share amount n w), share_sum amount n m w, reached_le amount n w m)

pub share_whole : (amount n : ℕ) (w : ℕ → ℕ) → 0 < sum_to n w → sum_to n (share amount n w) ≡ amount
share_whole amount n w h = share_sum amount n n w ∙ mul-div_left amount h

-- the step between two quotients is less than one away from the exact step
step_near : (a b x c : ℕ) → 0 < c → b ≡ a + x → (x < (b / c - a / c) * c + c) × ((b / c - a / c) * c < x + c)
step_near a b x c h e =
    let step : (b / c - a / c) + a / c ≡ b / c = omega (arith, div_le_div a b c (omega arith)) in
    let times : (b / c - a / c) * c + a / c * c ≡ b / c * c = omega (arith, ap (λ q. q * c) step) in
    (omega arith, omega arith)

weighed : (amount k : ℕ) (w : ℕ → ℕ) → amount * sum_to (suc k) w ≡ amount * sum_to k w + amount * w k
weighed amount k w = ap (λ s. amount * s) (sum_to_more k w) ∙ mul-add amount (sum_to k w) (w k)

pub share_above : (amount n : ℕ) (w : ℕ → ℕ) (k : ℕ) → 0 < sum_to n w → amount * w k < share amount n w k * sum_to n w + sum_to n w
unfolding share
share_above amount n w k h = (step_near _ _ _ (sum_to n w) h (weighed amount k w)).0

pub share_below : (amount n : ℕ) (w : ℕ → ℕ) (k : ℕ) → 0 < sum_to n w → share amount n w k * sum_to n w < amount * w k + sum_to n w
unfolding share
share_below amount n w k h = (step_near _ _ _ (sum_to n w) h (weighed amount k w)).1

pub share_nothing : (amount n : ℕ) (w : ℕ → ℕ) (k : ℕ) → w k ≡ 0 → share amount n w k ≡ 0
unfolding share
share_nothing amount n w k h =
    let same : sum_to (suc k) w ≡ sum_to k w = omega (arith, sum_to_more k w) in
    omega (arith, ap (λ s. amount * s / sum_to n w) same)

-- where all weights are 0, so are all shares
pub share_none : (amount n : ℕ) (w : ℕ → ℕ) (k : ℕ) → sum_to n w ≡ 0 → share amount n w k ≡ 0
unfolding share
share_none amount n w k h =
    let all = amount * sum_to (suc k) w in
    omega (arith, ap (λ c. all / c) h, div-zero all)

-- no share is above the amount
pub share_le : (amount n : ℕ) (w : ℕ → ℕ) (k : ℕ) → k < n → share amount n w k ≤ amount
share_le amount n w k h =
    ⊎_elim
    (λ (l : 0 < sum_to n w). omega (arith, sum_to_one_le n (share amount n w) k h, share_whole amount n w l))
    (λ (l : sum_to n w ≤ 0). omega (arith, share_none amount n w k (omega arith)))
    (cases_lt 0 (sum_to n w))

-- a share is told by three sums: of all weights, of those up to its place and of those before it
pub share_from : (amount m n : ℕ) (v w : ℕ → ℕ) (i k : ℕ) → sum_to m v ≡ sum_to n w → sum_to (suc i) v ≡ sum_to (suc k) w → sum_to i v ≡ sum_to k w → share amount m v i ≡ share amount n w k
unfolding share
share_from amount m n v w i k all upto before = rw (all, upto, before)

-- equal weights at equal places give equal shares
pub share_eq : (amount n : ℕ) (v w : ℕ → ℕ) → ((k : ℕ) → k < n → v k ≡ w k) → (k : ℕ) → k < n → share amount n v k ≡ share amount n w k
share_eq amount n v w h k l =
    share_from amount n n v w k k
    (sum_to_eq n v w h)
    (sum_to_eq (suc k) v w (λ i m. h i (omega arith)))
    (sum_to_eq k v w (λ i m. h i (omega arith)))

-- the sum of a list with place j left out: the same up to j, and past it one place on, where the weight at j is 0
pub sum_to_without_before : (j m : ℕ) (w : ℕ → ℕ) → m ≤ j → sum_to m (without j w) ≡ sum_to m w
sum_to_without_before j m w h = sum_to_eq m (without j w) w (λ k l. let p = lt-ltb k j (omega arith) in rw p)

pub sum_to_without_after : (j m : ℕ) (w : ℕ → ℕ) → w j ≡ 0 → j ≤ m → sum_to m (without j w) ≡ sum_to (suc m) w
sum_to_without_after j zero w z h =
    let e : j ≡ 0 = omega arith in
    omega (arith, sum_to_none (without j w), sum_to_none w, sum_to_more 0 w, sym (ap w e) ∙ z)
sum_to_without_after j (suc m) w z h =
    ⊎_elim
    (λ (l : m < j).
    let e : j ≡ suc m = omega arith in
    omega (arith, sum_to_without_before j (suc m) w (omega arith), sum_to_more (suc m) w, sym (ap w e) ∙ z))
    (λ (l : j ≤ m).
    let here : without j w m ≡ w (suc m) = let p = le-ltb m j l in rw p in
    omega (arith, sum_to_more m (without j w), sum_to_without_after j m w z l, sum_to_more (suc m) w, here))
    (cases_lt m j)

same_without : (n j : ℕ) (f g : ℕ → ℕ) → ((k : ℕ) → k < n → f k ≡ g k) → (i : ℕ) → suc i < n → without j f i ≡ without j g i
same_without n j f g h i l = let p = h i (omega arith) in let q = h (suc i) l in rw (p, q)

pub share_without : (amount n j : ℕ) (w : ℕ → ℕ) → j < n → w j ≡ 0 → (i : ℕ) → share amount (n - 1) (without j w) i ≡ without j (share amount n w) i
share_without amount n j w h z i =
    let same : suc (n - 1) ≡ n = omega arith in
    let all : sum_to (n - 1) (without j w) ≡ sum_to n w = sum_to_without_after j (n - 1) w z (omega arith) ∙ ap (λ m. sum_to m w) same in
    ⊎_elim
    (λ (l : i < j).
    let p = lt-ltb i j l in
    rw p (share_from amount (n - 1) n (without j w) w i i all (sum_to_without_before j (suc i) w l) (sum_to_without_before j i w (omega arith))))
    (λ (l : j ≤ i).
    let p = le-ltb i j l in
    rw p (share_from amount (n - 1) n (without j w) w i (suc i) all (sum_to_without_after j (suc i) w z (omega arith)) (sum_to_without_after j i w z l)))
    (cases_lt i j)

-- shares that equal `share` are as the contract of `divide` says
pub divided : (amount n : ℕ) (w s : ℕ → ℕ) → ((k : ℕ) → k < n → s k ≡ share amount n w k) → Divided amount n w s
divided amount n w s h =
    record {
      shares = h;
      whole = λ p. sum_to_eq n s (share amount n w) h ∙ share_whole amount n w p;
      above = λ k l p. rw (h k l) (share_above amount n w k p);
      below = λ k l p. rw (h k l) (share_below amount n w k p);
      nothing = λ k l z. h k l ∙ share_nothing amount n w k z;
      left_out = λ j l z i m. share_without amount n j w l z i ∙ same_without n j (share amount n w) s (λ k q. sym (h k q)) i m;
      alike = λ v same k l. share_eq amount n v w same k l ∙ sym (h k l);
    }
