-- Laws of the shares of one recovery, over the definitions alone.
use Rattle.std.proofs.Common.{◌≡◌, ℕ, ◌+◌, ◌*◌, ◌/◌, ◌<◌, ◌≤◌, Bool, true, false, cond, ◌&&◌, ltb, ◌⊎◌, sym, refl, ap, ◌∙◌, inl, inr, ⊎_elim, mul-le-mul_right, mul-le-mul_left, arith}
use native.Mathlib.Nat.{zero-div}
use Rattle.std.proofs.lemmas.Bool.{cases_lt, lt-ltb, le-ltb}
use Rattle.foundation.specs.Division.{share}
use Rattle.foundation.specs.Sums.{sum_to}
use Rattle.foundation.proofs.Sums.{sum_to_more, sum_to_eq, sum_to_zero, sum_to_add, sum_to_one_le}
use Rattle.foundation.proofs.Shares.{share_whole, share_above, share_below, share_nothing, share_none, share_eq, share_without}
use Rattle.energy.specs.Energy.{within, member}
use Rattle.recovery.specs.Shares.{Basis, Alike, Shared, WithinTwo, held_in, energy_in, causer, customer, atce, cmpf, crmpf, everywhere, weight, residual_part_of, share_paid, exact_top, exact_bottom}

pub by_flag : (t : Bool) → (t ≡ true) ⊎ (t ≡ false)
by_flag true = inl refl
by_flag false = inr refl

-- the definitions, opened

pub held_is : (D : ℕ) (f : ℕ → ℕ → ℕ) (p : ℕ) → held_in D f p ≡ sum_to 5 (λ r. within D f p r)
unfolding held_in
held_is D f p = refl

pub causer_is : (D : ℕ) (b : Basis) (p : ℕ) → causer D b p ≡ cond (b.factored p && ltb 0 (energy_in D b p)) (b.factor p) 0
unfolding causer
causer_is D b p = refl

pub customer_is : (D : ℕ) (b : Basis) (p : ℕ) → customer D b p ≡ cond (b.factored p) 0 (energy_in D b p)
unfolding customer
customer_is D b p = refl

pub atce_is : (D : ℕ) (b : Basis) → atce D b ≡ sum_to 64 (customer D b)
unfolding atce
atce_is D b = refl

pub cmpf_is : (D : ℕ) (b : Basis) → cmpf D b ≡ sum_to 64 (causer D b)
unfolding cmpf
cmpf_is D b = refl

pub crmpf_is : (D : ℕ) (b : Basis) → crmpf D b ≡ b.residual * atce D b / atce everywhere b
unfolding crmpf
crmpf_is D b = refl

pub residual_is : (D : ℕ) (b : Basis) → residual_part_of D b ≡ share b.part 65 (weight D b) 64
unfolding residual_part_of
residual_is D b = refl

paid_is : (D : ℕ) (b : Basis) (p : ℕ) → share_paid D b p ≡ cond (b.factored p) (share b.part 65 (weight D b) p) (share (residual_part_of D b) 64 (customer D b) p)
unfolding share_paid
paid_is D b p = refl

-- who takes part

pub causer_on : (D : ℕ) (b : Basis) (p : ℕ) → b.factored p ≡ true → 0 < energy_in D b p → causer D b p ≡ b.factor p
causer_on D b p f e = let q = lt-ltb 0 (energy_in D b p) e in causer_is D b p ∙ rw (f, q)

pub causer_off : (D : ℕ) (b : Basis) (p : ℕ) → b.factored p ≡ false → causer D b p ≡ 0
causer_off D b p f = causer_is D b p ∙ rw f

and_false : (a : Bool) (n : ℕ) → cond (a && false) n 0 ≡ 0
and_false true n = refl
and_false false n = refl

pub causer_nought : (D : ℕ) (b : Basis) (p : ℕ) → energy_in D b p ≡ 0 → causer D b p ≡ 0
causer_nought D b p e =
    let q = le-ltb 0 (energy_in D b p) (omega arith) in
    causer_is D b p ∙ rw q (and_false (b.factored p) (b.factor p))

pub customer_on : (D : ℕ) (b : Basis) (p : ℕ) → b.factored p ≡ false → customer D b p ≡ energy_in D b p
customer_on D b p f = customer_is D b p ∙ rw f

pub customer_off : (D : ℕ) (b : Basis) (p : ℕ) → b.factored p ≡ true → customer D b p ≡ 0
customer_off D b p f = customer_is D b p ∙ rw f

pub customer_nought : (D : ℕ) (b : Basis) (p : ℕ) → energy_in D b p ≡ 0 → customer D b p ≡ 0
customer_nought D b p e = ⊎_elim (λ (f : b.factored p ≡ true). customer_off D b p f) (λ (f : b.factored p ≡ false). customer_on D b p f ∙ e) (by_flag (b.factored p))

-- the 65 weights

pub weight_party : (D : ℕ) (b : Basis) (p : ℕ) → p < 64 → weight D b p ≡ causer D b p
unfolding weight
weight_party D b p l = let q = lt-ltb p 64 l in rw q

pub weight_last : (D : ℕ) (b : Basis) → weight D b 64 ≡ crmpf D b
unfolding weight
weight_last D b = refl

pub weights_all : (D : ℕ) (b : Basis) → sum_to 65 (weight D b) ≡ cmpf D b + crmpf D b
weights_all D b = omega (arith, sum_to_more 64 (weight D b), weight_last D b, sum_to_eq 64 (weight D b) (causer D b) (weight_party D b), cmpf_is D b)

-- a party's share by its kind, and as the sum of its two possible shares, of which one is 0

pub paid_causer : (D : ℕ) (b : Basis) (p : ℕ) → b.factored p ≡ true → share_paid D b p ≡ share b.part 65 (weight D b) p
paid_causer D b p f = paid_is D b p ∙ rw f

pub paid_customer : (D : ℕ) (b : Basis) (p : ℕ) → b.factored p ≡ false → share_paid D b p ≡ share (residual_part_of D b) 64 (customer D b) p
paid_customer D b p f = paid_is D b p ∙ rw f

pub paid_both : (D : ℕ) (b : Basis) (p : ℕ) → p < 64 → share_paid D b p ≡ share b.part 65 (weight D b) p + share (residual_part_of D b) 64 (customer D b) p
paid_both D b p l =
    ⊎_elim
    (λ (f : b.factored p ≡ true). omega (arith, paid_causer D b p f, share_nothing (residual_part_of D b) 64 (customer D b) p (customer_off D b p f)))
    (λ (f : b.factored p ≡ false). omega (arith, paid_customer D b p f, share_nothing b.part 65 (weight D b) p (weight_party D b p l ∙ causer_off D b p f)))
    (by_flag (b.factored p))

-- the customers bear the residual's share in full: without customers it is 0

crmpf_none : (D : ℕ) (b : Basis) → atce D b ≡ 0 → crmpf D b ≡ 0
crmpf_none D b e =
    let none : b.residual * atce D b ≡ 0 = omega (arith, ap (λ n. b.residual * n) e) in
    crmpf_is D b ∙ ap (λ n. n / atce everywhere b) none ∙ zero-div (atce everywhere b)

pub residual_none : (D : ℕ) (b : Basis) → atce D b ≡ 0 → residual_part_of D b ≡ 0
residual_none D b e = residual_is D b ∙ share_nothing b.part 65 (weight D b) 64 (weight_last D b ∙ crmpf_none D b e)

pub residual_whole : (D : ℕ) (b : Basis) → sum_to 64 (share (residual_part_of D b) 64 (customer D b)) ≡ residual_part_of D b
residual_whole D b =
    ⊎_elim
    (λ (l : 0 < atce D b). share_whole (residual_part_of D b) 64 (customer D b) (omega (arith, atce_is D b)))
    (λ (l : atce D b ≤ 0).
    let e : atce D b ≡ 0 = omega arith in
    sum_to_zero 64 (share (residual_part_of D b) 64 (customer D b)) (λ k m. share_none (residual_part_of D b) 64 (customer D b) k (sym (atce_is D b) ∙ e)) ∙ sym (residual_none D b e))
    (cases_lt 0 (atce D b))

-- the shares add up to the part
pub shares_whole : (D : ℕ) (b : Basis) → 0 < cmpf D b + crmpf D b → sum_to 64 (share_paid D b) ≡ b.part
shares_whole D b h =
    let first = share b.part 65 (weight D b) in
    let second = share (residual_part_of D b) 64 (customer D b) in
    omega (
      arith,
      sum_to_eq 64 (share_paid D b) (λ p. first p + second p) (paid_both D b),
      sum_to_add 64 first second,
      residual_whole D b,
      residual_is D b,
      sum_to_more 64 first,
      share_whole b.part 65 (weight D b) (omega (arith, weights_all D b)),
    )

pub share_nought : (D : ℕ) (b : Basis) (p : ℕ) → p < 64 → energy_in D b p ≡ 0 → share_paid D b p ≡ 0
share_nought D b p l e =
    omega (
      arith,
      paid_both D b p l,
      share_nothing b.part 65 (weight D b) p (weight_party D b p l ∙ causer_nought D b p e),
      share_nothing (residual_part_of D b) 64 (customer D b) p (customer_nought D b p e),
    )

-- the exact share

exact_none : (D : ℕ) (b : Basis) (p : ℕ) → energy_in D b p ≡ 0 → (exact_top D b p ≡ 0) × (exact_bottom D b p ≡ 1)
unfolding exact_top exact_bottom
exact_none D b p e = let q = le-ltb 0 (energy_in D b p) (omega arith) in (rw q, rw q)

exact_causer : (D : ℕ) (b : Basis) (p : ℕ) → 0 < energy_in D b p → b.factored p ≡ true → (exact_top D b p ≡ b.part * b.factor p) × (exact_bottom D b p ≡ cmpf D b + crmpf D b)
unfolding exact_top exact_bottom
exact_causer D b p e f = let q = lt-ltb 0 (energy_in D b p) e in (rw (q, f), rw (q, f))

exact_customer : (D : ℕ) (b : Basis) (p : ℕ) → 0 < energy_in D b p → b.factored p ≡ false → (exact_top D b p ≡ b.part * crmpf D b * energy_in D b p) × (exact_bottom D b p ≡ (cmpf D b + crmpf D b) * atce D b)
unfolding exact_top exact_bottom
exact_customer D b p e f = let q = lt-ltb 0 (energy_in D b p) e in (rw (q, f), rw (q, f))

-- a customer's energy is among all customers'
pub customer_le : (D : ℕ) (b : Basis) (p : ℕ) → p < 64 → b.factored p ≡ false → energy_in D b p ≤ atce D b
customer_le D b p l f = omega (arith, customer_on D b p f, atce_is D b, sum_to_one_le 64 (customer D b) p l)

product_above : (m n : ℕ) → 0 < m → 0 < n → 0 < m * n
product_above m n h k = let more : m * 1 ≤ m * n = mul-le-mul_left m k in omega arith

pub exact_divisor : (D : ℕ) (b : Basis) (p : ℕ) → p < 64 → 0 < cmpf D b + crmpf D b → 0 < exact_bottom D b p
exact_divisor D b p l h =
    ⊎_elim
    (λ (e : 0 < energy_in D b p).
    ⊎_elim
    (λ (f : b.factored p ≡ true). omega (arith, (exact_causer D b p e f).1))
    (λ (f : b.factored p ≡ false). omega (arith, (exact_customer D b p e f).1, product_above (cmpf D b + crmpf D b) (atce D b) h (omega (arith, customer_le D b p l f))))
    (by_flag (b.factored p)))
    (λ (e : energy_in D b p ≤ 0). omega (arith, (exact_none D b p (omega arith)).1))
    (cases_lt 0 (energy_in D b p))

-- one division is less than one away
near_once : (t w s all : ℕ) → t * w < s * all + all → s * all < t * w + all → WithinTwo s (t * w) all
near_once t w s all above below = record { above = omega arith; below = omega arith }

-- two divisions, one of the other's share, are at most two away
near_twice : (t c r e s all energy : ℕ) → t * c < r * all + all → r * all < t * c + all → r * e < s * energy + energy → s * energy < r * e + energy → e ≤ energy → WithinTwo s (t * c * e) (all * energy)
near_twice t c r e s all energy above below above' below' small =
    let times : all * e ≤ all * energy = mul-le-mul_left all small in
    let over : t * c * e ≤ (r * all + all) * e = mul-le-mul_right e (omega arith) in
    let under : r * all * e ≤ (t * c + all) * e = mul-le-mul_right e (omega arith) in
    let over' : r * e * all ≤ (s * energy + energy) * all = mul-le-mul_right all (omega arith) in
    let under' : s * energy * all ≤ (r * e + energy) * all = mul-le-mul_right all (omega arith) in
    record { above = omega arith; below = omega arith }

within_from : (s s' t t' u u' : ℕ) → s ≡ s' → t ≡ t' → u ≡ u' → WithinTwo s' t' u' → WithinTwo s t u
within_from s s' t t' u u' p q r w = rw (p, q, r) w

-- each share is at most two away from its exact share
pub share_near : (D : ℕ) (b : Basis) (p : ℕ) → p < 64 → 0 < cmpf D b + crmpf D b → WithinTwo (share_paid D b p) (exact_top D b p) (exact_bottom D b p)
share_near D b p l h =
    let all = weights_all D b in
    let some : 0 < sum_to 65 (weight D b) = omega arith in
    ⊎_elim
    (λ (e : 0 < energy_in D b p).
    ⊎_elim
    (λ (f : b.factored p ≡ true).
    let w : weight D b p ≡ b.factor p = weight_party D b p l ∙ causer_on D b p f e in
    let x = exact_causer D b p e f in
    within_from _ _ _ _ _ _ (paid_causer D b p f) (x.0 ∙ ap (λ n. b.part * n) (sym w)) (x.1 ∙ sym all)
    (near_once b.part (weight D b p) (share b.part 65 (weight D b) p) (sum_to 65 (weight D b)) (share_above b.part 65 (weight D b) p some) (share_below b.part 65 (weight D b) p some)))
    (λ (f : b.factored p ≡ false).
    let x = exact_customer D b p e f in
    let c = customer_on D b p f in
    let r = residual_is D b in
    let energy = atce_is D b in
    let there : 0 < sum_to 64 (customer D b) = omega (arith, customer_le D b p l f) in
    let last = weight_last D b in
    within_from _ _ _ _ _ _ (paid_customer D b p f) x.0 x.1
    (near_twice b.part (crmpf D b) (residual_part_of D b) (energy_in D b p) (share (residual_part_of D b) 64 (customer D b) p) (cmpf D b + crmpf D b) (atce D b)
    (rw (← all, ← last, r) (share_above b.part 65 (weight D b) 64 some))
    (rw (← all, ← last, r) (share_below b.part 65 (weight D b) 64 some))
    (rw (← c, energy) (share_above (residual_part_of D b) 64 (customer D b) p there))
    (rw (← c, energy) (share_below (residual_part_of D b) 64 (customer D b) p there))
    (customer_le D b p l f)))
    (by_flag (b.factored p)))
    (λ (e : energy_in D b p ≤ 0).
    let none : energy_in D b p ≡ 0 = omega arith in
    let x = exact_none D b p none in
    within_from _ _ _ _ _ _ (share_nought D b p l none) x.0 x.1 (record { above = omega arith; below = omega arith }))
    (cases_lt 0 (energy_in D b p))

-- the same figures of parties 0 to 63 and regions 0 to 4 give the same of all that follows

pub held_eq : (D : ℕ) (f g : ℕ → ℕ → ℕ) (p : ℕ) → ((r : ℕ) → r < 5 → f p r ≡ g p r) → held_in D f p ≡ held_in D g p
held_eq D f g p h = held_is D f p ∙ sum_to_eq 5 (λ r. within D f p r) (λ r. within D g p r) (λ r l. ap (λ n. cond (member D r) n 0) (h r l)) ∙ sym (held_is D g p)

pub energy_eq : (D : ℕ) (b c : Basis) → Alike b c → (p : ℕ) → p < 64 → energy_in D b p ≡ energy_in D c p
energy_eq D b c a p l = held_eq D b.energy c.energy p (λ r m. a.energy p r l m)

causer_eq : (D : ℕ) (b c : Basis) → Alike b c → (p : ℕ) → p < 64 → causer D b p ≡ causer D c p
causer_eq D b c a p l =
    let e = energy_eq D b c a p l in
    let f = a.factored p l in
    let w = a.factor p l in
    causer_is D b p ∙ rw (e, f, w) (sym (causer_is D c p))

pub customer_eq : (D : ℕ) (b c : Basis) → Alike b c → (p : ℕ) → p < 64 → customer D b p ≡ customer D c p
customer_eq D b c a p l =
    let e = energy_eq D b c a p l in
    let f = a.factored p l in
    customer_is D b p ∙ rw (e, f) (sym (customer_is D c p))

pub atce_alike : (D : ℕ) (b c : Basis) → Alike b c → atce D b ≡ atce D c
atce_alike D b c a = atce_is D b ∙ sum_to_eq 64 (customer D b) (customer D c) (customer_eq D b c a) ∙ sym (atce_is D c)

pub cmpf_alike : (D : ℕ) (b c : Basis) → Alike b c → cmpf D b ≡ cmpf D c
cmpf_alike D b c a = cmpf_is D b ∙ sum_to_eq 64 (causer D b) (causer D c) (causer_eq D b c a) ∙ sym (cmpf_is D c)

pub crmpf_alike : (D : ℕ) (b c : Basis) → Alike b c → crmpf D b ≡ crmpf D c
crmpf_alike D b c a =
    crmpf_is D b
    ∙ ap (λ n. n * atce D b / atce everywhere b) a.residual
    ∙ ap (λ n. c.residual * n / atce everywhere b) (atce_alike D b c a)
    ∙ ap (λ n. c.residual * atce D c / n) (atce_alike everywhere b c a)
    ∙ sym (crmpf_is D c)

pub weight_eq : (D : ℕ) (b c : Basis) → Alike b c → (k : ℕ) → k < 65 → weight D b k ≡ weight D c k
weight_eq D b c a k l =
    ⊎_elim
    (λ (m : k < 64). weight_party D b k m ∙ causer_eq D b c a k m ∙ sym (weight_party D c k m))
    (λ (m : 64 ≤ k).
    let last : k ≡ 64 = omega arith in
    ap (weight D b) last ∙ weight_last D b ∙ crmpf_alike D b c a ∙ sym (weight_last D c) ∙ sym (ap (weight D c) last))
    (cases_lt k 64)

first_eq : (D : ℕ) (b c : Basis) → Alike b c → (k : ℕ) → k < 65 → share b.part 65 (weight D b) k ≡ share c.part 65 (weight D c) k
first_eq D b c a k l = share_eq b.part 65 (weight D b) (weight D c) (weight_eq D b c a) k l ∙ ap (λ n. share n 65 (weight D c) k) a.part

pub residual_alike : (D : ℕ) (b c : Basis) → Alike b c → residual_part_of D b ≡ residual_part_of D c
residual_alike D b c a = residual_is D b ∙ first_eq D b c a 64 (omega arith) ∙ sym (residual_is D c)

pub share_alike : (D : ℕ) (b c : Basis) → Alike b c → (p : ℕ) → p < 64 → share_paid D b p ≡ share_paid D c p
share_alike D b c a p l =
    let f = a.factored p l in
    let first = first_eq D b c a p (omega arith) in
    let second = share_eq (residual_part_of D b) 64 (customer D b) (customer D c) (customer_eq D b c a) p l ∙ ap (λ n. share n 64 (customer D c) p) (residual_alike D b c a) in
    paid_is D b p ∙ rw (f, first, second) (sym (paid_is D c p))

pub shared : (D : ℕ) (b : Basis) (s : ℕ → ℕ) → 0 < cmpf D b + crmpf D b → ((p : ℕ) → p < 64 → s p ≡ share_paid D b p) → Shared D b s
shared D b s h same =
    record {
      shares = same;
      whole = sum_to_eq 64 s (share_paid D b) same ∙ shares_whole D b h;
      weighed = h;
      divisor = λ p l. exact_divisor D b p l h;
      near = λ p l. rw (same p l) (share_near D b p l h);
      nought = λ p l e. same p l ∙ share_nought D b p l e;
      alike = λ c a p l. sym (share_alike D b c a p l) ∙ sym (same p l);
      left_out_causer = λ j l z i m. share_without b.part 65 j (weight D b) (omega arith) z i;
      left_out_customer = λ j l z i m. share_without (residual_part_of D b) 64 j (customer D b) l z i;
    }
