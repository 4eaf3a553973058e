-- Shares taken from the amounts of a ledger, one party at a time.
use Rattle.std.proofs.Common.{◌≡◌, ℕ, zero, suc, ◌+◌, ◌<◌, ◌≤◌, Bool, true, false, cond, ◌&&◌, eqb, ltb, leb, ◌≢◌, ℤ, pos, ◌+ℤ◌, neg_ℤ, None, sym, refl, ap, ◌∙◌, ⊎_elim, arith, w64, to_z, of_z, eq-eqb, ne_eqb}
use lib.Signed.{le_z}
use Rattle.std.proofs.lemmas.Int.{ints, to_z-of_z}
use Rattle.std.proofs.lemmas.Bool.{cases_eq, cases_lt, le-leb, lt-ltb, le-ltb}
use Rattle.foundation.specs.Fault.{unless_in}
use Rattle.foundation.specs.First.{or_else}
use Rattle.foundation.proofs.Signed.{fits, nat_abs_neg}
use Rattle.ledger.specs.Amounts.{is_amount, is_debit, post_fault, posted}
use Rattle.recovery.specs.Recovery.{lowered}

negative : (n : ℕ) → le_z (neg_ℤ (pos n)) (pos 0) ≡ true
negative zero = refl
negative (suc n) = refl

amount_is : (p s : ℕ) → p < 64 → 1 ≤ s → s ≤ 32 → is_amount p s ≡ true
amount_is p s h k l = let x = lt-ltb p 64 h in let y = le-leb 1 s k in let z = le-leb s 32 l in rw (x, y, z)

debit_is : (n : ℕ) → n ≤ 200000000000 → is_debit (neg_ℤ (pos n)) ≡ true
debit_is n h = let x = negative n in let y = nat_abs_neg n in let z = le-leb n 200000000000 h in rw (x, y, z)

-- a line as a call hands it on
pub line_is : (n : ℕ) (line : ℤ) → n ≤ 200000000000 → line ≡ neg_ℤ (pos n) → to_z w64 (of_z w64 line) ≡ neg_ℤ (pos n)
line_is n line h e = ap (λ z. to_z w64 (of_z w64 z)) e ∙ to_z-of_z w64 (neg_ℤ (pos n)) (fits (neg_ℤ (pos n)) (omega (arith, nat_abs_neg n)))

-- a share that can be posted is, where a line is left
pub post_passes : (p s n left : ℕ) (line : ℤ) → p < 64 → 1 ≤ s → s ≤ 32 → n ≤ 200000000000 → 1 ≤ left → line ≡ neg_ℤ (pos n) → post_fault p s line left ≡ None
post_passes p s n left line h k l m r e =
    ap (λ z. post_fault p s z left) e
    ∙ ap (λ t. or_else (unless_in 4 (t && is_debit (neg_ℤ (pos n))) 2 0) (unless_in 4 (leb 1 left) 18 0)) (amount_is p s h k l)
    ∙ ap (λ t. or_else (unless_in 4 t 2 0) (unless_in 4 (leb 1 left) 18 0)) (debit_is n m)
    ∙ ap (λ t. unless_in 4 t 18 0) (le-leb 1 left r)

add_none : (z : ℤ) → z +ℤ pos 0 ≡ z
add_none z = omega (arith, ints)

neither : (x : Bool) (z v : ℤ) → z +ℤ cond (x && false) v (pos 0) ≡ z
neither true z v = add_none z
neither false z v = add_none z

pub lowered_none : (s : ℕ → ℕ) (serial : ℕ) (f : ℕ → ℕ → ℤ) (q t : ℕ) → f q t ≡ lowered s 0 serial f q t
lowered_none s serial f q t = let none = le-ltb q 0 (omega arith) in sym (rw none (neither (eqb t serial) (f q t) (neg_ℤ (pos (s q)))))

-- before, at and after the party that is posted
before : (x : Bool) (z v w : ℤ) → (z +ℤ cond (x && true) v (pos 0)) +ℤ cond (false && x) w (pos 0) ≡ z +ℤ cond (x && true) v (pos 0)
before x z v w = add_none _

here : (x : Bool) (z v w : ℤ) → w ≡ v → (z +ℤ cond (x && false) v (pos 0)) +ℤ cond (true && x) w (pos 0) ≡ z +ℤ cond (x && true) v (pos 0)
here true z v w e = omega (arith, ints, e)
here false z v w e = omega (arith, ints)

after : (x : Bool) (z v w : ℤ) → (z +ℤ cond (x && false) v (pos 0)) +ℤ cond (false && x) w (pos 0) ≡ z +ℤ cond (x && false) v (pos 0)
after x z v w = add_none _

pub lowered_at : (s : ℕ → ℕ) (k serial : ℕ) (line : ℤ) (f : ℕ → ℕ → ℤ) (q t : ℕ) → line ≡ neg_ℤ (pos (s k)) → posted k serial line (lowered s k serial f) q t ≡ lowered s (k + 1) serial f q t
lowered_at s k serial line f q t e =
    ⊎_elim
    (λ (l : q < k).
    let ne : q ≢ k = omega arith in
    let a = lt-ltb q k l in
    let b = ne_eqb q k ne in
    let c = lt-ltb q (k + 1) (omega arith) in
    rw (a, b, c) (before (eqb t serial) (f q t) (neg_ℤ (pos (s q))) line))
    (λ (l : k ≤ q).
    ⊎_elim
    (λ (same : q ≡ k).
    let a = le-ltb q k l in
    let b = eq-eqb q k same in
    let c = lt-ltb q (k + 1) (omega arith) in
    rw (a, b, c) (here (eqb t serial) (f q t) (neg_ℤ (pos (s q))) line (e ∙ ap (λ i. neg_ℤ (pos (s i))) (sym same))))
    (λ (ne : q ≢ k).
    let a = le-ltb q k l in
    let b = ne_eqb q k ne in
    let c = le-ltb q (k + 1) (omega arith) in
    rw (a, b, c) (after (eqb t serial) (f q t) (neg_ℤ (pos (s q))) line))
    (cases_eq q k))
    (cases_lt q k)

-- a share of 0 needs no line
nothing : (x : Bool) (z v : ℤ) → v ≡ pos 0 → z +ℤ cond (x && false) v (pos 0) ≡ z +ℤ cond (x && true) v (pos 0)
nothing true z v e = omega (arith, ints, e)
nothing false z v e = refl

pub lowered_past : (s : ℕ → ℕ) (k serial : ℕ) (f : ℕ → ℕ → ℤ) (q t : ℕ) → s k ≡ 0 → lowered s k serial f q t ≡ lowered s (k + 1) serial f q t
lowered_past s k serial f q t e =
    ⊎_elim
    (λ (l : q < k).
    let a = lt-ltb q k l in
    let c = lt-ltb q (k + 1) (omega arith) in
    rw (a, c))
    (λ (l : k ≤ q).
    ⊎_elim
    (λ (same : q ≡ k).
    let a = le-ltb q k l in
    let c = lt-ltb q (k + 1) (omega arith) in
    rw (a, c) (nothing (eqb t serial) (f q t) (neg_ℤ (pos (s q))) (ap (λ n. neg_ℤ (pos n)) (ap s same ∙ e))))
    (λ (ne : q ≢ k).
    let a = le-ltb q k l in
    let c = le-ltb q (k + 1) (omega arith) in
    rw (a, c))
    (cases_eq q k))
    (cases_lt q k)

-- equal shares are taken alike
pub lowered_eq : (s u : ℕ → ℕ) (serial : ℕ) (f : ℕ → ℕ → ℤ) (q t : ℕ) → ((p : ℕ) → p < 64 → s p ≡ u p) → lowered s 64 serial f q t ≡ lowered u 64 serial f q t
lowered_eq s u serial f q t h =
    ⊎_elim
    (λ (l : q < 64). ap (λ n. f q t +ℤ cond (eqb t serial && ltb q 64) (neg_ℤ (pos n)) (pos 0)) (h q l))
    (λ (l : 64 ≤ q).
    let c = le-ltb q 64 l in
    rw c (neither (eqb t serial) (f q t) (neg_ℤ (pos (s q))) ∙ sym (neither (eqb t serial) (f q t) (neg_ℤ (pos (u q))))))
    (cases_lt q 64)
