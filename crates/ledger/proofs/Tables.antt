-- The places of a table.
use Rattle.std.proofs.Common.{◌≡◌, ℕ, suc, ◌+◌, ◌-◌, ◌*◌, ◌<◌, ◌≤◌, Bool, true, false, cond, ◌&&◌, eqb, List, length, get_or, set, replicate, ℤ, pos, ◌+ℤ◌, nat_abs, sym, refl, ap, ◌∙◌, ⊎_elim, None, arith, w64, SFits, to_z, of_z}
use Rattle.std.proofs.lemmas.List.{get_or-set_same, get_or-set_other, get_or-replicate, get_or_past, length-replicate}
use Rattle.std.proofs.lemmas.Bool.{and_from, and_parts, cases_Bool, cases_lt, cond-true, cond-false, eq-eqb, eqb-true, true≢false}
use Rattle.foundation.proofs.Signed.{sum_fits, sum_is}
use lib.Signed.{le_z}
use Rattle.std.proofs.lemmas.Int.{to_z-of_z}
use Rattle.ledger.specs.Amounts.{is_amount, magnitudes, posted, post_fault}
use Rattle.ledger.specs.Table.{amounts_of, place_of}
use Rattle.ledger.proofs.Postings.{Sound, sound, debt_more, sizes_more, amount_le, party_in, serial_least, serial_most, none_more}

pub place_in : (p s : ℕ) → is_amount p s ≡ true → place_of p s < 2048
place_in p s h = omega (arith, party_in p s h, serial_least p s h, serial_most p s h)

-- a table of zeros
zero_place : (n k : ℕ) → get_or (replicate n (pos 0)) k (pos 0) ≡ pos 0
zero_place n k =
    ⊎_elim
    (λ (l : k < n). get_or-replicate n k (pos 0) (pos 0) l)
    (λ (l : n ≤ k). get_or_past (replicate n (pos 0)) k (pos 0) (omega (arith, length-replicate {A = ℤ} n (pos 0))))
    (cases_lt k n)

nothing : (b : Bool) → cond b (pos 0) (pos 0) ≡ pos 0
nothing true = refl
nothing false = refl

pub zero_amounts : (n p s : ℕ) → amounts_of (replicate n (pos 0)) p s ≡ pos 0
zero_amounts n p s = ap (λ z. cond (is_amount p s) z (pos 0)) (zero_place n (place_of p s)) ∙ nothing (is_amount p s)

-- two different amounts have different places
apart : (p s q t : ℕ) → is_amount p s ≡ true → is_amount q t ≡ true → place_of q t ≡ place_of p s → (q ≡ p) × (t ≡ s)
apart p s q t h k e = (
  omega (arith, party_in p s h, serial_least p s h, serial_most p s h, party_in q t k, serial_least q t k, serial_most q t k, e),
  omega (arith, party_in p s h, serial_least p s h, serial_most p s h, party_in q t k, serial_least q t k, serial_most q t k, e),
)

-- a line is added at one place
here : (xs : List ℤ) (p s : ℕ) (line : ℤ) → place_of p s < length xs → is_amount p s ≡ true → amounts_of (set xs (place_of p s) (get_or xs (place_of p s) (pos 0) +ℤ line)) p s ≡ amounts_of xs p s +ℤ line
here xs p s line l h =
    cond-true (is_amount p s) _ _ h
    ∙ get_or-set_same xs (place_of p s) (get_or xs (place_of p s) (pos 0) +ℤ line) (pos 0) l
    ∙ sym (ap (λ z. z +ℤ line) (cond-true (is_amount p s) (get_or xs (place_of p s) (pos 0)) (pos 0) h))

there : (xs : List ℤ) (p s : ℕ) (new : ℤ) (q t : ℕ) → is_amount p s ≡ true → ((q ≡ p) × (t ≡ s) → ⊥) → amounts_of (set xs (place_of p s) new) q t ≡ amounts_of xs q t
there xs p s new q t h other =
    ⊎_elim
    (λ (k : is_amount q t ≡ true).
    cond-true (is_amount q t) _ _ k
    ∙ get_or-set_other xs (place_of p s) (place_of q t) new (pos 0) (λ e. other (apart p s q t h k e))
    ∙ sym (cond-true (is_amount q t) _ _ k))
    (λ (k : is_amount q t ≡ false). cond-false (is_amount q t) _ _ k ∙ sym (cond-false (is_amount q t) _ _ k))
    (cases_Bool (is_amount q t))

pub amount_put : (xs : List ℤ) (p s : ℕ) (line : ℤ) → place_of p s < length xs → is_amount p s ≡ true → (q t : ℕ) → amounts_of (set xs (place_of p s) (get_or xs (place_of p s) (pos 0) +ℤ line)) q t ≡ posted p s line (amounts_of xs) q t
amount_put xs p s line l h q t =
    ⊎_elim
    (λ (k : (eqb q p && eqb t s) ≡ true).
    let e = eqb-true q p (and_parts (eqb q p) (eqb t s) k).0 in
    let d = eqb-true t s (and_parts (eqb q p) (eqb t s) k).1 in
    ap (λ n. amounts_of new n t) e
    ∙ ap (λ n. amounts_of new p n) d
    ∙ here xs p s line l h
    ∙ sym (ap (λ n. amounts_of xs n t +ℤ line) e ∙ ap (λ n. amounts_of xs p n +ℤ line) d)
    ∙ sym (ap (λ b. amounts_of xs q t +ℤ cond b line (pos 0)) k))
    (λ (k : (eqb q p && eqb t s) ≡ false).
    there xs p s (get_or xs (place_of p s) (pos 0) +ℤ line) q t h (λ e. true≢false (sym (and_from (eqb q p) (eqb t s) (eq-eqb q p e.0) (eq-eqb t s e.1)) ∙ k))
    ∙ sym (none_more (amounts_of xs q t))
    ∙ sym (ap (λ b. amounts_of xs q t +ℤ cond b line (pos 0)) k))
    (cases_Bool (eqb q p && eqb t s))
  where
    new : List ℤ
    new = set xs (place_of p s) (get_or xs (place_of p s) (pos 0) +ℤ line)

-- an amount that is stored is one of all
pub size_at : (xs : List ℤ) (p s : ℕ) → is_amount p s ≡ true → nat_abs (get_or xs (place_of p s) (pos 0)) ≤ magnitudes (amounts_of xs)
size_at xs p s h =
    let next : suc (s - 1) ≡ s = omega (arith, serial_least p s h) in
    let le : nat_abs (amounts_of xs p (suc (s - 1))) ≤ magnitudes (amounts_of xs) = amount_le (amounts_of xs) p (s - 1) (party_in p s h) (omega (arith, serial_least p s h, serial_most p s h)) in
    let same : nat_abs (get_or xs (place_of p s) (pos 0)) ≡ nat_abs (amounts_of xs p s) = sym (ap nat_abs (cond-true (is_amount p s) (get_or xs (place_of p s) (pos 0)) (pos 0) h)) in
    let moved : nat_abs (amounts_of xs p (suc (s - 1))) ≡ nat_abs (amounts_of xs p s) = ap (λ n. nat_abs (amounts_of xs p n)) next in
    omega (arith, le, same, moved)

-- the sum as the code makes it
abbrev pub stored : ℤ → ℤ → ℤ
stored a line = to_z w64 (of_z w64 (to_z w64 (of_z w64 a) +ℤ to_z w64 (of_z w64 line)))

pub put_fits : (xs : List ℤ) (p s place : ℕ) (line : ℤ) (left : ℕ) → place ≡ place_of p s → magnitudes (amounts_of xs) ≤ 200000000000000000 → Sound p s line left → SFits w64 (to_z w64 (of_z w64 (get_or xs place (pos 0))) +ℤ to_z w64 (of_z w64 line))
put_fits xs p s place line left e all x =
    let small : nat_abs (get_or xs place (pos 0)) ≤ magnitudes (amounts_of xs) = rw e (size_at xs p s x.amount) in
    sum_fits (get_or xs place (pos 0)) line (omega (arith, small)) (omega (arith, x.size))

pub put_is : (xs : List ℤ) (p s place : ℕ) (line : ℤ) (left : ℕ) → place ≡ place_of p s → place < length xs → magnitudes (amounts_of xs) ≤ 200000000000000000 → Sound p s line left → (q t : ℕ) → amounts_of (set xs place (stored (get_or xs place (pos 0)) line)) q t ≡ posted p s line (amounts_of xs) q t
put_is xs p s place line left e l all x q t =
    let small : nat_abs (get_or xs place (pos 0)) ≤ magnitudes (amounts_of xs) = rw e (size_at xs p s x.amount) in
    let sum : stored (get_or xs place (pos 0)) line ≡ get_or xs place (pos 0) +ℤ line = sum_is (get_or xs place (pos 0)) line (omega (arith, small)) (omega (arith, x.size)) in
    ap (λ z. amounts_of (set xs place z) q t) sum
    ∙ ap (λ n. amounts_of (set xs n (get_or xs n (pos 0) +ℤ line)) q t) e
    ∙ amount_put xs p s line (rw (sym e) l) x.amount q t

-- a table's amounts after a post that was taken
pub record Added (xs ys : List ℤ) (n p s : ℕ) (line : ℤ) : Type 0 where
  pub room : n + 1 ≤ 1000000
  pub amounts : (q t : ℕ) → amounts_of ys q t ≡ posted p s line (amounts_of xs) q t
  pub debts : (q t : ℕ) → le_z (amounts_of ys q t) (pos 0) ≡ true
  pub sizes : magnitudes (amounts_of ys) ≤ (n + 1) * 200000000000

-- from what the calls of the post say: the line is as the code keeps it
pub posted_sound : (p s : ℕ) (line : ℤ) (left : ℕ) → SFits w64 line → None ≡ post_fault p s (to_z w64 (of_z w64 line)) left → Sound p s line left
posted_sound p s line left f none = sound p s line left (sym (none ∙ ap (λ z. post_fault p s z left) (to_z-of_z w64 line f)))

pub added : (xs : List ℤ) (n p s place : ℕ) (line : ℤ) (left : ℕ) → Sound p s line left → left ≡ 1000000 - n → place ≡ place_of p s → place < length xs → ((q t : ℕ) → le_z (amounts_of xs q t) (pos 0) ≡ true) → magnitudes (amounts_of xs) ≤ n * 200000000000 → n ≤ 1000000 → Added xs (set xs place (stored (get_or xs place (pos 0)) line)) n p s line
added xs n p s place line left x room e l debts sizes few =
    let new = put_is xs p s place line left e l (omega arith) x in
    record {
      room = omega (arith, x.some);
      amounts = new;
      debts = λ q t. rw (new q t) (debt_more _ (amounts_of xs q t) line (debts q t) x.debt);
      sizes = sizes_more p s line left n (amounts_of xs) _ x new sizes;
    }
