-- Laws of the bytes of records.
use Rattle.std.proofs.Common.{◌≡◌, ℕ, zero, suc, ◌+◌, ◌*◌, ◌/◌, ◌%◌, ◌^◌, ◌<◌, ◌≤◌, List, ◌++◌, length, get_or, set, replicate, ℤ, pos, [], ◌∷◌, sym, refl, ap, ◌∙◌, add-one, arith, w16, SFits, to_z, of_z}
use Rattle.std.proofs.lemmas.List.{get_or-append-add, get_or_append_left, get_or_past, get_or-set_same, get_or-set_other, length-set}
use Rattle.std.proofs.lemmas.Int.{to_z-of_z}
use borrow.Rule.Slice.PartMut.{put_mid}
use Rattle.foundation.specs.Bytes.{number_at}
use Rattle.sampling.specs.Records.{Fields}
use Rattle.figures.specs.Samples.{Shows}

-- a number put at a place, high byte first
pub number_put : (b : List ℕ) (at n : ℕ) → at + 1 < length b → n < 2 ^ 16 → number_at (set (set b at (n / 256 % 256)) (at + 1) (n % 256)) at ≡ n
unfolding number_at
number_put b at n h f =
    let high = get_or-set_other (set b at (n / 256 % 256)) (at + 1) at (n % 256) 0 (λ e. omega arith) ∙ get_or-set_same b at (n / 256 % 256) 0 (omega arith) in
    let low = get_or-set_same (set b at (n / 256 % 256)) (at + 1) (n % 256) 0 (simp length-set h) in
    rw (high, low) (omega arith)

-- the other bytes stay
pub rest_put : (b : List ℕ) (at x y k : ℕ) → (k ≡ at → ⊥) → (k ≡ at + 1 → ⊥) → get_or (set (set b at x) (at + 1) y) k 0 ≡ get_or b k 0
rest_put b at x y k p q = get_or-set_other (set b at x) (at + 1) k y 0 q ∙ get_or-set_other b at k x 0 p

-- two bytes written over a part
pub part_put : (b : List ℕ) (at k x y : ℕ) (ys : List ℕ) → at + 1 < length b → k ≡ 2 → ys ≡ x ∷ y ∷ [] → put_mid at k b ys ≡ set (set b at x) (at + 1) y
part_put b at k x y ys l e h = rw (e, h) (put b at l ∙ ap (λ n. set (set b at x) n y) (sym (add-one at)))
  where
    put : (b : List ℕ) (at : ℕ) → at + 1 < length b → put_mid at 2 b (x ∷ y ∷ []) ≡ set (set b at x) (suc at) y
    put [] at l = absurd (omega arith)
    put (a ∷ []) at l = absurd (omega arith)
    put (a ∷ c ∷ bs) zero l = refl
    put (a ∷ c ∷ bs) (suc at) l = ap {B = List ℕ} (λ (r : List ℕ). a ∷ r) (put (c ∷ bs) at (omega arith))

-- a number is told by its two bytes
pub number_same : (b d : List ℕ) (i j : ℕ) → get_or b i 0 ≡ get_or d j 0 → get_or b (i + 1) 0 ≡ get_or d (j + 1) 0 → number_at b i ≡ number_at d j
unfolding number_at
number_same b d i j p q = rw (p, q)

number_zero : (b : List ℕ) (i : ℕ) → get_or b i 0 ≡ 0 → get_or b (i + 1) 0 ≡ 0 → number_at b i ≡ 0
unfolding number_at
number_zero b i p q = rw (p, q)

-- bytes that are all 0
pub zeros : (n i : ℕ) → ◌≡◌ {A = ℕ} (get_or (replicate n 0) i 0) 0
zeros zero i = refl
zeros (suc n) zero = refl
zeros (suc n) (suc i) = zeros n i

-- two values, and 0 in the bytes after them
pub values_shown : (b : List ℕ) (vs : List ℤ) → length vs ≡ 2 → SFits w16 (get_or vs 0 (pos 0)) → SFits w16 (get_or vs 1 (pos 0)) → number_at b 6 ≡ of_z w16 (get_or vs 0 (pos 0)) → number_at b 8 ≡ of_z w16 (get_or vs 1 (pos 0)) → ((i : ℕ) → 10 ≤ i → get_or b i 0 ≡ 0) → (k : ℕ) → to_z w16 (number_at b (6 + 2 * k)) ≡ get_or vs k (pos 0)
values_shown b vs n f g p q z zero = ap (to_z w16) p ∙ to_z-of_z w16 _ f
values_shown b vs n f g p q z (suc zero) = ap (to_z w16) q ∙ to_z-of_z w16 _ g
values_shown b vs n f g p q z (suc (suc k)) =
    ap (to_z w16) (number_zero b (6 + 2 * suc (suc k)) (z _ (omega arith)) (z _ (omega arith))) ∙ sym (get_or_past vs (suc (suc k)) (pos 0) (omega arith))

-- a record is told by its 156 bytes
shows_from : (b d : List ℕ) (r q : ℕ) (f : Fields) → ((o i j : ℕ) → o < 156 → i ≡ 156 * r + o → j ≡ 156 * q + o → get_or b i 0 ≡ get_or d j 0) → Shows d q f → Shows b r f
shows_from b d r q f h s = record {
  interval = number_same b d _ _ (h 0 _ _ (omega arith) (omega arith) (omega arith)) (h 1 _ _ (omega arith) (omega arith) (omega arith)) ∙ s.interval;
  unit = number_same b d _ _ (h 2 _ _ (omega arith) (omega arith) (omega arith)) (h 3 _ _ (omega arith) (omega arith) (omega arith)) ∙ s.unit;
  enablement = h 4 _ _ (omega arith) (omega arith) (omega arith) ∙ s.enablement;
  last = h 5 _ _ (omega arith) (omega arith) (omega arith) ∙ s.last;
  value = λ k l. ap (to_z w16) (number_same b d _ _ (h (6 + 2 * k) _ _ (omega arith) (omega arith) (omega arith)) (h (7 + 2 * k) _ _ (omega arith) (omega arith) (omega arith))) ∙ s.value k l;
}

-- bytes added at the end leave the records before
pub shows_kept : (a b d : List ℕ) (r : ℕ) (f : Fields) → a ≡ b ++ d → 156 * suc r ≤ length b → Shows b r f → Shows a r f
shows_kept a b d r f e h s =
    shows_from a b r r f
    (λ o i j l p q. let same : i ≡ j = omega arith in ap (λ n. get_or a n 0) same ∙ ap (λ x. get_or x j 0) e ∙ get_or_append_left b d 0 j (omega arith))
    s

-- a record added at the end
pub shows_added : (a b d : List ℕ) (r : ℕ) (f : Fields) → a ≡ b ++ d → length b ≡ 156 * r → Shows d 0 f → Shows a r f
shows_added a b d r f e h s =
    shows_from a d r 0 f
    (λ o i j l p q. let past : i ≡ length b + j = omega arith in ap (λ n. get_or a n 0) past ∙ ap (λ x. get_or x (length b + j) 0) e ∙ get_or-append-add b d j 0)
    s
