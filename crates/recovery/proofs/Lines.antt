-- How many lines some shares take.
use Rattle.std.proofs.Common.{◌≡◌, ℕ, suc, ◌+◌, ◌<◌, ◌≤◌, cond, eqb, ltb, List, length, ap, ◌∙◌, add-one, arith}
use Rattle.std.specs.List.{count_by}
use Rattle.std.proofs.lemmas.Bool.Decides.{nat_tests}
use Rattle.foundation.specs.Sums.{listed}
use Rattle.foundation.proofs.Lists.{sum_by_places}
use Rattle.foundation.proofs.Sums.{sum_to_none, sum_to_more, sum_to_mono, sum_to_eq, sum_to_bound}
use Rattle.recovery.specs.Shares.{lines_for}

pub lines_none : (s : ℕ → ℕ) → lines_for s 0 ≡ 0
unfolding lines_for
lines_none s = sum_to_none _

lines_suc : (s : ℕ → ℕ) (n : ℕ) → lines_for s (suc n) ≡ lines_for s n + cond (eqb (s n) 0) 0 1
unfolding lines_for
lines_suc s n = sum_to_more n _

lines_more : (s : ℕ → ℕ) (n : ℕ) → lines_for s (n + 1) ≡ lines_for s n + cond (eqb (s n) 0) 0 1
lines_more s n = ap (lines_for s) (add-one n) ∙ lines_suc s n

one : (n : ℕ) → 0 < n → ◌≡◌ {A = ℕ} (cond (eqb n 0) 0 1) 1
one n h = grind (arith, nat_tests)

none : (n : ℕ) → n ≡ 0 → ◌≡◌ {A = ℕ} (cond (eqb n 0) 0 1) 0
none n h = grind (arith, nat_tests)

-- a share that is not 0 takes one line more, and one that is takes none
pub lines_at : (s : ℕ → ℕ) (n : ℕ) → 0 < s n → lines_for s (n + 1) ≡ lines_for s n + 1
lines_at s n h = omega (arith, lines_more s n, one (s n) h)

pub lines_past : (s : ℕ → ℕ) (n : ℕ) → s n ≡ 0 → lines_for s (n + 1) ≡ lines_for s n
lines_past s n h = omega (arith, lines_more s n, none (s n) h)

pub lines_mono : (s : ℕ → ℕ) (m n : ℕ) → m ≤ n → lines_for s m ≤ lines_for s n
unfolding lines_for
lines_mono s m n h = sum_to_mono m n _ h

pub lines_eq : (s t : ℕ → ℕ) (n : ℕ) → ((p : ℕ) → p < n → s p ≡ t p) → lines_for s n ≡ lines_for t n
unfolding lines_for
lines_eq s t n h = sum_to_eq n _ _ (λ p l. ap (λ v. cond (eqb v 0) 0 1) (h p l))

pub lines_few : (s : ℕ → ℕ) (n : ℕ) → lines_for s n ≤ n
unfolding lines_for
lines_few s n = omega (arith, sum_to_bound n 1 _ (λ p l. mark_le (s p)))
  where
    mark_le : (v : ℕ) → cond (eqb v 0) 0 1 ≤ 1
    mark_le v = grind (arith, nat_tests)

-- the shares of a list that are above 0
pub lines_counted : (xs : List ℕ) → count_by (λ s. ltb 0 s) xs ≡ lines_for (listed xs) (length xs)
unfolding lines_for
lines_counted xs = sum_by_places (λ s. cond (ltb 0 s) 1 0) xs 0 ∙ sum_to_eq (length xs) _ _ (λ k l. mark (listed xs k))
  where
    mark : (v : ℕ) → ◌≡◌ {A = ℕ} (cond (ltb 0 v) 1 0) (cond (eqb v 0) 0 1)
    mark v = grind (arith, nat_tests)
