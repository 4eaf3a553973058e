-- Factors add up to a million, or are all 0.
use Rattle.std.proofs.Common.{◌≡◌, ℕ, ◌^◌, ◌<◌, ◌≤◌, true, false, cond, ◌||◌, eqb, ltb, ◌⊎◌, List, length, Some, None, sym, ap, ◌∙◌, ⊎_elim, arith, lit<}
use Rattle.std.proofs.lemmas.Bool.{cases_lt}
use Rattle.std.proofs.lemmas.Bool.Decides.{nat_tests}
use Rattle.foundation.specs.Division.{Divided, share}
use Rattle.foundation.specs.Sums.{listed, sum_to}
use Rattle.foundation.specs.First.{all_to}
use Rattle.foundation.proofs.First.{all_to_eq}
use Rattle.foundation.proofs.Shares.{share_eq, share_none}
use Rattle.foundation.proofs.Sums.{sum_to_bound, sum_to_one_le, sum_to_zero}
use Rattle.sampling.specs.declared.unit.Unit.{Unit}
use Rattle.sampling.specs.declared.factors.Factors.{Factors}
use Rattle.sampling.specs.Factors.{Published}
use Rattle.sampling.specs.Interval.{in_samples}
use Rattle.sampling.specs.Units.{sampled}
use Rattle.sampling.specs.Weights.{factor_in, ready_fault, units_in, weight}

one_of_two : (s : ℕ) → s ≡ 1000000 → (eqb s 0 || eqb s 1000000) ≡ true
one_of_two s e = rw e

none_of_it : (s : ℕ) → s ≡ 0 → (eqb s 0 || eqb s 1000000) ≡ true
none_of_it s e = rw e

pub whole_million : (n : ℕ) (w s : ℕ → ℕ) → Divided 1000000 n w s → (eqb (sum_to n s) 0 || eqb (sum_to n s) 1000000) ≡ true
whole_million n w s d =
    ⊎_elim
    (λ (l : 0 < sum_to n w). one_of_two (sum_to n s) (d.whole l))
    (λ (l : sum_to n w ≤ 0). none_of_it (sum_to n s) (sum_to_zero n s (λ k m. d.shares k m ∙ share_none 1000000 n w k (omega arith))))
    (cases_lt 0 (sum_to n w))

at_most : (s : ℕ) → (eqb s 0 || eqb s 1000000) ≡ true → s ≤ 1000000
at_most s h = grind (arith, nat_tests)

pub factor_most : (s : ℕ → ℕ) (k : ℕ) → k < 65 → (eqb (sum_to 65 s) 0 || eqb (sum_to 65 s) 1000000) ≡ true → s k ≤ 1000000
factor_most s k l h = omega (arith, sum_to_one_le 65 s k l, at_most (sum_to 65 s) h)

pub weights_fit : (w : ℕ → ℕ) → ((o : ℕ) → o < 65 → w o ≤ 2 ^ 57) → sum_to 65 w < 2 ^ 64
weights_fit w h = omega (arith, sum_to_bound 65 (2 ^ 57) w h)

-- why factors are not ready
pub nothing_sampled : (us : List Unit) (used : ℕ) → (length us ≡ 0) ⊎ (used ≡ 0) → Some (in_samples 6 0) ≡ ready_fault (sampled us used)
unfolding ready_fault
nothing_sampled us used h = ⊎_elim (λ (e : length us ≡ 0). grind (arith, nat_tests)) (λ (e : used ≡ 0). grind (arith, nat_tests)) h

weighed : (us : List Unit) (used : ℕ) (ws : List ℕ) → length ws ≡ 65 → ((o : ℕ) → o < 65 → listed ws o ≡ weight (sampled us used) o) → all_to (length ws) (λ o. eqb (listed ws o) 0) ≡ all_to 65 (λ o. eqb (weight (sampled us used) o) 0)
weighed us used ws long h = ap (λ n. all_to n (λ o. eqb (listed ws o) 0)) long ∙ all_to_eq 65 _ _ (λ o l. ap (λ n. eqb n 0) (h o l))

judged : (us : List Unit) (used : ℕ) → (length us ≡ 0 → ⊥) → (used ≡ 0 → ⊥) → ready_fault (sampled us used) ≡ cond (all_to 65 (λ o. eqb (weight (sampled us used) o) 0)) (Some (in_samples 7 0)) None
unfolding ready_fault
judged us used h k = grind (arith, nat_tests)

pub no_weight : (us : List Unit) (used : ℕ) (ws : List ℕ) → (length us ≡ 0 → ⊥) → (used ≡ 0 → ⊥) → length ws ≡ 65 → ((o : ℕ) → o < 65 → listed ws o ≡ weight (sampled us used) o) → true ≡ all_to (length ws) (λ o. eqb (listed ws o) 0) → Some (in_samples 7 0) ≡ ready_fault (sampled us used)
no_weight us used ws h k long e t = ap (λ b. cond b (Some (in_samples 7 0)) None) (t ∙ weighed us used ws long e) ∙ sym (judged us used h k)

pub some_weight : (us : List Unit) (used : ℕ) (ws : List ℕ) → (length us ≡ 0 → ⊥) → (used ≡ 0 → ⊥) → length ws ≡ 65 → ((o : ℕ) → o < 65 → listed ws o ≡ weight (sampled us used) o) → false ≡ all_to (length ws) (λ o. eqb (listed ws o) 0) → None ≡ ready_fault (sampled us used)
some_weight us used ws h k long e t = ap (λ b. cond b (Some (in_samples 7 0)) None) (t ∙ weighed us used ws long e) ∙ sym (judged us used h k)

inside : (p n x : ℕ) → p < n → cond (ltb p n) x 0 ≡ x
inside p n x h = grind (arith, nat_tests)

outside : (o n x : ℕ) → o ≤ n → cond (ltb n o) 0 x ≡ x
outside o n x h = grind (arith, nat_tests)

-- the factors that a sampling publishes
pub published : (us : List Unit) (used : ℕ) (ws : List ℕ) (f : Factors) → ((o : ℕ) → o < 65 → listed ws o ≡ weight (sampled us used) o) → ((o : ℕ) → o < 65 → listed f.factors o ≡ share 1000000 65 (listed ws) o) → ((o : ℕ) → o < 65 → listed f.units o ≡ units_in (sampled us 0) o) → Published (sampled us used) f
unfolding units_in
published us used ws f e h k =
    let at : (o : ℕ) → o < 65 → listed f.factors o ≡ factor_in (sampled us used) o = λ o l. h o l ∙ share_eq 1000000 65 (listed ws) (weight (sampled us used)) e o l in
    record {
      factor = λ p l. inside p 64 (listed f.factors p) l ∙ at p (omega arith);
      residual = at 64 (lit< tt);
      units = λ o l. outside o 64 (listed f.units o) (omega arith) ∙ k o l;
    }
