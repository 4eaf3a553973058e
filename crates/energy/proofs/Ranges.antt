-- Sums over the numbers of a range.
use Rattle.std.specs.Prelude.{◌≡◌, ℕ, zero, suc, ◌+◌, map, sum}
use Rattle.std.specs.List.{range_with_len}
use Rattle.std.proofs.Common.{sym, ap, ◌∙◌, add-one, arith}
use Rattle.std.proofs.lemmas.List.FromFn.{sum_by-map-range_with_len_more}
use Rattle.foundation.specs.Sums.{sum_to}
use Rattle.foundation.proofs.Sums.{sum_to_none, sum_to_more}

pub sum_range : (n : ℕ) (f : ℕ → ℕ) → sum (map f (range_with_len 0 n)) ≡ sum_to n f
sum_range zero f = sym (sum_to_none f)
sum_range (suc n) f =
    ap (λ m. sum (map f (range_with_len 0 m))) (sym (add-one n))
    ∙ sum_by-map-range_with_len_more (λ x. x) f 0 n n (omega arith)
    ∙ ap (λ s. s + f n) (sum_range n f)
    ∙ sym (sum_to_more n f)
