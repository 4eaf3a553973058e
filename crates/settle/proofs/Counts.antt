-- How many amounts are not 0.
use Rattle.std.proofs.Common.{◌≡◌, ℕ, zero, suc, ◌+◌, ◌<◌, ◌≤◌, ℤ, pos, negsuc, nat_abs, refl, ap, ◌∙◌, add-one, arith}
use Rattle.foundation.specs.Sums.{sum_to}
use Rattle.foundation.proofs.Sums.{sum_to_more}
use Rattle.recovery.proofs.Lines.{lines_few}
use Rattle.settle.specs.Standing.{standing_in, standing_under_serial}

pub some_size : (x : ℤ) → (x ≡ pos 0 → ⊥) → 0 < nat_abs x
some_size (pos zero) h = absurd (h refl)
some_size (pos (suc n)) h = omega arith
some_size (negsuc n) h = omega arith

pub standing_few : (owed : ℕ → ℕ → ℤ) (serial n : ℕ) → standing_under_serial owed serial n ≤ n
standing_few owed serial n = lines_few _ n

pub standing_more : (owed : ℕ → ℕ → ℤ) (n : ℕ) → standing_in owed (n + 1) ≡ standing_in owed n + standing_under_serial owed (n + 1) 64
standing_more owed n =
    let under : ℕ → ℕ = λ k. standing_under_serial owed (k + 1) 64 in
    ap (λ m. sum_to m under) (add-one n) ∙ sum_to_more n under
