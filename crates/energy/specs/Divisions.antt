-- A profile's figures add up to its totals, or to nothing where nobody has a weight.
use Rattle.std.specs.Prelude.{◌≡◌, ℕ, ◌<◌, ◌≤◌, true, false, List, ◌==◌, ◌≢◌}
use Rattle.std.proofs.Common.{sym, ◌∙◌, ⊎_elim, arith, true-eqb, false-eqb}
use Rattle.std.proofs.lemmas.Bool.{cases_lt}
use Rattle.foundation.specs.Division.{share}
use Rattle.foundation.specs.Sums.{listed, sum_to}
use Rattle.foundation.proofs.Shares.{share_none, share_whole}
use Rattle.foundation.proofs.Sums.{sum_to_le, sum_to_zero}
use Rattle.energy.specs.Energy.{in_region, grand, total_of}
use Rattle.energy.specs.Profile.{profile_kwh}
use Rattle.energy.specs.Totals.{region_is, grand_is, total_inside}

parts_none : (a n : ℕ) (w : ℕ → ℕ) → sum_to n w ≡ 0 → sum_to n (share a n w) ≡ 0
parts_none a n w e = sum_to_zero n (share a n w) (λ k l. share_none a n w k e)

parts_le : (a n : ℕ) (w : ℕ → ℕ) → sum_to n (share a n w) ≤ a
parts_le a n w =
    ⊎_elim
    (λ (l : 0 < sum_to n w). omega (arith, share_whole a n w l))
    (λ (l : sum_to n w ≤ 0). omega (arith, parts_none a n w (omega arith)))
    (cases_lt 0 (sum_to n w))

pub profile_bounded : (totals weights : List ℕ) → sum_to 5 (listed totals) ≤ 40000000 → grand (profile_kwh totals weights) ≤ 40000000
profile_bounded totals weights h =
    let f = profile_kwh totals weights in
    omega (arith, h, grand_is f, sum_to_le 5 (in_region f) (listed totals) (λ r l. omega (arith, region_is f r, parts_le (listed totals r) 64 (listed weights))))

pub weightless_total : (totals weights : List ℕ) (r : ℕ) → r < 5 → true ≡ (sum_to 64 (listed weights) == 0) → 0 ≡ total_of (profile_kwh totals weights) r
weightless_total totals weights r l h =
    let f = profile_kwh totals weights in
    sym (total_inside f r l ∙ region_is f r ∙ parts_none (listed totals r) 64 (listed weights) (true-eqb (sum_to 64 (listed weights)) 0 h))

some : (n : ℕ) → (n ≢ 0) → 0 < n
some n h = ⊎_elim (λ (l : 0 < n). l) (λ (l : n ≤ 0). absurd (h (omega arith))) (cases_lt 0 n)

pub weighted_total : (totals weights : List ℕ) (r : ℕ) → r < 5 → false ≡ (sum_to 64 (listed weights) == 0) → listed totals r ≡ total_of (profile_kwh totals weights) r
weighted_total totals weights r l h =
    let f = profile_kwh totals weights in
    sym (total_inside f r l ∙ region_is f r ∙ share_whole (listed totals r) 64 (listed weights) (some (sum_to 64 (listed weights)) (false-eqb (sum_to 64 (listed weights)) 0 h)))
