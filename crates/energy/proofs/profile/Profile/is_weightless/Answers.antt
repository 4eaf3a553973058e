use Rattle.std.specs.Prelude.{◌==◌}
use Rattle.std.proofs.Common.{◌≡◌, ◌≢◌, ℕ, ◌<◌, Bool, true, false, List, length, sym, arith, rules, tests, eq-eqb, ne_eqb}
use Rattle.std.specs.Bool.{MatchBool}
use Rattle.std.specs.List.{AllWithin, HoldsAt}
use Rattle.std.proofs.lemmas.Iterator.{YieldsList-from_slice, cases_from_all}
use Rattle.foundation.specs.Sums.{listed, sum_to}
use Rattle.foundation.proofs.Sums.{sum_to_one_le, sum_to_zero}
use Rattle.energy.proofs.profile.Profile.is_weightless.Goals as goal

by_sum : (xs : List ℕ) (r : Bool) → length xs ≡ 64 → MatchBool r (AllWithin (λ (w : ℕ). w ≡ 0) xs 0 (length xs)) ((k : ℕ) × (k < length xs) × HoldsAt (λ (w : ℕ). w ≢ 0) xs k) → r ≡ (sum_to 64 (listed xs) == 0)
by_sum xs true long h = sym (eq-eqb (sum_to 64 (listed xs)) 0 (sum_to_zero 64 (listed xs) (λ k l. h k 0 (omega arith) (omega (arith, long)))))
by_sum xs false long h = sym (ne_eqb (sum_to 64 (listed xs)) 0 (λ e. h.2 0 (omega (arith, e, sum_to_one_le 64 (listed xs) h.0 (omega (arith, long, h.1))))))

pub returns : goal.returns
returns c =
    let xs = c.args.self.now.weights in
    let long : length xs ≡ 64 = search rules in
    by_sum xs c.all.result long (cases_from_all c.all.new.self _ c.all.result (λ (w : ℕ). w ≡ 0) (λ (w : ℕ). w ≢ 0) c.all.ensures.ran (YieldsList-from_slice xs (cc)) (λ x q h. search (rules, tests)) (λ x q h. search (rules, tests)))
