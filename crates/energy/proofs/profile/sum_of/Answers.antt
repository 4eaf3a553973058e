use Rattle.std.proofs.Common.{◌≡◌, ◌^◌, length, ℕ, ap, ◌∙◌, arith, w32, Fits, rules}
use Rattle.std.proofs.lemmas.Iterator.{YieldsList-from_slice, YieldsList-from_map}
use Rattle.std.proofs.lemmas.Iterator.Consumers.{YieldsList-at, fits_by_from_yields_list, sum_by_from_yields_List}
use Rattle.foundation.specs.Sums.{listed, sum_to}
use Rattle.foundation.proofs.Sums.{sum_to_bound}
use Rattle.foundation.proofs.Lists.{sum_places}
use Rattle.energy.proofs.profile.sum_of.Goals as goal

pub sum-requires-clause-fits : goal.sum-requires-clause-fits
sum-requires-clause-fits c =
    let xs = c.args.totals.now in
    let long : length xs ≡ 5 = search rules in
    let small : (k : ℕ) → Fits w32 (listed xs k) = λ k. search rules in
    fits_by_from_yields_list (λ x. x) xs c.map.result (2 ^ 64) (YieldsList-from_map _ (λ x. x) (YieldsList-at c.map.ensures.source (YieldsList-from_slice xs (cc))) c.map.ensures.closure (λ x r q k. search rules)) (omega (arith, sum_places xs, ap (λ n. sum_to n (listed xs)) long, sum_to_bound 5 4294967295 (listed xs) (λ k l. omega (arith, (small k).fits))))

pub returns : goal.returns
returns c =
    let xs = c.args.totals.now in
    let long : length xs ≡ 5 = search rules in
    sum_by_from_yields_List (λ x. x) xs c.map.result c.sum.result c.sum.ensures.ran (YieldsList-from_map _ (λ x. x) (YieldsList-at c.map.ensures.source (YieldsList-from_slice xs (cc))) c.map.ensures.closure (λ x r q k. search rules))
    ∙ sum_places xs
    ∙ ap (λ n. sum_to n (listed xs)) long
