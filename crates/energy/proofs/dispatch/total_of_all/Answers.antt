use Rattle.std.specs.Prelude.{◌≡◌, ℕ, map, sum}
use Rattle.std.specs.List.{range_with_len}
use Rattle.std.proofs.Common.{sym, ◌∙◌, arith, rules}
use Rattle.std.proofs.lemmas.Iterator.{YieldsList-from_range, YieldsList-from_map}
use Rattle.std.proofs.lemmas.Iterator.Consumers.{YieldsList-at, sum_from_yields_List, fits_from_yields_list}
use Rattle.foundation.proofs.Sums.{sum_to_eq}
use Rattle.energy.specs.Energy.{grand, in_region, total_of}
use Rattle.energy.specs.Totals.{grand_is, total_inside}
use Rattle.energy.proofs.Ranges.{sum_range}
use Rattle.energy.proofs.dispatch.total_of_all.Goals as goal

sum_all : (f : ℕ → ℕ → ℕ) → sum (map (total_of f) (range_with_len 0 5)) ≡ grand f
sum_all f = sum_range 5 (total_of f) ∙ sum_to_eq 5 (total_of f) (in_region f) (λ r l. total_inside f r l) ∙ sym (grand_is f)

pub sum-requires-clause-fits : goal.sum-requires-clause-fits
sum-requires-clause-fits g c =
    let f = g.E.EnergySource.kwh c.args.source.now in
    fits_from_yields_list c.map.result _ (YieldsList-from_map _ (total_of f) (YieldsList-at c.map.ensures.source (YieldsList-from_range 0 5 5 (search rules) (omega arith))) c.map.ensures.closure (λ x r q k. search rules)) (omega (arith, sum_all f, g.met.E.EnergySource.bounded c.args.source.now))

pub returns : goal.returns
returns g c =
    let f = g.E.EnergySource.kwh c.args.source.now in
    sum_from_yields_List c.map.result c.sum.result c.sum.ensures.ran (YieldsList-from_map _ (total_of f) (YieldsList-at c.map.ensures.source (YieldsList-from_range 0 5 5 (search rules) (omega arith))) c.map.ensures.closure (λ x r q k. search rules)) ∙ sum_all f
