use Rattle.std.specs.Prelude.{◌≡◌, ℕ, ◌<◌, map, sum}
use Rattle.std.specs.List.{range_with_len}
use Rattle.std.proofs.Common.{◌∙◌, arith, rules}
use Rattle.std.proofs.lemmas.Iterator.{YieldsList-from_range, YieldsList-from_map}
use Rattle.std.proofs.lemmas.Iterator.Consumers.{YieldsList-at, sum_from_yields_List, fits_from_yields_list}
use Rattle.foundation.specs.Sums.{sum_to}
use Rattle.foundation.proofs.Sums.{sum_to_eq}
use Rattle.energy.specs.Energy.{seen}
use Rattle.energy.specs.Totals.{seen_in}
use Rattle.energy.proofs.Ranges.{sum_range}
use Rattle.recovery.proofs.Bounds.{row_most}
use Rattle.recovery.proofs.weights.energy_in.Goals as goal

-- a party's figures are seen in every region
row : (f : ℕ → ℕ → ℕ) (p : ℕ) → p < 64 → sum (map (seen f p) (range_with_len 0 5)) ≡ sum_to 5 (f p)
row f p l = sum_range 5 (seen f p) ∙ sum_to_eq 5 (seen f p) (f p) (λ r m. seen_in f p r l m)

pub sum-requires-clause-fits : goal.sum-requires-clause-fits
sum-requires-clause-fits g c =
    let f = g.E.EnergySource.kwh c.args.source.now in
    let p = c.args.party in
    fits_from_yields_list c.map.result _ (YieldsList-from_map _ (seen f p) (YieldsList-at c.map.ensures.source (YieldsList-from_range 0 5 5 (search rules) (omega arith))) c.map.ensures.closure (λ x r q k. search rules)) (omega (arith, row f p c.requires, row_most f p c.requires, g.met.E.EnergySource.bounded c.args.source.now))

pub returns : goal.returns
returns g c =
    let f = g.E.EnergySource.kwh c.args.source.now in
    let p = c.args.party in
    sum_from_yields_List c.map.result c.sum.result c.sum.ensures.ran (YieldsList-from_map _ (seen f p) (YieldsList-at c.map.ensures.source (YieldsList-from_range 0 5 5 (search rules) (omega arith))) c.map.ensures.closure (λ x r q k. search rules)) ∙ row f p c.requires
