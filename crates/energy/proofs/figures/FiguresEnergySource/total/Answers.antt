use Rattle.std.specs.Prelude.{◌≡◌, ℕ, ◌^◌, List, [], length, sum_by}
use Rattle.std.proofs.Common.{sym, ap, ◌∙◌, arith, rules}
use Rattle.std.proofs.lemmas.Iterator.{YieldsList-from_slice, YieldsList-from_map}
use Rattle.std.proofs.lemmas.Iterator.Consumers.{YieldsList-at, fits_by_from_yields_list, sum_by_from_yields_List}
use Rattle.foundation.specs.Sums.{listed, sum_to}
use Rattle.foundation.proofs.Lists.{sum_by_places}
use Rattle.energy.specs.Energy.{in_region}
use Rattle.energy.specs.Table.{figure_of}
use Rattle.energy.specs.Totals.{region_is, region_le, total_inside}
use Rattle.energy.proofs.figures.FiguresEnergySource.total.Goals as goal

sum_rows : (rows : List (List ℕ)) (r : ℕ) → length rows ≡ 64 → sum_by (λ row. listed row r) rows ≡ in_region (figure_of rows) r
sum_rows rows r long = sum_by_places (λ row. listed row r) rows [] ∙ ap (λ n. sum_to n (λ p. figure_of rows p r)) long ∙ sym (region_is (figure_of rows) r)

pub sum-requires-clause-fits : goal.sum-requires-clause-fits
sum-requires-clause-fits c =
    let rows = c.args.self.now.rows in
    let long : length rows ≡ 64 = search rules in
    fits_by_from_yields_list (λ row. listed row c.args.region) rows c.map.result (2 ^ 32) (YieldsList-from_map _ (λ row. listed row c.args.region) (YieldsList-at c.map.ensures.source (YieldsList-from_slice rows (cc))) c.map.ensures.closure (λ x r q k. search rules)) (omega (arith, sum_rows rows c.args.region long, region_le (figure_of rows) c.args.region (omega arith), c.args.self.now.limited))

pub returns : goal.returns
returns c =
    let rows = c.args.self.now.rows in
    let long : length rows ≡ 64 = search rules in
    sum_by_from_yields_List (λ row. listed row c.args.region) rows c.map.result c.sum.result c.sum.ensures.ran (YieldsList-from_map _ (λ row. listed row c.args.region) (YieldsList-at c.map.ensures.source (YieldsList-from_slice rows (cc))) c.map.ensures.closure (λ x r q k. search rules))
    ∙ sum_rows rows c.args.region long
    ∙ sym (total_inside (figure_of rows) c.args.region (omega arith))
