use Rattle.std.proofs.Common.{◌≡◌, ℕ, length, ◌∙◌, arith, rules}
use Rattle.energy.specs.Table.{figure_of}
use Rattle.recovery.specs.Shares.{basis_of, atce, cmpf, crmpf, everywhere}
use Rattle.recovery.proofs.Bounds.{atce_le, atce_most, cmpf_most, crmpf_most, factors_most}
use Rattle.recovery.proofs.Tables.{customers_are, causers_are, customers_total, causers_total, crmpf_made, weights_are}
use Rattle.recovery.proofs.weights.Weights.of.Goals as goal
use Rattle.recovery.proofs.weights.Weights.of.Goals.{After-with_residual}

-- no weight depends on the part, so the bounds take the part 0
pub total-residual_energy-requires : goal.total-residual_energy-requires
total-residual_energy-requires c =
    let b = basis_of 0 c.args.factors.now (figure_of c.args.figures.rows) in
    let long : length c.customers-customers_inside.result ≡ 64 = search rules in
    omega (arith, customers_total c.args.regions b c.energies_in-energies.result c.customers-customers_inside.result long c.energies_in-energies.ensures c.customers-customers_inside.ensures, atce_most c.args.regions b, c.args.figures.limited)

pub total-cmpf-requires : goal.total-cmpf-requires
total-cmpf-requires c =
    let b = basis_of 0 c.args.factors.now (figure_of c.args.figures.rows) in
    let long : length c.causers-causers.result ≡ 64 = search rules in
    omega (arith, causers_total c.args.regions b c.energies_in-energies.result c.causers-causers.result long c.energies_in-energies.ensures c.causers-causers.ensures, cmpf_most c.args.regions b, factors_most c.args.factors.now)

pub total-requires : goal.total-requires
total-requires c =
    let b = basis_of 0 c.args.factors.now (figure_of c.args.figures.rows) in
    let long : length c.customers-customers_overall.result ≡ 64 = search rules in
    omega (arith, customers_total everywhere b c.energies_in.result c.customers-customers_overall.result long c.energies_in.ensures c.customers-customers_overall.ensures, atce_most everywhere b, c.args.figures.limited)

pub portion-crmpf-requires : goal.portion-crmpf-requires
portion-crmpf-requires c =
    let b = basis_of 0 c.args.factors.now (figure_of c.args.figures.rows) in
    let long : length c.customers-customers_inside.result ≡ 64 = search rules in
    let long' : length c.customers-customers_overall.result ≡ 64 = search rules in
    omega (
      arith,
      c.total-residual_energy.ensures,
      c.total.ensures,
      customers_total c.args.regions b c.energies_in-energies.result c.customers-customers_inside.result long c.energies_in-energies.ensures c.customers-customers_inside.ensures,
      customers_total everywhere b c.energies_in.result c.customers-customers_overall.result long' c.energies_in.ensures c.customers-customers_overall.ensures,
      atce_le c.args.regions b,
    )

-- what the totals come to, at any part
inside : (c : After-with_residual) (part : ℕ) → c.total-residual_energy.result ≡ atce c.args.regions (basis_of part c.args.factors.now (figure_of c.args.figures.rows))
inside c part =
    let b = basis_of part c.args.factors.now (figure_of c.args.figures.rows) in
    let long : length c.customers-customers_inside.result ≡ 64 = search rules in
    c.total-residual_energy.ensures ∙ customers_total c.args.regions b c.energies_in-energies.result c.customers-customers_inside.result long c.energies_in-energies.ensures c.customers-customers_inside.ensures

causing : (c : After-with_residual) (part : ℕ) → c.total-cmpf.result ≡ cmpf c.args.regions (basis_of part c.args.factors.now (figure_of c.args.figures.rows))
causing c part =
    let b = basis_of part c.args.factors.now (figure_of c.args.figures.rows) in
    let long : length c.causers-causers.result ≡ 64 = search rules in
    c.total-cmpf.ensures ∙ causers_total c.args.regions b c.energies_in-energies.result c.causers-causers.result long c.energies_in-energies.ensures c.causers-causers.ensures

residual : (c : After-with_residual) (part : ℕ) → c.portion-crmpf.result ≡ crmpf c.args.regions (basis_of part c.args.factors.now (figure_of c.args.figures.rows))
residual c part =
    let b = basis_of part c.args.factors.now (figure_of c.args.figures.rows) in
    let long : length c.customers-customers_overall.result ≡ 64 = search rules in
    let overall = c.total.ensures ∙ customers_total everywhere b c.energies_in.result c.customers-customers_overall.result long c.energies_in.ensures c.customers-customers_overall.ensures in
    crmpf_made c.args.regions b c.portion-crmpf.result c.from.result c.total-residual_energy.result c.total.result c.portion-crmpf.ensures (c.from.ensures ∙ c.residual.ensures) (inside c part) overall

pub overflow_cast-result : goal.overflow_cast-result
overflow_cast-result c =
    let b = basis_of 0 c.args.factors.now (figure_of c.args.figures.rows) in
    record { fits = omega (arith, causing c 0, cmpf_most c.args.regions b, factors_most c.args.factors.now) }

pub overflow_cast-result-2 : goal.overflow_cast-result-2
overflow_cast-result-2 c =
    let b = basis_of 0 c.args.factors.now (figure_of c.args.figures.rows) in
    record { fits = omega (arith, residual c 0, crmpf_most c.args.regions b, factors_most c.args.factors.now) }

pub returns : goal.returns
returns c part =
    let b = basis_of part c.args.factors.now (figure_of c.args.figures.rows) in
    let causers = causers_are c.args.regions b c.energies_in-energies.result c.causers-causers.result c.energies_in-energies.ensures c.causers-causers.ensures in
    record {
      energies = c.energies_in-energies.ensures;
      causers = weights_are c.args.regions b c.causers-causers.result c.with_residual.result c.portion-crmpf.result causers (residual c part) c.with_residual.ensures;
      customers = customers_are c.args.regions b c.energies_in-energies.result c.customers-customers_inside.result c.energies_in-energies.ensures c.customers-customers_inside.ensures;
      all_causers = causing c part;
      residual = residual c part;
      all_customers = inside c part;
    }
