use Rattle.std.proofs.Common.{◌*◌, ◌/◌, ◌≤◌, sym, ap, ◌∙◌, arith, rules}
use Rattle.foundation.specs.Sums.{sum_to}
use Rattle.sampling.specs.Factors.{residual_of}
use Rattle.energy.specs.Energy.{in_region}
use Rattle.energy.specs.Totals.{grand_is, quotient_le, within_all, within_le}
use Rattle.energy.proofs.dispatch.dispatch_figure.Goals as goal

pub portion-requires : goal.portion-requires
portion-requires g c =
    let f = g.E.EnergySource.kwh c.args.source.now in
    omega (arith, c.total_of_all-inside.ensures ∙ c.new.ensures.all ∙ sym (within_all c.args.regions f), c.total_of_all-all.ensures, within_le c.args.regions f)

pub overflow_cast-result : goal.overflow_cast-result
overflow_cast-result g c =
    let f = g.E.EnergySource.kwh c.args.source.now in
    let part : c.total_of_all-inside.result ≤ c.total_of_all-all.result = omega (arith, c.total_of_all-inside.ensures ∙ c.new.ensures.all ∙ sym (within_all c.args.regions f), c.total_of_all-all.ensures, within_le c.args.regions f) in
    record { fits = omega (arith, c.portion.ensures, c.from.ensures, quotient_le c.from.result c.total_of_all-inside.result c.total_of_all-all.result part) }

pub returns : goal.returns
returns g c =
    let f = g.E.EnergySource.kwh c.args.source.now in
    let inside = c.total_of_all-inside.ensures ∙ c.new.ensures.all in
    let all = c.total_of_all-all.ensures ∙ grand_is f in
    record {
      answer = search rules;
      value = c.portion.ensures ∙ ap (λ n. n * c.total_of_all-inside.result / c.total_of_all-all.result) (c.from.ensures ∙ c.residual.ensures) ∙ ap (λ n. residual_of c.args.factors.now * c.total_of_all-inside.result / n) all ∙ ap (λ n. residual_of c.args.factors.now * n / sum_to 5 (in_region f)) inside;
    }
