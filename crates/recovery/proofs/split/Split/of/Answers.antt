use Rattle.std.proofs.Common.{◌+◌, ◌<◌, Some, sym, ap, ◌∙◌, arith}
use Rattle.foundation.specs.Fault.{told}
use Rattle.foundation.specs.Sums.{listed}
use Rattle.foundation.proofs.Sums.{sum_to_eq}
use Rattle.recovery.specs.Shares.{basis_of, cmpf, crmpf, customer, weight}
use Rattle.recovery.proofs.Bounds.{atce_most, cmpf_most, crmpf_most, factors_most}
use Rattle.recovery.proofs.Faults.{nobody_pays, not_both, set_held, split_passes}
use Rattle.recovery.proofs.Laws.{atce_is, shared, weights_all}
use Rattle.recovery.proofs.Tables.{borne_is, paid_are, weighed}
use Rattle.recovery.proofs.split.Split.of.Goals as goal

pub over-requires : goal.over-requires
over-requires g c =
    let D = c.args.regions in
    let b = basis_of c.args.part c.args.factors.now (g.E.EnergySource.kwh c.args.source.now) in
    let w = weighed c.args.regions c.args.part c.args.factors.now (g.E.EnergySource.kwh c.args.source.now) c.copied-figures.result c.of-weights.result c.copied-figures.ensures (c.of-weights.ensures c.args.part) in
    record {
      part = omega arith;
      causers = omega (arith, sum_to_eq 65 (listed c.of-weights.result.causers) (weight D b) w.causers, weights_all D b, cmpf_most D b, crmpf_most D b, factors_most c.args.factors.now);
      customers = omega (arith, sum_to_eq 64 (listed c.of-weights.result.customers) (customer D b) w.customers, atce_is D b, atce_most D b, g.met.E.EnergySource.bounded c.args.source.now);
    }

pub returns-then-weights-eq0-2-clause-answer : goal.returns-then-weights-eq0-2-clause-answer
returns-then-weights-eq0-2-clause-answer g c =
    let D = c.args.regions in
    let b = basis_of c.args.part c.args.factors.now (g.E.EnergySource.kwh c.args.source.now) in
    let w = weighed c.args.regions c.args.part c.args.factors.now (g.E.EnergySource.kwh c.args.source.now) c.copied-figures.result c.of-weights.result c.copied-figures.ensures (c.of-weights.ensures c.args.part) in
    let set = set_held D _ c.is_set.ensures c.if-not-is_set.false in
    ap (λ f. Some (told f)) c.fault-then-weights-eq0-2.ensures ∙ sym (nobody_pays D b (omega arith) (omega arith) set.0 set.1 (omega (arith, w.all_causers, w.residual)))

pub returns : goal.returns
returns g c =
    let D = c.args.regions in
    let b = basis_of c.args.part c.args.factors.now (g.E.EnergySource.kwh c.args.source.now) in
    let w = weighed c.args.regions c.args.part c.args.factors.now (g.E.EnergySource.kwh c.args.source.now) c.copied-figures.result c.of-weights.result c.copied-figures.ensures (c.of-weights.ensures c.args.part) in
    let set = set_held D _ c.is_set.ensures c.if-not-is_set.false in
    let some : 0 < cmpf D b + crmpf D b = omega (arith, not_both c.of-weights.result.cmpf c.of-weights.result.crmpf c.else-weights-eq0.either, w.all_causers, w.residual) in
    record {
      answer = sym (split_passes D b (omega arith) (omega arith) set.0 set.1 some);
      value = record {
        law = shared D b (listed c.over.result.shares) some (paid_are D b c.of-weights.result.causers c.of-weights.result.customers c.over.result.shares c.over.result.residual_part w.causers w.customers c.over.ensures.borne c.over.ensures.shares);
        energies = λ p l. ap (λ xs. listed xs p) c.over.ensures.kept.0 ∙ w.energies p l;
        all_causers = c.over.ensures.kept.1 ∙ w.all_causers;
        residual = c.over.ensures.kept.2 ∙ w.residual;
        borne = borne_is D b c.of-weights.result.causers c.over.result.residual_part w.causers c.over.ensures.borne;
        all_customers = c.over.ensures.kept.3 ∙ w.all_customers;
      };
    }
