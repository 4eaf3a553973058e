use Rattle.std.proofs.Common.{◌/◌, ◌%◌, eqb, ◌+ℤ◌, nat_abs, ap, ◌∙◌, arith}
use Rattle.sampling.specs.Units.{sum_at}
use Rattle.sampling.proofs.Records.{held_at}
use Rattle.sampling.proofs.Units.{one_more, added_held, added_bound}
use Rattle.sampling.proofs.unit.add_products.Goals as goal

pub add_assign-requires : goal.add_assign-requires
add_assign-requires c =
    let first = held_at _ _ _ _ _ c.new-reader.ensures.lent c.new-reader.ensures.start c.read-indicator.ensures.holds in
    let held = held_at _ _ _ _ _ c.loop-unit.invariant.lent c.loop-unit.invariant.next c.read-sample.ensures.holds in (
      λ d. omega (arith, ap nat_abs (c.loop-unit.invariant.sofar.rest c.loop-unit.unit-index d (omega arith)), c.requires.bounded c.loop-unit.unit-index d),
      λ d. omega (arith, ap nat_abs (c.products-sums.ensures d ∙ added_held c.args.bytes.now c.loop-unit.unit-index d c.read-indicator.result c.read-sample.result _ _ first held (ap (λ n. eqb (n % 2) 1) held.enablement) (ap (λ n. eqb (n / 2 % 2) 1) held.enablement)), added_bound _ _ c.loop-unit.unit-index d c.requires.inside c.loop-unit-test.true),
    )

pub loop-unit-preserved : goal.loop-unit-preserved
loop-unit-preserved c =
    let first = held_at _ _ _ _ _ c.new-reader.ensures.lent c.new-reader.ensures.start c.read-indicator.ensures.holds in
    let held = held_at _ _ _ _ _ c.loop-unit.invariant.lent c.loop-unit.invariant.next c.read-sample.ensures.holds in
    record {
      next = omega (arith, c.read-sample.ensures.moved, c.loop-unit.invariant.next);
      lent = c.read-sample.ensures.lent ∙ c.loop-unit.invariant.lent;
      sofar =
          one_more c.args.bytes.now c.args.units.now c.loop-unit.units c.loop-unit.unit-index c.add_assign.new.self (omega arith) c.loop-unit.invariant.sofar
          (λ d. c.add_assign.ensures.after d ∙ ap (λ z. sum_at c.loop-unit.units c.loop-unit.unit-index d +ℤ z) (c.products-sums.ensures d ∙ added_held c.args.bytes.now c.loop-unit.unit-index d c.read-indicator.result c.read-sample.result _ _ first held (ap (λ n. eqb (n % 2) 1) held.enablement) (ap (λ n. eqb (n / 2 % 2) 1) held.enablement)));
    }
