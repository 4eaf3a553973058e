use Rattle.std.proofs.Common.{◌≡◌, suc, ◌*◌, length, sym, ◌∙◌, arith, below_more}
use Rattle.std.proofs.lemmas.Result.{err_from_is_err_and, IfOk-from_err}
use Rattle.sampling.proofs.Records.{held_at, indicator_held, unit_held, indicator_bad, unit_bad, all_good}
use Rattle.sampling.proofs.check.check_interval.Goals as goal

pub returns-in_err-interval : goal.returns-in_err-interval
returns-in_err-interval c =
    let p = err_from_is_err_and c.from_residual.result c.from_residual.ensures.1 in
    let long : length c.args.bytes.now ≡ 156 * suc c.args.units = omega arith in
    let held = held_at _ _ _ _ _ c.new-reader.ensures.lent c.new-reader.ensures.start c.read-indicator.ensures.holds in
    record {
      answer = rw (p.1, p.2) (indicator_bad _ _ _ _ c.if-units-eq0.false long (sym (indicator_held _ _ _ held) ∙ sym c.in_err-interval.ensures.cases));
      value = IfOk-from_err _ _ c.from_residual.ensures.0;
    }

pub returns-in_err-check_unit : goal.returns-in_err-check_unit
returns-in_err-check_unit c =
    let p = err_from_is_err_and c.from_residual-in_err-check_unit.result c.from_residual-in_err-check_unit.ensures.1 in
    let long : length c.args.bytes.now ≡ 156 * suc c.args.units = omega arith in
    let first = held_at _ _ _ _ _ c.new-reader.ensures.lent c.new-reader.ensures.start c.read-indicator.ensures.holds in
    let held = held_at _ _ _ _ _ c.loop-unit.invariant.1 c.loop-unit.invariant.0 c.read-sample.ensures.holds in
    let interval = c.in_ok-interval.ensures.value ∙ first.interval in
    record {
      answer =
          rw (p.1, p.2)
          (unit_bad _ _ _ c.loop-unit.unit _ c.if-units-eq0.false long (omega arith) (sym (indicator_held _ _ _ first) ∙ sym c.in_ok-interval.ensures.cases) c.loop-unit.invariant.2 (sym (unit_held _ 0 _ _ _ interval held) ∙ sym c.in_err-check_unit.ensures));
      value = IfOk-from_err _ _ c.from_residual-in_err-check_unit.ensures.0;
    }

pub loop-unit-preserved : goal.loop-unit-preserved
loop-unit-preserved c =
    let first = held_at _ _ _ _ _ c.new-reader.ensures.lent c.new-reader.ensures.start c.read-indicator.ensures.holds in
    let held = held_at _ _ _ _ _ c.loop-unit.invariant.1 c.loop-unit.invariant.0 c.read-sample.ensures.holds in
    let interval = c.in_ok-interval.ensures.value ∙ first.interval in (
      omega (arith, c.read-sample.ensures.moved, c.loop-unit.invariant.0),
      c.read-sample.ensures.lent ∙ c.loop-unit.invariant.1,
      below_more _ _ c.loop-unit.invariant.2 (sym (unit_held _ 0 _ _ _ interval held) ∙ sym c.in_ok-check_unit.ensures),
    )

pub returns : goal.returns
returns c =
    let long : length c.args.bytes.now ≡ 156 * suc c.args.units = omega arith in
    let first = held_at _ _ _ _ _ c.new-reader.ensures.lent c.new-reader.ensures.start c.read-indicator.ensures.holds in
    record {
      answer = all_good _ _ _ c.if-units-eq0.false long (sym (indicator_held _ _ _ first) ∙ sym c.in_ok-interval.ensures.cases) (λ k l. c.loop-unit.invariant.2 k (omega arith));
      value = c.in_ok-interval.ensures.value ∙ first.interval;
    }
