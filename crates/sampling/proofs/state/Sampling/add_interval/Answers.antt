use Rattle.std.proofs.Common.{◌≡◌, suc, ◌+◌, ◌≤◌, length, vec_items, sym, ap, ◌∙◌, subst, arith}
use Rattle.std.proofs.lemmas.List.{with_items_is}
use Rattle.sampling.specs.Interval.{after, interval_fault}
use Rattle.sampling.specs.Records.{Inside}
use Rattle.sampling.specs.Units.{Added, Bounded}
use Rattle.sampling.proofs.Accepted.{inside, not_below}
use Rattle.sampling.proofs.History.{gone_added, gone_refused}
use Rattle.sampling.proofs.Units.{bounded_more}
use Rattle.sampling.proofs.state.Sampling.add_interval.Goals as goal

pub add_products-requires-clause-bounded : goal.add_products-requires-clause-bounded
add_products-requires-clause-bounded c = λ u d.
    let used : c.args.self.now.used ≤ 8063 = omega (arith, c.args.self.now.counted, not_below _ _ _ (sym c.in_ok-interval.ensures.answer), c.in_ok-interval.ensures.value, c.in_ok-interval.interval.within) in
    omega (arith, subst (Bounded c.args.self.now.used) (sym c.as_mut_slice.ensures.value) c.args.self.now.bounded u d)

pub add_products-requires-clause-inside : goal.add_products-requires-clause-inside
add_products-requires-clause-inside c = subst (λ n. Inside n c.args.bytes.now) (c.len.ensures ∙ sym c.as_mut_slice.ensures.len) (inside _ _ _ (sym c.in_ok-interval.ensures.answer))

pub invariant_of-self : goal.invariant_of-self
invariant_of-self c =
    let none = sym c.in_ok-interval.ensures.answer in
    let long : length c.add_products.new.units ≡ c.args.self.now.units.len = c.add_products.ensures.many ∙ c.as_mut_slice.ensures.len in
    let e = with_items_is c.args.self.now.units c.add_products.new.units long in
    record {
      few = c.args.self.now.few;
      counted = omega (arith, c.args.self.now.counted, not_below _ _ _ none, c.in_ok-interval.ensures.value);
      bounded = subst (Bounded (c.args.self.now.used + 1)) (sym e) (bounded_more c.args.bytes.now c.args.self.now.used c.as_mut_slice.result.now c.add_products.new.units (subst (λ n. Inside n c.args.bytes.now) (c.len.ensures ∙ sym c.as_mut_slice.ensures.len) (inside _ _ _ none)) (subst (Bounded c.args.self.now.used) (sym c.as_mut_slice.ensures.value) c.args.self.now.bounded) c.add_products.ensures);
    }

pub returns-in_err-interval-clause-told : goal.returns-in_err-interval-clause-told
returns-in_err-interval-clause-told c = λ h g. gone_refused h c.args.self.now c.args.bytes.now _ g (c.in_err-interval.ensures.answer ∙ ap (λ n. interval_fault n (after c.args.self.now.last) c.args.bytes.now) c.len.ensures)

pub returns-clause-told : goal.returns-clause-told
returns-clause-told c =
    let long : length c.add_products.new.units ≡ c.args.self.now.units.len = c.add_products.ensures.many ∙ c.as_mut_slice.ensures.len in
    let e = with_items_is c.args.self.now.units c.add_products.new.units long in
    let none = c.in_ok-interval.ensures.answer ∙ ap (λ n. interval_fault n (after c.args.self.now.last) c.args.bytes.now) c.len.ensures in
    let added = subst (Added c.args.bytes.now (vec_items c.args.self.now.units)) (sym e) (subst (λ us. Added c.args.bytes.now us c.add_products.new.units) c.as_mut_slice.ensures.value c.add_products.ensures) in
    λ h g. gone_added h c.args.self.now _ c.args.bytes.now g none added (omega arith) (ap suc c.in_ok-interval.ensures.value)
