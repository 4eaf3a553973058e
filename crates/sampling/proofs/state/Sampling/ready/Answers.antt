use Rattle.std.proofs.Common.{◌≡◌, ◌⊎◌, length, vec_items, vec_len, sym, refl, ap, ◌∙◌, inl, inr, arith, rules, true-eqb, false-eqb}
use Rattle.sampling.specs.Units.{sampled}
use Rattle.sampling.specs.Weights.{weight}
use Rattle.sampling.proofs.History.{gone_same, ready_same}
use Rattle.sampling.proofs.Published.{nothing_sampled, no_weight, some_weight}
use Rattle.sampling.proofs.state.Sampling.ready.Goals as goal
use Rattle.sampling.proofs.state.Sampling.ready.Goals.{then-is_empty-via-then-is_empty, then-is_empty-via-else-is_empty+then-self-eq0}

pub returns-then-is_empty : goal.returns-then-is_empty
returns-then-is_empty c =
    let us = vec_items c.args.self.now.units in
    let fault =
    nothing_sampled us c.args.self.now.used
    (elim c.then-is_empty.branch as (λ _. (length us ≡ 0) ⊎ (c.args.self.now.used ≡ 0)) [
      | then-is_empty-via-then-is_empty w ↦ inl (omega (arith, c.args.self.now.units.ok.0, true-eqb (vec_len c.args.self.now.units) 0 (sym w.if-is_empty.true ∙ c.is_empty.ensures)))
      | then-is_empty-via-else-is_empty+then-self-eq0 w ↦ inr w.if-self-eq0.true
    ]) in
    rw c.fault.ensures (record { answer = fault; law = λ h g. fault ∙ ready_same _ _ (gone_same h c.args.self.now g) })

pub returns-then-all_zero : goal.returns-then-all_zero
returns-then-all_zero c =
    let same : sampled c.new.result.units.now c.new.result.used ≡ sampled (vec_items c.args.self.now.units) c.args.self.now.used = rw (c.new.ensures.units, c.as_slice.ensures.value, c.new.ensures.used) refl in
    let long : length c.weights.result ≡ 65 = search rules in
    let fault = no_weight (vec_items c.args.self.now.units) c.args.self.now.used c.weights.result (λ e. false-eqb (vec_len c.args.self.now.units) 0 c.if-is_empty.ensures (omega (arith, c.args.self.now.units.ok.0, e))) c.if-self-eq0.false long (λ o l. c.weights.ensures.value o l ∙ ap (λ s. weight s o) same) c.if-all_zero.ensures in
    rw c.fault-then-all_zero.ensures (record { answer = fault; law = λ h g. fault ∙ ready_same _ _ (gone_same h c.args.self.now g) })

pub returns : goal.returns
returns c =
    let same : sampled c.new.result.units.now c.new.result.used ≡ sampled (vec_items c.args.self.now.units) c.args.self.now.used = rw (c.new.ensures.units, c.as_slice.ensures.value, c.new.ensures.used) refl in
    let long : length c.weights.result ≡ 65 = search rules in
    let fault = some_weight (vec_items c.args.self.now.units) c.args.self.now.used c.weights.result (λ e. false-eqb (vec_len c.args.self.now.units) 0 c.if-is_empty.ensures (omega (arith, c.args.self.now.units.ok.0, e))) c.if-self-eq0.false long (λ o l. c.weights.ensures.value o l ∙ ap (λ s. weight s o) same) c.if-all_zero.ensures in
    record { answer = fault; law = λ h g. fault ∙ ready_same _ _ (gone_same h c.args.self.now g) }
