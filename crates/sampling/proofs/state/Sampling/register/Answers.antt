use Rattle.std.proofs.Common.{length, nat_abs, sym, refl, ap, ◌∙◌, arith}
use Rattle.std.proofs.lemmas.List.{length-map}
use Rattle.sampling.specs.Registration.{registration_fault}
use Rattle.sampling.specs.Units.{new_unit, sum_at}
use Rattle.sampling.proofs.History.{gone_registered}
use Rattle.sampling.proofs.Registration.{few_owners}
use Rattle.sampling.proofs.Units.{new_sum}
use Rattle.sampling.proofs.state.Sampling.register.Goals as goal

pub invariant_of-self : goal.invariant_of-self
invariant_of-self c =
    let made = c.in_ok-self.ensures.made in
    record {
      few = omega (arith, c.in_ok-self.field-0.ok.0, ap length made, length-map c.args.owners.now new_unit, few_owners _ _ (sym c.in_ok-check_registration.ensures));
      counted = c.args.self.now.counted;
      bounded = λ u d. omega (arith, ap (λ us. nat_abs (sum_at us u d)) made, ap nat_abs (new_sum c.args.owners.now u d));
    }

pub returns-clause-told : goal.returns-clause-told
returns-clause-told c = λ h g. gone_registered h c.args.self.now _ c.args.owners.now g (ap (λ n. registration_fault n c.args.owners.now) (sym c.len.ensures) ∙ sym c.in_ok-check_registration.ensures) c.in_ok-self.ensures.made refl refl
