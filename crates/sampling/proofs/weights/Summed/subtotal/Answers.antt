use Rattle.std.proofs.Common.{◌≡◌, ◌^◌, ◌≤◌, length, ◌+ℤ◌, nat_abs, sym, ap, ◌∙◌, add-one, arith, w64, to_z}
use Rattle.foundation.specs.Sums.{sum_to_int}
use Rattle.foundation.proofs.Sums.{sum_to_int_none, sum_to_int_more}
use Rattle.sampling.specs.Units.{owner_at, sum_at}
use Rattle.foundation.proofs.Signed.{running_fits, running_is}
use Rattle.sampling.proofs.Subtotals.{parts_of, part_bound, parts_bound, subtotal_is}
use Rattle.sampling.proofs.weights.Summed.subtotal.Goals as goal

pub loop-unit-init : goal.loop-unit-init
loop-unit-init c = sym (sum_to_int_none (parts_of c.args.self.now.units.now c.args.self.now.used c.args.owner c.args.category))

small : (c : goal.After-part_of-sum) → (nat_abs (to_z w64 c.loop-unit.sum-bits) ≤ 2 ^ 60) × (nat_abs c.part_of-sum.result ≤ 2 ^ 60)
small c = (
  omega (arith, ap nat_abs c.loop-unit.invariant, parts_bound c.args.self.now.units.now c.args.self.now.used c.args.owner c.args.category c.loop-unit.unit-index c.args.self.now.bounded, c.args.self.now.few),
  omega (arith, ap nat_abs c.part_of-sum.ensures, part_bound (owner_at c.args.self.now.units.now c.loop-unit.unit-index) c.args.owner (sum_at c.args.self.now.units.now c.loop-unit.unit-index c.args.category) c.args.self.now.used 18869760000000 (c.args.self.now.bounded c.loop-unit.unit-index c.args.category)),
)

pub overflow_add-sum : goal.overflow_add-sum
overflow_add-sum c = running_fits (to_z w64 c.loop-unit.sum-bits) c.part_of-sum.result (small c).0 (small c).1

pub loop-unit-preserved : goal.loop-unit-preserved
loop-unit-preserved c =
    let parts = parts_of c.args.self.now.units.now c.args.self.now.used c.args.owner c.args.category in
    running_is (to_z w64 c.loop-unit.sum-bits) c.part_of-sum.result (small c).0 (small c).1
    ∙ ap (λ z. z +ℤ c.part_of-sum.result) c.loop-unit.invariant
    ∙ ap (λ z. sum_to_int c.loop-unit.unit-index parts +ℤ z) c.part_of-sum.ensures
    ∙ sym (sum_to_int_more c.loop-unit.unit-index parts)
    ∙ ap (λ n. sum_to_int n parts) (sym (add-one c.loop-unit.unit-index))

pub returns : goal.returns
returns c =
    let all : c.loop-unit.unit-index ≡ length c.args.self.now.units.now = omega arith in
    c.loop-unit.invariant
    ∙ ap (λ n. sum_to_int n (parts_of c.args.self.now.units.now c.args.self.now.used c.args.owner c.args.category)) all
    ∙ sym (subtotal_is c.args.self.now.units.now c.args.self.now.used c.args.owner c.args.category)
