use Rattle.std.proofs.Common.{cond, pos, ◌+ℤ◌, sym, ap, ◌∙◌, arith, w16}
use lib.IntN.{+ℤ_idr}
use Rattle.std.proofs.lemmas.Int.{to_z-of_z}
use Rattle.sampling.specs.Category.{same, sum_in}
use Rattle.sampling.proofs.Products.{product_some, product_none}
use Rattle.foundation.proofs.Signed.{product_small, product_is}
use Rattle.sampling.proofs.category.Sums.count.Goals as goal

pub add-requires : goal.add-requires
add-requires c = record {
  sums = c.requires;
  product = rw (product_is c.args.deviation c.args.indicator c.ranges.deviation c.ranges.indicator) (omega (arith, product_small c.args.deviation c.args.indicator c.ranges.deviation c.ranges.indicator));
}

pub returns-in-Some : goal.returns-in-Some
returns-in-Some c d =
    let e = simp (to_z-of_z w16 c.args.indicator c.ranges.indicator) at c.in-Some.ensures in
    c.add.ensures d ∙ ap (λ z. sum_in c.args.self.now d +ℤ z) (ap (λ z. cond (same d c.in-Some.category) z (pos 0)) (product_is c.args.deviation c.args.indicator c.ranges.deviation c.ranges.indicator) ∙ sym (product_some d _ c.args.indicator c.args.raise c.args.lower c.args.deviation (sym e)))

pub returns-in_default : goal.returns-in_default
returns-in_default c d =
    let e = simp (to_z-of_z w16 c.args.indicator c.ranges.indicator) at c.in_default.ensures in
    sym (ap (λ z. sum_in c.args.self.now d +ℤ z) (product_none d c.args.indicator c.args.raise c.args.lower c.args.deviation (sym e)) ∙ +ℤ_idr (sum_in c.args.self.now d))
