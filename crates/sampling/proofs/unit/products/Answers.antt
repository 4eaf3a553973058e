use Rattle.std.proofs.Common.{◌≡◌, ◌+◌, get_or, pos, nat_abs, refl, sym, ap, ◌∙◌, arith, w16, SFits, rules}
use Rattle.std.proofs.lemmas.Int.{to_z-of_z}
use Rattle.foundation.proofs.Sums.{sum_to_int_none}
use Rattle.sampling.specs.declared.category.Category.{Category}
use Rattle.sampling.specs.declared.category.Category.TheVariants.{RaiseNotEnabled, RaiseEnabled, LowerNotEnabled, LowerEnabled}
use Rattle.sampling.specs.declared.category.Sums.{Sums}
use Rattle.sampling.specs.Category.{sum_in}
use Rattle.sampling.proofs.Products.{products_bound, products_more}
use Rattle.sampling.proofs.unit.products.Goals as goal

none_summed : (s : Sums) → (s.raise_not_enabled ≡ pos 0) × ((s.raise_enabled ≡ pos 0) × ((s.lower_not_enabled ≡ pos 0) × (s.lower_enabled ≡ pos 0))) → (c : Category) → sum_in s c ≡ pos 0
none_summed s h RaiseNotEnabled = h.0
none_summed s h RaiseEnabled = h.1.0
none_summed s h LowerNotEnabled = h.1.1.0
none_summed s h LowerEnabled = h.1.1.1

pub loop-k-init : goal.loop-k-init
loop-k-init c = λ d. none_summed c.default-sums.result c.default-sums.ensures d ∙ sym (sum_to_int_none _)

pub count-requires : goal.count-requires
count-requires c d =
    let bound = products_bound c.args.indicator.now c.args.values.now c.args.raise c.args.lower d c.loop-k.k (omega (arith, c.told-values)) (c.told-indicator ∙ sym c.told-values) c.requires.indicated c.requires.deviated in
    omega (arith, bound, ap nat_abs (c.loop-k.invariant d))

pub loop-k-preserved : goal.loop-k-preserved
loop-k-preserved c = λ d.
    let k = c.loop-k.k in
    let f : SFits w16 (get_or c.args.indicator.now k (pos 0)) = search rules in
    let g : SFits w16 (get_or c.args.values.now k (pos 0)) = search rules in
    products_more c.args.indicator.now c.args.values.now c.args.raise c.args.lower d k (k + 1) _ _ _ _ refl refl refl (c.loop-k.invariant d) (simp to_z-of_z at (c.count.ensures d))
