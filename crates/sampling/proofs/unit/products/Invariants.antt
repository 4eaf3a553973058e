use Rattle.std.proofs.Common.{◌≡◌}
use Rattle.foundation.specs.Sums.{sum_to_int}
use Rattle.sampling.specs.declared.category.Category.{Category}
use Rattle.sampling.specs.Category.{sum_in}
use Rattle.sampling.proofs.Products.{products_of}
use Rattle.sampling.proofs.unit.products.Given as goal

abbrev pub invariant-loop-k : goal.invariant-loop-k
invariant-loop-k l = (c : Category) → sum_in l.sums c ≡ sum_to_int l.k (products_of l.indicator l.values l.raise l.lower c)
