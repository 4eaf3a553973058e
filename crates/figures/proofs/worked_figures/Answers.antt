use Rattle.std.proofs.Common.{refl}
use Rattle.foundation.specs.Division.{share}
use Rattle.foundation.specs.Sums.{sum_to}
use Rattle.sampling.specs.Category.{product_in}
use Rattle.figures.proofs.worked_figures.Goals as goal

pub returns : goal.returns
unfolding share sum_to product_in
returns c = record {
  division = (refl, refl, refl);
  product = λ lower. (refl, refl, refl, refl);
  steady = λ d raise lower deviation. refl;
  toward_zero = refl;
  weight = refl;
  factors = (refl, refl, refl);
}
