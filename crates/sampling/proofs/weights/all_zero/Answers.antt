use Rattle.std.proofs.Common.{eqb, ◌∙◌, rules, tests}
use Rattle.std.proofs.lemmas.Iterator.{YieldsList-from_slice}
use Rattle.std.proofs.lemmas.Iterator.Search.{all_from_yields_List}
use Rattle.foundation.proofs.Lists.{all_places}
use Rattle.sampling.proofs.weights.all_zero.Goals as goal

pub returns : goal.returns
returns c =
    all_from_yields_List (λ x. eqb x 0) _ _ _ c.all.ensures.ran (YieldsList-from_slice c.args.weights.now cc) (λ x b q h. search (rules, tests))
    ∙ all_places (λ x. eqb x 0) c.args.weights.now 0
