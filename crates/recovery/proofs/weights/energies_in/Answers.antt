use Rattle.std.proofs.Common.{◌≡◌, ℕ, rules, sym, ap, ◌∙◌}
use Rattle.foundation.specs.Sums.{sum_to}
use Rattle.foundation.proofs.Arrays.{made_at}
use Rattle.energy.specs.Energy.{within}
use Rattle.energy.specs.Table.{figure_of}
use Rattle.recovery.proofs.Laws.{held_is}
use Rattle.recovery.proofs.weights.energies_in.Goals as goal

pub returns : goal.returns
returns c = λ k l.
    made_at _ (λ (p : ℕ) (y : ℕ). y ≡ sum_to 5 (within c.new-island.result.regions (figure_of c.new-island.result.below.rows) p))
    _ (λ p y q h. search rules) _ _ c.from_fn.ensures.items k 0 l
    ∙ ap (λ f. sum_to 5 (within c.new-island.result.regions (figure_of f.rows) k)) c.new-island.ensures.made.0
    ∙ ap (λ D. sum_to 5 (within D (figure_of c.args.figures.rows) k)) c.new-island.ensures.made.1
    ∙ sym (held_is c.args.regions (figure_of c.args.figures.rows) k)
