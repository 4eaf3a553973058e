use Rattle.std.proofs.Common.{◌≡◌, ℕ, cond, ◌&&◌, ltb, rules}
use Rattle.foundation.specs.Sums.{listed}
use Rattle.foundation.proofs.Arrays.{made_at}
use Rattle.sampling.specs.Factors.{factor_of, is_factored}
use Rattle.recovery.proofs.weights.causers.Goals as goal

pub returns : goal.returns
returns c = λ k l.
    made_at _
    (λ (p : ℕ) (y : ℕ). y ≡ cond (is_factored c.args.factors.now p && ltb 0 (listed c.args.energies.now p)) (factor_of c.args.factors.now p) 0)
    _ (λ p y q h. search rules) _ _ c.from_fn.ensures.items k 0 l
