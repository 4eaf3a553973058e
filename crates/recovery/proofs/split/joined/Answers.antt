use Rattle.std.proofs.Common.{◌≡◌, ℕ, ◌+◌, rules}
use Rattle.foundation.specs.Sums.{listed}
use Rattle.foundation.proofs.Arrays.{made_at}
use Rattle.recovery.proofs.split.joined.Goals as goal

pub returns : goal.returns
returns c = λ k l.
    made_at _ (λ (p : ℕ) (y : ℕ). y ≡ listed c.args.of_causers.now p + listed c.args.of_customers.now p)
    _ (λ p y q h. search rules) _ _ c.from_fn.ensures.items k 0 l
