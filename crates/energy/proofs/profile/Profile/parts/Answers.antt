use Rattle.std.proofs.Common.{◌≡◌, ℕ, ◌<◌, ◌∙◌, w16, Fits, ap, arith, rules}
use Rattle.foundation.specs.Division.{share}
use Rattle.foundation.specs.Sums.{listed}
use Rattle.foundation.proofs.Arrays.{made_at}
use Rattle.foundation.proofs.Shares.{share_eq}
use Rattle.foundation.proofs.Sums.{sum_to_bound}
use Rattle.energy.proofs.profile.Profile.parts.Goals as goal

pub shares-requires : goal.shares-requires
shares-requires c =
    let w = listed c.args.self.now.weights in
    let same : (p : ℕ) → p < 64 → listed c.from_fn.result p ≡ w p = λ p l. made_at _ (λ (q : ℕ) (y : ℕ). y ≡ w q) _ (λ q y f h. search rules) _ _ c.from_fn.ensures.items p 0 l in
    let small : (p : ℕ) → Fits w16 (w p) = λ p. search rules in
    (omega arith, omega (arith, sum_to_bound 64 65535 (listed c.from_fn.result) (λ p l. omega (arith, same p l, (small p).fits))))

pub returns : goal.returns
returns c p l =
    let w = listed c.args.self.now.weights in
    let same : (q : ℕ) → q < 64 → listed c.from_fn.result q ≡ w q = λ q m. made_at _ (λ (r : ℕ) (y : ℕ). y ≡ w r) _ (λ r y f h. search rules) _ _ c.from_fn.ensures.items q 0 m in
    c.shares.ensures.shares p l
    ∙ ap (λ a. share a 64 (listed c.from_fn.result) p) c.from.ensures
    ∙ share_eq (listed c.args.self.now.totals c.args.region) 64 (listed c.from_fn.result) w same p l
