use Rattle.std.proofs.Common.{◌≡◌, ℕ, ◌<◌, List, [], arith, rules}
use Rattle.foundation.specs.Sums.{listed}
use Rattle.foundation.proofs.Arrays.{made_at}
use Rattle.energy.specs.Table.{figure_of}
use Rattle.energy.specs.Totals.{grand_eq}
use Rattle.energy.proofs.figures.Figures.copied.Goals as goal

pub returns : goal.returns
returns g c =
    let f = g.E.EnergySource.kwh c.args.source.now in
    λ p r l m. made_at _ (λ (i : ℕ) (row : List ℕ). (s : ℕ) → s < 5 → listed row s ≡ f i s) _ (λ i y q h. search rules) _ _ c.from_fn.ensures.items p [] l r m

pub invariant_of-result : goal.invariant_of-result
invariant_of-result g c =
    let f = g.E.EnergySource.kwh c.args.source.now in
    record { limited = omega (arith, grand_eq (figure_of c.from_fn.result) f (λ p r l m. made_at _ (λ (i : ℕ) (row : List ℕ). (s : ℕ) → s < 5 → listed row s ≡ f i s) _ (λ i y q h. search rules) _ _ c.from_fn.ensures.items p [] l r m), g.met.E.EnergySource.bounded c.args.source.now) }
