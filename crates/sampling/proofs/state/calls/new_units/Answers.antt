use Rattle.std.proofs.Common.{◌≡◌, ℕ, ℤ, pos, refl, ap, ◌∙◌, map, vec_items, rules, tests}
use Rattle.std.specs.Result.{IfOk}
use Rattle.std.proofs.lemmas.Iterator.{YieldsList-from_slice, YieldsList-from_map, items_from_collect}
use Rattle.sampling.specs.declared.category.Sums.{Sums}
use Rattle.sampling.specs.declared.unit.Unit.{Unit}
use Rattle.sampling.specs.Units.{new_unit, no_sums}
use Rattle.sampling.proofs.state.calls.new_units.Goals as goal

four : (a b c d : ℤ) → a ≡ pos 0 → b ≡ pos 0 → c ≡ pos 0 → d ≡ pos 0 → ◌≡◌ {A = Sums} (record { raise_not_enabled = a; raise_enabled = b; lower_not_enabled = c; lower_enabled = d }) no_sums
four a b c d e f g h = rw (e, f, g, h) refl

-- a unit as it is made
made : (u : Unit) (o : ℕ) → u.owner ≡ o → (u.sums.raise_not_enabled ≡ pos 0) × ((u.sums.raise_enabled ≡ pos 0) × ((u.sums.lower_not_enabled ≡ pos 0) × (u.sums.lower_enabled ≡ pos 0))) → u ≡ new_unit o
made u o e h = ap (λ s. record { owner = u.owner; sums = s }) (four _ _ _ _ h.0 h.1.0 h.1.1.0 h.1.1.1) ∙ ap new_unit e

pub returns-clause-made : goal.returns-clause-made
returns-clause-made c =
    let collected : IfOk c.collect.result (λ v. vec_items v ≡ map new_unit c.args.owners.now) =
    items_from_collect _ c.collect.ensures.ran (YieldsList-from_map _ new_unit (YieldsList-from_slice c.args.owners.now cc) c.map.ensures.closure (λ x r q k. search (rules, tests, made))) in
    search (rules, collected)
