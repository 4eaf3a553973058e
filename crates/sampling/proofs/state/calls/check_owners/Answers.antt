use Rattle.std.proofs.Common.{◌≡◌, ℕ, cond, leb, ltb, List, length, get_or, Some, None, sym, ap, ◌∙◌, arith, rules, tests}
use Rattle.std.proofs.lemmas.Iterator.{YieldsList-from_slice}
use Rattle.std.proofs.lemmas.Iterator.Search.{position_from_yields_List}
use Rattle.std.proofs.lemmas.Bool.Decides.{nat_tests}
use Rattle.std.specs.List.{position}
use Rattle.std.specs.Option.{option_map}
use Rattle.foundation.proofs.First.{first_to_eq}
use Rattle.foundation.proofs.Lists.{position_places}
use Rattle.sampling.specs.Interval.{in_samples, unless}
use Rattle.sampling.specs.Registration.{owners_fault}
use Rattle.sampling.proofs.state.calls.check_owners.Goals as goal

above : (owner u : ℕ) → cond (ltb 64 owner) (Some (in_samples 2 u)) None ≡ unless (leb owner 64) 2 u
above owner u = grind (arith, nat_tests)

-- the first owner that is above the residual
found : (owners : List ℕ) → option_map (in_samples 2) (position (ltb 64) owners) ≡ owners_fault owners
found owners = position_places (ltb 64) (in_samples 2) owners 0 ∙ first_to_eq (length owners) _ _ (λ u l. above (get_or owners u 0) u)

pub returns-in-Some : goal.returns-in-Some
returns-in-Some c =
    let first : c.position.result ≡ position (ltb 64) c.args.owners.now = position_from_yields_List (ltb 64) _ _ c.position.result c.position.ensures.ran (YieldsList-from_slice c.args.owners.now cc) (λ x b q h. search (rules, tests)) in
    rw c.fault.ensures (ap (option_map (in_samples 2)) (sym c.in-Some.is ∙ first) ∙ found c.args.owners.now)

pub returns-in-None : goal.returns-in-None
returns-in-None c =
    let first : c.position.result ≡ position (ltb 64) c.args.owners.now = position_from_yields_List (ltb 64) _ _ c.position.result c.position.ensures.ran (YieldsList-from_slice c.args.owners.now cc) (λ x b q h. search (rules, tests)) in
    ap (option_map (in_samples 2)) (sym c.in-None.is ∙ first) ∙ found c.args.owners.now
