use Rattle.std.proofs.Common.{◌≡◌, ℕ, ◌<◌, true, false, ◌&&◌, ltb, List, length, Some, None, Option, sym, ap, arith, rules, tests}
use Rattle.std.specs.Option.{MatchOption}
use Rattle.std.specs.List.{AllWithin, HoldsAt}
use Rattle.std.proofs.lemmas.Iterator.{YieldsList-from_slice, IsFirst-from_position}
use Rattle.foundation.specs.Fault.{unless_in}
use Rattle.foundation.proofs.First.{first_to_all, first_to_at}
use Rattle.energy.specs.Energy.{member}
use Rattle.book.specs.declared.term.Term.{Term}
use Rattle.book.specs.Calls.{region_at}
use Rattle.book.specs.Checks.{outer_fault}
use Rattle.book.specs.Table.{outside_fault}
use Rattle.book.proofs.Terms.{member_is, no_term}
use Rattle.book.proofs.term.first_outside.Goals as goal

module _ (D : ℕ) where
  abbrev Outside : Term → Type 0
  Outside t = (ltb t.region 5 && member D t.region) ≡ false

  abbrev Inside : Term → Type 0
  Inside t = (ltb t.region 5 && member D t.region) ≡ true

  by_terms : (ts : List Term) (r : Option ℕ) → ((k : ℕ) → k < length ts → region_at ts k < 5) → MatchOption r (AllWithin Inside ts 0 (length ts)) (λ i. (i < length ts) × HoldsAt Outside ts i × AllWithin Inside ts 0 i) → outside_fault r ≡ outer_fault D ts
  by_terms ts None low h = sym (first_to_all _ _ (λ k l. ap (λ t. unless_in 3 t 12 k) (member_is D (region_at ts k) true (low k l) (sym (h k no_term (omega arith) l)))))
  by_terms ts (Some i) low h =
      sym (first_to_at _ _ i _ h.0 (λ k l. ap (λ t. unless_in 3 t 12 k) (member_is D (region_at ts k) true (low k (omega (arith, h.0))) (sym (h.2 k no_term (omega arith) l)))) (ap (λ t. unless_in 3 t 12 i) (member_is D (region_at ts i) false (low i h.0) (sym (h.1 no_term)))))

pub returns : goal.returns
returns c =
    let ts = c.args.terms.now in
    let D = c.args.regions in
    by_terms D ts c.position.result c.requires (IsFirst-from_position c.position.new.self _ c.position.result (Outside D) (Inside D) c.position.ensures.ran (YieldsList-from_slice ts (cc)) (λ x q h. search (rules, tests)) (λ x q h. search (rules, tests)))
