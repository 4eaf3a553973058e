use Rattle.std.proofs.Common.{◌≡◌, ℕ, ◌<◌, Bool, true, false, not, eqb, List, length, sym, ap, arith, rules, tests}
use Rattle.std.specs.Bool.{MatchBool}
use Rattle.std.specs.List.{AllWithin, HoldsAt}
use Rattle.std.proofs.lemmas.Iterator.{YieldsList-from_slice, cases_from_any}
use Rattle.foundation.proofs.First.{all_to_all, all_to_bad}
use Rattle.book.specs.declared.term.Term.{Term}
use Rattle.book.specs.Checks.{is_delayed}
use Rattle.book.proofs.Terms.{no_term}
use Rattle.book.proofs.term.is_delayed.Goals as goal

abbrev Other : Term → Type 0
Other t = eqb t.service 1 ≡ false

abbrev Regular : Term → Type 0
Regular t = eqb t.service 1 ≡ true

by_terms : (ts : List Term) (r : Bool) → MatchBool r ((k : ℕ) × (k < length ts) × HoldsAt Other ts k) (AllWithin Regular ts 0 (length ts)) → r ≡ is_delayed ts
by_terms ts true h = sym (ap not (all_to_bad _ _ h.0 h.1 (h.2 no_term)))
by_terms ts false h = sym (ap not (all_to_all _ _ (λ k l. h k no_term (omega arith) l)))

pub returns : goal.returns
returns c =
    let ts = c.args.terms.now in
    by_terms ts c.any.result (cases_from_any c.any.new.self _ c.any.result Other Regular c.any.ensures.ran (YieldsList-from_slice ts (cc)) (λ x q h. search (rules, tests)) (λ x q h. search (rules, tests)))
