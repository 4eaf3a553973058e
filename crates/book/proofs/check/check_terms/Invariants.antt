use Rattle.std.proofs.Common.{◌≡◌, ℕ, ◌<◌, None}
use Rattle.foundation.specs.Fault.{unless_in}
use Rattle.book.specs.Calls.{is_term}
use Rattle.book.proofs.check.check_terms.Given as goal

abbrev pub invariant-loop-place : goal.invariant-loop-place
invariant-loop-place l = (k : ℕ) → k < l.place → unless_in 3 (is_term l.terms k) 2 k ≡ None
