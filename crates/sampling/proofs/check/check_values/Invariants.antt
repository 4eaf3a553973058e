use Rattle.std.proofs.Common.{◌≡◌, ℕ, ◌<◌, get_or, pos, None}
use Rattle.sampling.specs.Interval.{value_fault}
use Rattle.sampling.proofs.check.check_values.Given as goal

abbrev pub invariant-loop-value : goal.invariant-loop-value
invariant-loop-value l = (k : ℕ) → k < l.value-index → value_fault l.place l.limit (get_or l.values k (pos 0)) ≡ None
