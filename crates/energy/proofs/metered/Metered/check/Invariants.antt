use Rattle.std.proofs.Common.{◌≡◌, ℕ, ◌<◌, ◌≤◌, None}
use Rattle.foundation.specs.Sums.{sum_to}
use Rattle.energy.specs.Metered.{kwh_at, record_fault}
use Rattle.energy.proofs.metered.Metered.check.Given as goal

abbrev pub invariant-loop-k : goal.invariant-loop-k
invariant-loop-k l = record { sum : l.sum ≡ sum_to l.k (kwh_at l.bytes); room : l.sum ≤ 40000000; good : (j : ℕ) → j < l.k → record_fault l.bytes j ≡ None }
