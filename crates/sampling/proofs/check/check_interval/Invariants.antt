use Rattle.std.proofs.Common.{◌≡◌, ℕ, suc, ◌<◌, None}
use Rattle.sampling.specs.Interval.{record_fault}
use Rattle.sampling.proofs.check.check_interval.Given as goal

-- a unit's record is judged without regard to the last interval used, so that 0 stands for it here
abbrev pub invariant-loop-unit : goal.invariant-loop-unit
invariant-loop-unit l = (l.reader.place ≡ suc l.unit) × (l.reader.bytes.now ≡ l.bytes) × ((k : ℕ) → k < l.unit → record_fault 0 l.bytes (suc k) ≡ None)
