use Rattle.std.proofs.Common.{◌≡◌, ℕ, suc, ◌*◌, ◌<◌, length, vec_items}
use Rattle.sampling.specs.Records.{Fields}
use Rattle.figures.specs.Samples.{Shows, unit_fields}
use Rattle.figures.proofs.samples.interval_of.Given as goal

abbrev pub invariant-loop-unit : goal.invariant-loop-unit
invariant-loop-unit l = (length (vec_items l.bytes) ≡ 156 * suc l.unit) × ((f : Fields) → Shows (vec_items l.initial.bytes) 0 f → Shows (vec_items l.bytes) 0 f) × ((u : ℕ) → u < l.unit → Shows (vec_items l.bytes) (suc u) (unit_fields l.interval l.readings u))
