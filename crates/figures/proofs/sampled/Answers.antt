use Rattle.std.proofs.Common.{sym, subst, arith}
use Rattle.figures.specs.Samples.{Encodes}
use Rattle.figures.proofs.sampled.Goals as goal

pub returns : goal.returns
returns c = record {
  bytes = c.as_slice.result.now;
  encoded = subst (Encodes 0 c.args.indicator c.args.readings.now) (sym c.as_slice.ensures.value) c.in_ok-bytes.ensures;
  gone = c.in_ok-add_interval.ensures.told _ (c.in_ok-register.ensures.told _ c.open-sampling.ensures.told);
  used = omega (arith, c.in_ok-add_interval.ensures.used, c.in_ok-register.ensures.kept.0, c.open-sampling.ensures.used);
}
