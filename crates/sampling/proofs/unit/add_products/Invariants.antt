use Rattle.std.proofs.Common.{◌≡◌, suc}
use Rattle.sampling.proofs.Units.{Sofar}
use Rattle.sampling.proofs.unit.add_products.Given as goal

abbrev pub invariant-loop-unit : goal.invariant-loop-unit
invariant-loop-unit l = record { next : l.reader.place ≡ suc l.unit-index; lent : l.reader.bytes.now ≡ l.bytes; sofar : Sofar l.bytes l.initial.units l.units l.unit-index }
