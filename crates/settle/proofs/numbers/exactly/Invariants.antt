use Rattle.std.proofs.Common.{◌≡◌, length, take}
use Rattle.settle.specs.Numbers.{Numbers}
use Rattle.settle.specs.Sheet.{texts}
use Rattle.settle.proofs.numbers.exactly.Given as goal

abbrev pub invariant-loop-k : goal.invariant-loop-k
invariant-loop-k g l = record { long : length l.numbers ≡ g.row.N; read : Numbers l.most (texts (take l.k l.words)) (take l.k l.numbers) }
