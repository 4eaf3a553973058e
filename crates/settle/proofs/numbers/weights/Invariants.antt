use Rattle.std.proofs.Common.{◌≡◌, ◌-◌, length, take, drop, replicate}
use Rattle.settle.specs.Numbers.{Numbers}
use Rattle.settle.specs.Sheet.{texts}
use Rattle.settle.proofs.numbers.weights.Given as goal

abbrev pub invariant-loop-party : goal.invariant-loop-party
invariant-loop-party l = record {
  long : length l.weights ≡ 64;
  read : Numbers 65535 (texts (take l.party l.words)) (take l.party l.weights);
  rest : drop l.party l.weights ≡ replicate (64 - l.party) 0;
}
