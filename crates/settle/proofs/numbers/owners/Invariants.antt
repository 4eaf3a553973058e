use Rattle.std.proofs.Common.{take, vec_items}
use Rattle.settle.specs.Numbers.{Numbers}
use Rattle.settle.specs.Sheet.{texts}
use Rattle.settle.proofs.numbers.owners.Given as goal

abbrev pub invariant-loop-word : goal.invariant-loop-word
invariant-loop-word l = Numbers 255 (texts (take l.word-index l.words)) (vec_items l.owners)
