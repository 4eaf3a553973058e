use Rattle.std.proofs.Common.{vec_items}
use Rattle.settle.specs.Sheet.{texts}
use Rattle.settle.proofs.Cut.{Sofar}
use Rattle.settle.proofs.sheet.words.Given as goal

abbrev pub invariant-loop-word : goal.invariant-loop-word
invariant-loop-word l = Sofar l.text (texts (vec_items l.words)) l.word-iterator
