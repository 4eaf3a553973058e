use Rattle.std.proofs.Common.{◌*◌, vec_items}
use Rattle.settle.specs.Sheet.{texts}
use Rattle.settle.proofs.Termed.{Begun}
use Rattle.settle.proofs.terms.all.Given as goal

abbrev pub invariant-loop-words : goal.invariant-loop-words
invariant-loop-words l = Begun (texts l.fn.words) (3 * l.words-index) (vec_items l.terms)
