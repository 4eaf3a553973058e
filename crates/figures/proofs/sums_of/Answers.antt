use Rattle.std.proofs.Common.{rules}
use Rattle.figures.proofs.sums_of.Goals as goal

pub returns : goal.returns
returns c category = search (rules, c.sums_by.ensures category)
