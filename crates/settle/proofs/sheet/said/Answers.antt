use Rattle.std.proofs.Common.{Some, None, sym, ap, ◌∙◌, lit<}
use Rattle.std.proofs.lemmas.Str.Pattern.{split_parts}
use Rattle.settle.specs.Sheet.{said_of}
use Rattle.settle.proofs.Cut.{said_before, said_all}
use Rattle.settle.proofs.sheet.said.Goals as goal

pub returns-in-Some : goal.returns-in-Some
returns-in-Some c =
    let comment = c.in-Some.field-0-1 in
    let parts = split_parts 35 c.args.line.now (Some (c.in-Some.said, comment)) c.in-Some.ensures.cases (lit< tt) in
    said_before c.in-Some.said.now comment.now parts.1 ∙ ap said_of (sym parts.0)

pub returns-in-None : goal.returns-in-None
returns-in-None c = said_all c.args.line.now (split_parts 35 c.args.line.now None c.in-None.ensures.cases (lit< tt))
