use Rattle.std.proofs.Common.{◌<◌, length, sym, ap, ◌∙◌, arith}
use Rattle.std.specs.List.{position}
use Rattle.std.proofs.lemmas.Slice.{between_to_end}
use Rattle.settle.specs.Choice.{chooses_ledger}
use Rattle.settle.specs.declared.sheet.Line.{Line}
use Rattle.settle.proofs.Chosen.{none_past, none_from, first_from}
use Rattle.settle.proofs.sheet.choosing.Goals as goal

pub returns-in_err-get : goal.returns-in_err-get
returns-in_err-get c =
    let past : length c.args.lines.now < c.args.from = omega (arith, c.in_err-get.ensures.lookup.0) in
    rw c.from_residual.ensures (none_past c.args.lines.now c.args.from past)

pub returns-in_err-after : goal.returns-in_err-after
returns-in_err-after c =
    let lines = c.args.lines.now in
    let rest = c.in_ok-get.ensures.lookup.0.2 ∙ between_to_end lines c.args.from (length lines) (omega arith) in
    let none = sym (c.in_err-after.ensures ∙ ap (position (λ (line : Line). chooses_ledger line.step)) rest) in
    rw c.from_residual-in_err-after.ensures (none_from lines c.args.from none)

pub returns : goal.returns
returns c =
    let lines = c.args.lines.now in
    let rest = c.in_ok-get.ensures.lookup.0.2 ∙ between_to_end lines c.args.from (length lines) (omega arith) in
    let some = sym (c.in_ok-after.ensures ∙ ap (position (λ (line : Line). chooses_ledger line.step)) rest) in
    first_from lines c.args.from c.in_ok-after.after some
