use Rattle.std.proofs.Common.{◌*◌, ap, ◌∙◌}
use Rattle.book.specs.Calls.{payment}
use Rattle.book.proofs.term.payment.Goals as goal

pub returns : goal.returns
unfolding payment
returns c = ap (λ v. v * c.enabled.result) c.from.ensures ∙ ap (λ z. c.args.value * z) c.enabled.ensures.value
