use Rattle.std.proofs.Common.{◌≡◌, ℕ, ◌<◌, ◌≤◌, length, ◌∙◌, arith, rules}
use Rattle.std.specs.List.{sum_by}
use Rattle.foundation.proofs.Lists.{sum_by_places}
use Rattle.foundation.proofs.Sums.{sum_to_bound}
use Rattle.book.specs.Calls.{amount_at}
use Rattle.book.proofs.Terms.{no_term}
use Rattle.book.proofs.term.enabled.Goals as goal

pub returns-clause-value : goal.returns-clause-value
returns-clause-value c =
    let summed : c.sum.result ≡ sum_by (λ t. t.amount) c.args.terms.now = search rules in
    summed ∙ sum_by_places (λ t. t.amount) c.args.terms.now no_term

pub returns-clause-small : goal.returns-clause-small
returns-clause-small c =
    let ts = c.args.terms.now in
    let summed : c.sum.result ≡ sum_by (λ t. t.amount) ts = search rules in
    let each : (k : ℕ) → k < length ts → amount_at ts k ≤ 65535 = λ k l. search rules in
    omega (arith, summed, sum_by_places (λ t. t.amount) ts no_term, sum_to_bound (length ts) 65535 (amount_at ts) each, c.requires)
