use Rattle.std.proofs.Common.{◌≡◌, ◌∙◌, ◌<◌, ◌^◌, sum, rules, arith}
use Rattle.foundation.proofs.Lists.{sum_places}
use Rattle.foundation.proofs.division.total.Goals as goal

pub sum-requires-clause-fits : goal.sum-requires-clause-fits
sum-requires-clause-fits c =
    let fits : sum c.args.weights.now < 2 ^ 64 = omega (arith, sum_places c.args.weights.now) in
    search rules

pub returns : goal.returns
returns c =
    let all : c.sum.result ≡ sum c.args.weights.now = search rules in
    all ∙ sum_places c.args.weights.now
