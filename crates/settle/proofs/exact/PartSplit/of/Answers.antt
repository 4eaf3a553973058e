use Rattle.std.proofs.Common.{rules}
use Rattle.settle.specs.Exact.{SplitOf}
use Rattle.settle.proofs.Fractions.{bounded}
use Rattle.settle.proofs.exact.PartSplit.of.Goals as goal

pub invariant_of-result : goal.invariant_of-result
invariant_of-result g c =
    let split : SplitOf c.args.part c.args.factors.now c.in_ok-shares.shares = search rules in
    record { split = ∣ split ∣₁; bounded = bounded _ _ _ split }
