use Rattle.std.proofs.Common.{arith}
use Rattle.foundation.specs.Sums.{listed}
use Rattle.foundation.proofs.Shares.{share_le}
use Rattle.recovery.proofs.split.Split.over.Goals as goal

-- no share is above the part
pub joined-requires : goal.joined-requires
joined-requires c p l =
    let first = listed c.args.weights.causers in
    let second = listed c.args.weights.customers in
    let rest = listed c.shares-of_causers.result 64 in
    omega (
      arith,
      c.requires.part,
      c.shares-of_causers.ensures.shares p (omega arith),
      c.shares-of_causers.ensures.shares 64 (omega arith),
      c.shares-of_customers.ensures.shares p l,
      share_le c.args.part 65 first p (omega arith),
      share_le c.args.part 65 first 64 (omega arith),
      share_le rest 64 second p l,
    )
