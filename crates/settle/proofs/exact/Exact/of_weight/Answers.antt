use Rattle.std.proofs.Common.{◌*◌, ◌^◌, ◌≤◌, arith}
use Rattle.settle.proofs.Fractions.{product_most}
use Rattle.settle.proofs.exact.Exact.of_weight.Goals as goal

pub invariant_of-result : goal.invariant_of-result
invariant_of-result c =
    let top : c.args.part * c.args.weight ≤ 200000000000 * 2 ^ 32 = product_most c.args.part c.args.weight 200000000000 (2 ^ 32) c.requires.part (omega arith) in
    record { divisor = c.requires.some; limit = omega (arith, top); depth = omega arith }
