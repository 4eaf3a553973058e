use Rattle.std.proofs.Common.{◌*◌, ◌^◌, ◌≤◌, arith}
use Rattle.settle.proofs.Fractions.{product_above, product_most}
use Rattle.settle.proofs.exact.Exact.of_energy.Goals as goal

pub invariant_of-result : goal.invariant_of-result
invariant_of-result c =
    let first : c.args.part * c.args.weight ≤ 200000000000 * 2 ^ 32 = product_most c.args.part c.args.weight 200000000000 (2 ^ 32) c.requires.part (omega arith) in
    let top : c.args.part * c.args.weight * c.args.energy ≤ 200000000000 * 2 ^ 32 * 40000000 = product_most (c.args.part * c.args.weight) c.args.energy (200000000000 * 2 ^ 32) 40000000 first c.requires.energy in
    let bottom : c.args.weights * c.args.energies ≤ 1000000 * 40000000 = product_most c.args.weights c.args.energies 1000000 40000000 c.requires.weights.1 c.requires.energies.1 in
    record { divisor = product_above c.args.weights c.args.energies c.requires.weights.0 c.requires.energies.0; limit = omega (arith, top); depth = omega (arith, bottom) }
