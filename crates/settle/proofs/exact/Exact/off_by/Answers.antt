use Rattle.std.proofs.Common.{◌≡◌, ◌*◌, ◌/◌, ◌^◌, ◌≤◌, true, false, ap, arith}
use Rattle.std.specs.Prelude.{nat_lt}
use Rattle.std.proofs.lemmas.Bool.Decides.{nat_tests}
use Rattle.settle.specs.declared.exact.OffBy.{OffBy}
use Rattle.settle.specs.declared.exact.OffBy.TheVariants.{Above, Below}
use Rattle.settle.proofs.Fractions.{product_most}
use Rattle.settle.proofs.exact.Exact.off_by.Goals as goal

pub overflow_mul-by : goal.overflow_mul-by
overflow_mul-by c =
    let exact = c.args.self.now in
    let paid : c.args.share * exact.bottom ≤ 2 ^ 64 * 2 ^ 50 = product_most c.args.share exact.bottom (2 ^ 64) (2 ^ 50) (omega arith) exact.depth in
    omega (arith, paid, exact.limit, c.abs_diff.ensures)

pub returns-then-paid-self : goal.returns-then-paid-self
returns-then-paid-self c =
    let exact = c.args.self.now in
    let above : nat_lt exact.top (c.args.share * exact.bottom) ≡ true = grind (arith, nat_tests) in
    rw above (ap {B = OffBy} (λ n. Above (record { thousandths = n * 1000 / exact.bottom })) c.abs_diff.ensures)

pub returns-else-paid-self : goal.returns-else-paid-self
returns-else-paid-self c =
    let exact = c.args.self.now in
    let below : nat_lt exact.top (c.args.share * exact.bottom) ≡ false = grind (arith, nat_tests) in
    rw below (ap {B = OffBy} (λ n. Below (record { thousandths = n * 1000 / exact.bottom })) c.abs_diff.ensures)
