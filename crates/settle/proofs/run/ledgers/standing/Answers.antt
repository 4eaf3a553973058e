use Rattle.std.proofs.Common.{◌≡◌, ◌+◌, ◌-◌, sym, ap, arith}
use Rattle.foundation.proofs.Sums.{sum_to_none}
use Rattle.settle.specs.Standing.{standing_under_serial}
use Rattle.settle.proofs.Counts.{standing_few, standing_more}
use Rattle.settle.proofs.run.ledgers.standing.Goals as goal

pub loop-serial-init : goal.loop-serial-init
loop-serial-init g c = (sym (sum_to_none _), omega arith)

pub loop-serial-preserved : goal.loop-serial-preserved
loop-serial-preserved g c =
    let owed = g.L.Ledger.owed c.args.ledger.now in
    let n = c.loop-serial.serial - 1 in
    let same : c.loop-serial.serial ≡ n + 1 = omega arith in
    let on : c.loop-serial.serial + 1 - 1 ≡ n + 1 = omega arith in
    let here = ap (λ s. standing_under_serial owed s 64) same in
    rw on (
      omega (arith, c.loop-serial.invariant.0, c.standing_under-count.ensures, here, standing_more owed n),
      omega (arith, c.loop-serial.invariant.1, c.standing_under-count.ensures, standing_few owed c.loop-serial.serial 64),
    )

pub overflow_add-count : goal.overflow_add-count
overflow_add-count g c =
    let owed = g.L.Ledger.owed c.args.ledger.now in
    omega (arith, c.loop-serial.invariant.1, c.standing_under-count.ensures, standing_few owed c.loop-serial.serial 64)

pub returns : goal.returns
returns g c =
    let all : c.loop-serial.serial - 1 ≡ 32 = omega arith in
    rw all at c.loop-serial.invariant.0
