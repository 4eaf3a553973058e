use Rattle.std.proofs.Common.{◌/◌, ◌<◌, ◌≤◌, length, sym, ◌∙◌, arith}
use Rattle.std.proofs.lemmas.List.{length-take-le}
use Rattle.foundation.proofs.Signed.{running_fits, running_is}
use Rattle.ledger.specs.Journal.{owed_in}
use Rattle.ledger.proofs.Journals.{line_size, owed_next, owed_size}
use Rattle.ledger.proofs.Records.{entry_taken}
use Rattle.ledger.proofs.journal.calls.JournalLedger.amount.Goals as goal

pub overflow_add-sum : goal.overflow_add-sum
overflow_add-sum c =
    let self = c.args.self.now in
    let b = self.bytes.now in
    let k = c.loop-record.record-index in
    let room : self.written ≤ length b / 16 = omega (arith, self.inside) in
    let few : k < self.written = omega (arith, length-take-le self.written c.as_chunks.result.0.now (omega (arith, c.as_chunks.ensures.front_len)), c.loop-record-test.true) in
    let at = entry_taken b c.as_chunks.result.0.now (length b / 16) self.written k c.from.result c.as_chunks.ensures.front room few c.from.ensures in
    let sum = owed_size b k (λ j l. self.lines j (omega (arith, l, few))) c.args.party c.args.serial in
    let line = line_size b k _ c.from.result c.line_of-sum.result at c.line_of-sum.ensures (self.lines k few) in
    rw c.loop-record.invariant (running_fits (owed_in b k c.args.party c.args.serial) c.line_of-sum.result (omega (arith, sum, few, self.inside)) (omega (arith, line)))

pub loop-record-preserved : goal.loop-record-preserved
loop-record-preserved c =
    let self = c.args.self.now in
    let b = self.bytes.now in
    let k = c.loop-record.record-index in
    let room : self.written ≤ length b / 16 = omega (arith, self.inside) in
    let few : k < self.written = omega (arith, length-take-le self.written c.as_chunks.result.0.now (omega (arith, c.as_chunks.ensures.front_len)), c.loop-record-test.true) in
    let at = entry_taken b c.as_chunks.result.0.now (length b / 16) self.written k c.from.result c.as_chunks.ensures.front room few c.from.ensures in
    let sum = owed_size b k (λ j l. self.lines j (omega (arith, l, few))) c.args.party c.args.serial in
    let line = line_size b k _ c.from.result c.line_of-sum.result at c.line_of-sum.ensures (self.lines k few) in
    rw c.loop-record.invariant
    (running_is (owed_in b k c.args.party c.args.serial) c.line_of-sum.result (omega (arith, sum, few, self.inside)) (omega (arith, line))
    ∙ sym (owed_next b k c.args.party c.args.serial c.from.result c.line_of-sum.result at c.line_of-sum.ensures))
