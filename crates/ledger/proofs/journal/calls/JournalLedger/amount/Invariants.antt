use Rattle.std.proofs.Common.{◌≡◌}
use Rattle.ledger.specs.Journal.{owed_in}
use Rattle.ledger.proofs.journal.calls.JournalLedger.amount.Given as goal

abbrev pub invariant-loop-record : goal.invariant-loop-record
invariant-loop-record l = l.sum ≡ owed_in l.self.bytes.now l.record-index l.party l.serial
