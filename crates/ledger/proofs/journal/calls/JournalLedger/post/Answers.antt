use Rattle.std.proofs.Common.{◌+◌, Ok, add-one}
use Rattle.foundation.specs.declared.fault.Fault.{Fault}
use Rattle.ledger.specs.Journal.{owed_in}
use Rattle.ledger.proofs.Journals.{holds_laid, written}
use Rattle.ledger.proofs.Postings.{holds_more}
use Rattle.ledger.proofs.journal.calls.JournalLedger.post.Goals as goal

pub invariant_of-self : goal.invariant_of-self
invariant_of-self c =
    let w = written c.args.self.now.bytes.now c.copy_from_slice.new.self _ c.args.self.now.written c.args.party c.args.serial c.args.line c.lines_left.result c.ranges.line c.ranges.party.fits c.ranges.serial.fits (record { inside = c.args.self.now.inside; lines = c.args.self.now.lines; debts = c.args.self.now.debts; sizes = c.args.self.now.sizes }) c.in_ok-check_post.ensures c.lines_left.ensures c.copy_from_slice.ensures.after c.bytes.ensures in
    record { inside = w.sure.inside; lines = w.sure.lines; debts = w.sure.debts; sizes = w.sure.sizes }

pub returns-clause-amounts : goal.returns-clause-amounts
returns-clause-amounts c = (written c.args.self.now.bytes.now c.copy_from_slice.new.self _ c.args.self.now.written c.args.party c.args.serial c.args.line c.lines_left.result c.ranges.line c.ranges.party.fits c.ranges.serial.fits (record { inside = c.args.self.now.inside; lines = c.args.self.now.lines; debts = c.args.self.now.debts; sizes = c.args.self.now.sizes }) c.in_ok-check_post.ensures c.lines_left.ensures c.copy_from_slice.ensures.after c.bytes.ensures).amounts

pub returns-clause-history : goal.returns-clause-history
returns-clause-history c =
    holds_more {A = Unit {0}} {E = Fault} (Ok tt) c.args.party c.args.serial c.args.line (owed_in c.args.self.now.bytes.now c.args.self.now.written) _ (written c.args.self.now.bytes.now c.copy_from_slice.new.self _ c.args.self.now.written c.args.party c.args.serial c.args.line c.lines_left.result c.ranges.line c.ranges.party.fits c.ranges.serial.fits (record { inside = c.args.self.now.inside; lines = c.args.self.now.lines; debts = c.args.self.now.debts; sizes = c.args.self.now.sizes }) c.in_ok-check_post.ensures c.lines_left.ensures c.copy_from_slice.ensures.after c.bytes.ensures).amounts

pub returns-clause-written : goal.returns-clause-written
returns-clause-written c h old g =
    let w = written c.args.self.now.bytes.now c.copy_from_slice.new.self _ c.args.self.now.written c.args.party c.args.serial c.args.line c.lines_left.result c.ranges.line c.ranges.party.fits c.ranges.serial.fits (record { inside = c.args.self.now.inside; lines = c.args.self.now.lines; debts = c.args.self.now.debts; sizes = c.args.self.now.sizes }) c.in_ok-check_post.ensures c.lines_left.ensures c.copy_from_slice.ensures.after c.bytes.ensures in
    holds_laid c.args.self.now.bytes.now _ old c.args.self.now.written (c.args.self.now.written + 1) h (record { party = c.args.party; serial = c.args.serial; line = c.args.line }) w.bytes (add-one c.args.self.now.written) g
