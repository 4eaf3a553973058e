use Rattle.recovery.proofs.Worked.{worked}
use Rattle.book.proofs.Worked.{worked as worked_payments}
use Rattle.figures.proofs.worked_recoveries.Goals as goal

pub returns : goal.returns
returns c = record { recovery = worked; payments = worked_payments }
