use Rattle.session.proofs.run.claim.Goals as goal

pub returns-in-Ok : goal.returns-in-Ok
returns-in-Ok c = record { told = λ h owed f e k. rw c.leave_open.ensures (c.in-Ok.ensures.told h owed k) }
