use Rattle.session.proofs.run.declare.Goals as goal

pub returns-in-Ok : goal.returns-in-Ok
returns-in-Ok c = record { told = λ h owed f e k. c.in-Ok.ensures.told h owed k }
