use Rattle.session.proofs.run.call.Goals as goal

pub returns-in-Declare : goal.returns-in-Declare
returns-in-Declare g c = record { told = λ h k. rw c.in-Declare.is (c.declare.ensures.told h _ _ _ k) }

pub returns-in-Withdraw : goal.returns-in-Withdraw
returns-in-Withdraw g c = record { told = λ h k. rw c.in-Withdraw.is (c.withdraw.ensures.told h _ _ _ k) }

pub returns-in-Claim : goal.returns-in-Claim
returns-in-Claim g c = record { told = λ h k. rw c.in-Claim.is (c.claim.ensures.told h _ _ _ k) }

pub returns-in-HandBack : goal.returns-in-HandBack
returns-in-HandBack g c = record { told = λ h k. rw c.in-HandBack.is (c.hand_back.ensures.told h _ _ _ k) }
