use Rattle.std.proofs.Common.{◌≡◌, ℕ, ◌∷◌, None, sym, refl, ap, ◌∙◌, subst}
use Rattle.std.proofs.lemmas.Result.{err_from_is_err_and}
use Rattle.recovery.specs.Recovery.{lowered, recover_fault}
use Rattle.recovery.specs.Shares.{Shared, basis_of, share_paid}
use Rattle.book.specs.declared.state.table.Event.TheVariants.{Recover}
use Rattle.book.specs.Calls.{changed, declared_in, recovered_state}
use Rattle.book.specs.States.{state_in}
use Rattle.book.specs.Table.{table_fault}
use Rattle.book.specs.History.{refused as refused-event}
use Rattle.book.specs.Kept.{Kept}
use Rattle.book.proofs.Histories.{kept_refused}
use Rattle.book.proofs.Telling.{number_from, open_from, told_recover}
use Rattle.book.proofs.Judged.{recover_table}
use Rattle.book.proofs.Nexts.{recover_next}
use Rattle.book.proofs.Open.{open_number, recovery_late}
use Rattle.book.proofs.book.Book.recover.Goals as goal

pub returns-in_err-next-clause-told : goal.returns-in_err-next-clause-told
returns-in_err-next-clause-told g c =
    let p = err_from_is_err_and c.from_residual.result c.from_residual.ensures.1 in
    λ h k. rw p.1 (kept_refused h _ _ _ k)

pub returns-in_err-outcome-clause-answer : goal.returns-in_err-outcome-clause-answer
returns-in_err-outcome-clause-answer g c =
    let p = err_from_is_err_and c.from_residual-in_err-outcome.result c.from_residual-in_err-outcome.ensures.1 in
    let book = c.args.self.now in
    let claim = c.args.claim in
    let state = state_in book.states claim.number in
    let b = basis_of claim.part c.args.factors.now (g.E.EnergySource.kwh c.args.source.now) in
    let left = g.L.Ledger.room c.args.ledger.now in
    let regions = c.regions.ensures ∙ ap declared_in c.state-state.ensures in
    let held = c.in_ok-next.ensures.answer ∙ ap (λ s. table_fault s (Recover claim)) c.state-state.ensures in
    let refused = c.in_err-outcome.ensures in
    rw (p.1, p.2) (recovery_late book.made state claim b left _ book.few (book.sound claim.number) held refl (refused.answer ∙ ap (λ d. recover_fault d b claim.serial left) regions))

pub returns-in_err-outcome-clause-told : goal.returns-in_err-outcome-clause-told
returns-in_err-outcome-clause-told g c =
    let p = err_from_is_err_and c.from_residual-in_err-outcome.result c.from_residual-in_err-outcome.ensures.1 in
    let book = c.args.self.now in
    let refused = c.in_err-outcome.ensures in
    let states = state_in book.states in
    λ h k. rw p.1 (subst (λ l. Kept (refused-event ∷ h) states book.made (g.L.Ledger.owed l)) (sym (refused.refused refl)) (kept_refused h _ _ _ k))

pub returns-clause-states : goal.returns-clause-states
returns-clause-states g c =
    let book = c.args.self.now in
    let claim = c.args.claim in
    let states = state_in book.states in
    let state = states claim.number in
    let after-states : (n : ℕ) → state_in c.put.new.self.states n ≡ changed claim.number (recovered_state state) states n = λ n. c.put.ensures.states n ∙ ap (λ s. changed claim.number s states n) (c.in_ok-next.ensures.value ∙ recover_next c.state-state.result claim ∙ ap recovered_state c.state-state.ensures) in
    after-states

pub returns-clause-told : goal.returns-clause-told
returns-clause-told g c =
    let book = c.args.self.now in
    let claim = c.args.claim in
    let states = state_in book.states in
    let state = states claim.number in
    let b = basis_of claim.part c.args.factors.now (g.E.EnergySource.kwh c.args.source.now) in
    let owed = g.L.Ledger.owed c.args.ledger.now in
    let before = g.L.Ledger.room c.args.ledger.now in
    let regions = c.regions.ensures ∙ ap declared_in c.state-state.ensures in
    let held = c.in_ok-next.ensures.answer ∙ ap (λ s. table_fault s (Recover claim)) c.state-state.ensures in
    let done = c.in_ok-outcome.ensures in
    let none = recovery_late book.made state claim b before None book.few (book.sound claim.number) held refl (done.answer ∙ ap (λ d. recover_fault d b claim.serial before) regions) in
    let after-states : (n : ℕ) → state_in c.put.new.self.states n ≡ changed claim.number (recovered_state state) states n = λ n. c.put.ensures.states n ∙ ap (λ s. changed claim.number s states n) (c.in_ok-next.ensures.value ∙ recover_next c.state-state.result claim ∙ ap recovered_state c.state-state.ensures) in
    let amounts : (q s : ℕ) → g.L.Ledger.owed c.recover.new.ledger q s ≡ lowered (share_paid (declared_in state) b) 64 claim.serial owed q s = λ q s. done.amounts q s ∙ ap (λ d. lowered (share_paid d b) 64 claim.serial owed q s) regions in
    let law = subst (λ d. Shared d b (share_paid d b)) regions done.law in
    λ h k. rw c.put.ensures.count (told_recover h _ _ _ claim.number claim owed _ c.args.factors.now (g.E.EnergySource.kwh c.args.source.now) (number_from claim.number (open_number book.states claim.number claim (held ∙ recover_table state claim))).0 (number_from claim.number (open_number book.states claim.number claim (held ∙ recover_table state claim))).1 refl (book.sound claim.number) (open_from state claim b before (sym none)) law.weighed after-states amounts k)
