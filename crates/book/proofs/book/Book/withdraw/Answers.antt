use Rattle.std.proofs.Common.{◌≡◌, ℕ, None, sym, ap, ◌∙◌}
use Rattle.std.proofs.lemmas.Result.{err_from_is_err_and}
use Rattle.book.specs.declared.state.table.Event.TheVariants.{Withdraw}
use Rattle.book.specs.declared.state.State.TheVariants.{Free}
use Rattle.book.specs.Calls.{changed}
use Rattle.book.specs.States.{state_in}
use Rattle.book.specs.Table.{table_fault}
use Rattle.book.proofs.Histories.{kept_refused}
use Rattle.book.proofs.Telling.{told_withdraw}
use Rattle.book.proofs.Judged.{withdraw_late}
use Rattle.book.proofs.Nexts.{withdraw_next}
use Rattle.book.proofs.book.Book.withdraw.Goals as goal

pub returns-in_err-check_number-clause-told : goal.returns-in_err-check_number-clause-told
returns-in_err-check_number-clause-told c =
    let p = err_from_is_err_and c.from_residual.result c.from_residual.ensures.1 in
    λ h owed k. rw p.1 (kept_refused h _ _ owed k)

pub returns-in_err-next-clause-answer : goal.returns-in_err-next-clause-answer
returns-in_err-next-clause-answer c =
    let p = err_from_is_err_and c.from_residual-in_err-next.result c.from_residual-in_err-next.ensures.1 in
    let state = state_in c.args.self.now.states c.args.number in
    rw (p.1, p.2) (withdraw_late c.args.number state _ c.in_ok-check_number.ensures (c.in_err-next.ensures.answer ∙ ap (λ s. table_fault s Withdraw) c.state.ensures))

pub returns-in_err-next-clause-told : goal.returns-in_err-next-clause-told
returns-in_err-next-clause-told c =
    let p = err_from_is_err_and c.from_residual-in_err-next.result c.from_residual-in_err-next.ensures.1 in
    λ h owed k. rw p.1 (kept_refused h _ _ owed k)

pub returns-clause-told : goal.returns-clause-told
returns-clause-told c =
    let states = state_in c.args.self.now.states in
    let next = c.in_ok-next.ensures.value ∙ withdraw_next c.state.result c.in_ok-next.ensures.answer in
    let none = withdraw_late c.args.number (states c.args.number) None c.in_ok-check_number.ensures (c.in_ok-next.ensures.answer ∙ ap (λ s. table_fault s Withdraw) c.state.ensures) in
    let after : (n : ℕ) → state_in c.put.new.self.states n ≡ changed c.args.number Free states n = λ n. c.put.ensures.states n ∙ ap (λ s. changed c.args.number s states n) next in
    λ h owed k. rw c.put.ensures.count (told_withdraw h _ _ _ c.args.number owed (sym none) after k)
