use Rattle.std.proofs.Common.{◌≡◌, ℕ, sym, refl, ap, ◌∙◌}
use Rattle.std.proofs.lemmas.Result.{err_from_is_err_and}
use Rattle.book.specs.declared.state.table.Event.TheVariants.{HandBack}
use Rattle.book.specs.Calls.{changed, returned_state}
use Rattle.book.specs.States.{state_in}
use Rattle.book.specs.Table.{table_fault}
use Rattle.book.proofs.Histories.{kept_refused}
use Rattle.book.proofs.Telling.{number_from, open_by, told_return}
use Rattle.book.proofs.Judged.{return_table}
use Rattle.book.proofs.Nexts.{return_next}
use Rattle.book.proofs.Open.{open_number}
use Rattle.book.proofs.book.Book.take_back.Goals as goal

pub returns-in_err-next-clause-answer : goal.returns-in_err-next-clause-answer
returns-in_err-next-clause-answer c =
    let p = err_from_is_err_and c.from_residual.result c.from_residual.ensures.1 in
    let claim = c.args.claim in
    rw (p.1, p.2) (c.in_err-next.ensures.answer ∙ ap (λ s. table_fault s (HandBack claim)) c.state.ensures ∙ return_table (state_in c.args.self.now.states claim.number) claim)

pub returns-in_err-next-clause-told : goal.returns-in_err-next-clause-told
returns-in_err-next-clause-told c =
    let p = err_from_is_err_and c.from_residual.result c.from_residual.ensures.1 in
    λ h owed k. rw p.1 (kept_refused h _ _ owed k)

pub returns-clause-told : goal.returns-clause-told
returns-clause-told c =
    let claim = c.args.claim in
    let states = state_in c.args.self.now.states in
    let none = c.in_ok-next.ensures.answer ∙ ap (λ s. table_fault s (HandBack claim)) c.state.ensures ∙ return_table (states claim.number) claim in
    let number = number_from claim.number (open_number c.args.self.now.states claim.number claim none) in
    let after : (n : ℕ) → state_in c.put.new.self.states n ≡ changed claim.number (returned_state (states claim.number)) states n = λ n. c.put.ensures.states n ∙ ap (λ s. changed claim.number s states n) (c.in_ok-next.ensures.value ∙ return_next c.state.result claim ∙ ap returned_state c.state.ensures) in
    λ h owed k. rw c.put.ensures.count (told_return h _ _ _ claim.number claim owed number.0 number.1 refl (open_by (states claim.number) claim (sym none)) after k)
