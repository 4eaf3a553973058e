use Rattle.std.proofs.Common.{◌≡◌, ℕ, suc, None, sym, ap, ◌∙◌, add-one, arith}
use Rattle.std.proofs.lemmas.Result.{err_from_is_err_and}
use Rattle.book.specs.declared.state.table.Event.TheVariants.{Declare}
use Rattle.book.specs.Calls.{changed, declared_state}
use Rattle.book.specs.States.{is_sound, state_in}
use Rattle.book.specs.Table.{table_fault}
use Rattle.book.proofs.Histories.{kept_refused}
use Rattle.book.proofs.Telling.{told_declare}
use Rattle.book.proofs.Judged.{declare_late}
use Rattle.book.proofs.Nexts.{declare_next, declare_room}
use Rattle.book.proofs.Soundness.{sound_more}
use Rattle.book.proofs.book.Book.declare.Goals as goal

pub returns-in_err-asked-clause-told : goal.returns-in_err-asked-clause-told
returns-in_err-asked-clause-told c =
    let p = err_from_is_err_and c.from_residual.result c.from_residual.ensures.1 in
    λ h owed k. rw p.1 (kept_refused h _ _ owed k)

pub returns-in_err-next-clause-answer : goal.returns-in_err-next-clause-answer
returns-in_err-next-clause-answer c =
    let p = err_from_is_err_and c.from_residual-in_err-next.result c.from_residual-in_err-next.ensures.1 in
    let book = c.args.self.now in
    let kind = c.in_ok-asked.asked in
    rw (p.1, p.2)
    (declare_late c.args.number c.args.kind c.args.regions (state_in book.states c.args.number) book.made kind _ c.in_ok-asked.ensures.answer
    (c.in_err-next.ensures.answer ∙ ap (λ s. table_fault s (Declare kind c.args.regions book.made)) c.state.ensures))

pub returns-in_err-next-clause-told : goal.returns-in_err-next-clause-told
returns-in_err-next-clause-told c =
    let p = err_from_is_err_and c.from_residual-in_err-next.result c.from_residual-in_err-next.ensures.1 in
    λ h owed k. rw p.1 (kept_refused h _ _ owed k)

pub invariant_of-self : goal.invariant_of-self
invariant_of-self c =
    let book = c.args.self.now in
    record {
      few = omega (arith, declare_room c.state.result c.in_ok-asked.asked c.args.regions book.made c.in_ok-next.ensures.answer);
      sound = λ n. ap (λ m. is_sound m (state_in book.states n)) (add-one book.made) ∙ sound_more book.made (state_in book.states n) (book.sound n);
    }

pub returns-clause-told : goal.returns-clause-told
returns-clause-told c =
    let book = c.args.self.now in
    let kind = c.in_ok-asked.asked in
    let next = c.in_ok-next.ensures.value ∙ declare_next c.state.result c.in_ok-asked.asked c.args.kind c.args.regions book.made c.in_ok-next.ensures.answer c.in_ok-asked.ensures.value in
    let none = declare_late c.args.number c.args.kind c.args.regions (state_in book.states c.args.number) book.made kind None c.in_ok-asked.ensures.answer
    (c.in_ok-next.ensures.answer ∙ ap (λ s. table_fault s (Declare kind c.args.regions book.made)) c.state.ensures) in
    let states : (n : ℕ) → state_in c.put.new.self.states n ≡ changed c.args.number (declared_state c.args.kind c.args.regions (suc book.made)) (state_in book.states) n = λ n. c.put.ensures.states n ∙ ap (λ s. changed c.args.number s (state_in book.states) n) next in
    let count : c.put.new.self.made ≡ suc book.made = omega (arith, c.put.ensures.count) in
    λ h owed k. told_declare h _ _ _ _ c.args.number c.args.kind c.args.regions owed (sym none) states count k
