use Rattle.std.proofs.Common.{◌≡◌, ℕ, None, sym, ap, ◌∙◌, subst}
use Rattle.std.proofs.lemmas.Result.{err_from_is_err_and}
use Rattle.book.specs.declared.state.table.Event.TheVariants.{Claim}
use Rattle.book.specs.Calls.{changed, claimed_state, declared_in, figures_of}
use Rattle.book.specs.Checks.{Proposes}
use Rattle.book.specs.History.{Claimed}
use Rattle.book.specs.Kept.{serial_in}
use Rattle.book.specs.States.{state_in}
use Rattle.book.specs.Table.{table_fault}
use Rattle.book.proofs.Histories.{kept_refused}
use Rattle.book.proofs.Telling.{told_claim}
use Rattle.book.proofs.Judged.{claim_late}
use Rattle.book.proofs.Nexts.{claimed_next}
use Rattle.book.proofs.Terms.{ranged}
use Rattle.book.proofs.book.Book.claim.Goals as goal

pub returns-in_err-week_interval-clause-told : goal.returns-in_err-week_interval-clause-told
returns-in_err-week_interval-clause-told c =
    let p = err_from_is_err_and c.from_residual.result c.from_residual.ensures.1 in
    λ h owed k. rw p.1 (kept_refused h _ _ owed k)

pub propose-proposal-requires : goal.propose-proposal-requires
propose-proposal-requires c = ranged c.args.number c.args.interval c.args.marginal_value c.args.terms.now (sym c.in_ok-week_interval.ensures.answer)

pub returns-in_err-next-clause-answer : goal.returns-in_err-next-clause-answer
returns-in_err-next-clause-answer c =
    let p = err_from_is_err_and c.from_residual-in_err-next.result c.from_residual-in_err-next.ensures.1 in
    let state = state_in c.args.self.now.states c.args.number in
    let asked = c.in_ok-week_interval.ensures in
    let proposal = c.propose-proposal.result in
    let proposes = subst (λ d. Proposes d c.args.marginal_value c.args.terms.now proposal) (c.regions.ensures ∙ ap declared_in c.state-state.ensures) c.propose-proposal.ensures.terms in
    rw (p.1, p.2)
    (claim_late c.args.number c.args.interval c.args.marginal_value c.args.terms.now c.args.part state proposal _ asked.answer proposes
    (ap (λ i. i.number) c.propose-proposal.ensures.interval ∙ asked.value) c.propose-proposal.ensures.part
    (c.in_err-next.ensures.answer ∙ ap (λ s. table_fault s (Claim proposal)) c.state-state.ensures))

pub returns-in_err-next-clause-told : goal.returns-in_err-next-clause-told
returns-in_err-next-clause-told c =
    let p = err_from_is_err_and c.from_residual-in_err-next.result c.from_residual-in_err-next.ensures.1 in
    λ h owed k. rw p.1 (kept_refused h _ _ owed k)

pub returns-clause-answer : goal.returns-clause-answer
returns-clause-answer c =
    let states = state_in c.args.self.now.states in
    let state = states c.args.number in
    let asked = c.in_ok-week_interval.ensures in
    let proposal = c.propose-proposal.result in
    let is = c.propose-proposal.ensures in
    let proposes = subst (λ d. Proposes d c.args.marginal_value c.args.terms.now proposal) (c.regions.ensures ∙ ap declared_in c.state-state.ensures) is.terms in
    let none = claim_late c.args.number c.args.interval c.args.marginal_value c.args.terms.now c.args.part state proposal None asked.answer proposes (ap (λ i. i.number) is.interval ∙ asked.value) is.part
    (c.in_ok-next.ensures.answer ∙ ap (λ s. table_fault s (Claim proposal)) c.state-state.ensures) in
    none

pub returns-clause-told : goal.returns-clause-told
returns-clause-told c =
    let states = state_in c.args.self.now.states in
    let state = states c.args.number in
    let asked = c.in_ok-week_interval.ensures in
    let proposal = c.propose-proposal.result in
    let is = c.propose-proposal.ensures in
    let proposes = subst (λ d. Proposes d c.args.marginal_value c.args.terms.now proposal) (c.regions.ensures ∙ ap declared_in c.state-state.ensures) is.terms in
    let figures = c.of.ensures in
    let claimed : (serial interval : ℕ) → Claimed = λ serial interval. record { number = c.args.number; serial = serial; interval = interval; part = c.args.part } in
    let none = claim_late c.args.number c.args.interval c.args.marginal_value c.args.terms.now c.args.part state proposal None asked.answer proposes (ap (λ i. i.number) is.interval ∙ asked.value) is.part
    (c.in_ok-next.ensures.answer ∙ ap (λ s. table_fault s (Claim proposal)) c.state-state.ensures) in
    let value = ap figures_of figures
    ∙ ap (λ s. claimed s c.in_ok-week_interval.week_interval.number) (c.serial.ensures ∙ ap serial_in c.state-state.ensures)
    ∙ ap (claimed (serial_in state)) asked.value in
    let after : (n : ℕ) → state_in c.put.new.self.states n ≡ changed c.args.number (claimed_state state (record { interval = c.of.result.figures.interval; part = c.of.result.figures.part })) states n = λ n.
    c.put.ensures.states n
    ∙ ap (λ s. changed c.args.number s states n)
    (c.in_ok-next.ensures.value
    ∙ claimed_next c.state-state.result state proposal c.of.result.figures c.state-state.ensures (is.interval ∙ sym (ap (λ f. f.interval) figures)) (is.part ∙ sym (ap (λ f. f.part) figures))) in
    let number = ap (λ f. f.number) value in
    let serial = ap (λ f. f.serial) value in
    let same : figures_of c.of.result.figures ≡ record { number = c.args.number; serial = serial_in state; interval = c.of.result.figures.interval.number; part = c.of.result.figures.part } = λ i. record { number = number i; serial = serial i; interval = c.of.result.figures.interval.number; part = c.of.result.figures.part } in
    λ h owed k. rw c.put.ensures.count (told_claim h _ _ _ c.args.number c.args.interval c.args.marginal_value c.args.terms.now c.args.part (record { interval = c.of.result.figures.interval; part = c.of.result.figures.part }) (figures_of c.of.result.figures) owed (sym none) after same k)
