use Rattle.std.proofs.Common.{◌≡◌, length, take, sym, ◌∙◌, subst, arith}
use Rattle.std.proofs.lemmas.List.{length-set, take_all}
use Rattle.book.specs.History.{History}
use Rattle.book.specs.Kept.{Kept}
use Rattle.book.specs.States.{state_in}
use Rattle.book.proofs.Settling.{settled}
use Rattle.session.specs.Runs.{run_through}
use Rattle.session.proofs.Lists.{run_more}
use Rattle.session.proofs.run.run.Goals as goal

pub loop-k-preserved : goal.loop-k-preserved
loop-k-preserved g c = (
  length-set c.loop-k.answers c.loop-k.k c.call.result ∙ c.loop-k.invariant.0,
  λ h k.
      subst
      (λ x. Kept x (state_in c.call.new.book.states) c.call.new.book.made (g.L.Ledger.owed c.call.new.ledger))
      (sym (run_more c.args.calls.now c.loop-k.answers c.loop-k.k _ c.call.result c.args.factors.now (g.E.EnergySource.kwh c.args.source.now) h c.loop-k.invariant.0 c.loop-k-test.true))
      (c.call.ensures.told _ (c.loop-k.invariant.1 h k)),
)

pub returns : goal.returns
returns g c =
    let end : c.loop-k.k ≡ length c.args.calls.now = omega (arith, c.loop-k-test.false, c.loop-k.auto.k-end) in
    let calls : take c.loop-k.k c.args.calls.now ≡ c.args.calls.now = take_all c.loop-k.k c.args.calls.now (omega (arith, end)) in
    let answers : take c.loop-k.k c.loop-k.answers ≡ c.loop-k.answers = take_all c.loop-k.k c.loop-k.answers (omega (arith, end, c.loop-k.invariant.0)) in
    let told : (h : History) → Kept h (state_in c.args.book.now.states) c.args.book.now.made (g.L.Ledger.owed c.args.ledger.now) → Kept (run_through c.args.calls.now c.loop-k.answers c.args.factors.now (g.E.EnergySource.kwh c.args.source.now) h) (state_in c.loop-k.book.states) c.loop-k.book.made (g.L.Ledger.owed c.loop-k.ledger) =
    λ h k. rw (sym calls, sym answers) (c.loop-k.invariant.1 h k) in
    record { told = told; law = λ h k. settled _ _ _ _ (told h k) }
