use Rattle.std.proofs.Common.{◌≡◌, length, take}
use Rattle.book.specs.History.{History}
use Rattle.book.specs.Kept.{Kept}
use Rattle.book.specs.States.{state_in}
use Rattle.session.specs.Runs.{run_through}
use Rattle.session.proofs.run.run.Given as goal

abbrev pub invariant-loop-k : goal.invariant-loop-k
invariant-loop-k g l =
    (length l.answers ≡ length l.calls)
    × ((h : History) → Kept h (state_in l.initial.book.states) l.initial.book.made (g.L.Ledger.owed l.initial.ledger) → Kept (run_through (take l.k l.calls) (take l.k l.answers) l.factors (g.E.EnergySource.kwh l.source) h) (state_in l.book.states) l.book.made (g.L.Ledger.owed l.ledger))
