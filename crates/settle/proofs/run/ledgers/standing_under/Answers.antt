use Rattle.std.proofs.Common.{◌≡◌, ℕ, pos, nat_abs, sym, ap, ◌∙◌, arith, rules}
use Rattle.ledger.specs.Amounts.{seen}
use Rattle.recovery.proofs.Lines.{lines_none, lines_at, lines_past}
use Rattle.settle.proofs.Counts.{some_size}
use Rattle.settle.proofs.run.ledgers.standing_under.Goals as goal
use Rattle.settle.proofs.run.ledgers.standing_under.Goals.{then-amount-ne0, else-amount-ne0}

pub loop-party-init : goal.loop-party-init
loop-party-init g c = (sym (lines_none _), omega arith)

pub loop-party-preserved : goal.loop-party-preserved
loop-party-preserved g c =
    let sizes : ℕ → ℕ = λ p. nat_abs (seen (g.L.Ledger.owed c.args.ledger.now) p c.args.serial) in
    let k = c.loop-party.party in
    let size : nat_abs c.amount.result ≡ sizes k = ap nat_abs c.amount.ensures.answer in
    elim c.if-amount-ne0.branch [
      | then-amount-ne0 w ↦
          let some : c.amount.result ≡ pos 0 → ⊥ = search rules in
          (omega (arith, w.count-is, lines_at sizes k (omega (arith, size, some_size c.amount.result some)), c.loop-party.invariant.0), omega (arith, w.count-is, c.loop-party.invariant.1))
      | else-amount-ne0 w ↦
          let none : c.amount.result ≡ pos 0 = search rules in
          (omega (arith, w.count-is, lines_past sizes k (sym size ∙ ap nat_abs none), c.loop-party.invariant.0), omega (arith, w.count-is, c.loop-party.invariant.1))
    ]
