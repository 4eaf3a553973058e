use Rattle.std.proofs.Common.{◌≡◌, suc, ◌+◌, ◌+ℤ◌, sym, ap, ◌∙◌, arith}
use Rattle.foundation.specs.Sums.{sum_to_int}
use Rattle.foundation.proofs.Signed.{running_fits, running_is}
use Rattle.foundation.proofs.Sums.{sum_to_int_more, sum_to_int_none}
use Rattle.ledger.specs.Amounts.{seen}
use Rattle.book.proofs.Settling.{same_amounts, settled}
use Rattle.book.proofs.Totals.{one_size, sum_size}
use Rattle.book.proofs.book.Book.total.Goals as goal

pub loop-party-init : goal.loop-party-init
loop-party-init g c = sym (sum_to_int_none (λ p. seen (g.L.Ledger.owed c.args.ledger.now) p c.args.serial))

pub overflow_add-sum : goal.overflow_add-sum
overflow_add-sum g c =
    let f = g.L.Ledger.owed c.args.ledger.now in
    let s = c.args.serial in
    let most = (g.met.L.Ledger.bounded c.args.ledger.now).all in
    let sum = sum_size f s c.loop-party.party (omega (arith, c.loop-party-test.true)) in
    let one = one_size f s c.loop-party.party c.loop-party-test.true in
    rw c.loop-party.invariant (running_fits (sum_to_int c.loop-party.party (λ p. seen f p s)) c.amount-sum.result (omega (arith, sum, most)) (rw c.amount-sum.ensures.answer (omega (arith, one, most))))

pub loop-party-preserved : goal.loop-party-preserved
loop-party-preserved g c =
    let f = g.L.Ledger.owed c.args.ledger.now in
    let s = c.args.serial in
    let most = (g.met.L.Ledger.bounded c.args.ledger.now).all in
    let sum = sum_size f s c.loop-party.party (omega (arith, c.loop-party-test.true)) in
    let one = one_size f s c.loop-party.party c.loop-party-test.true in
    let next : suc c.loop-party.party ≡ c.loop-party.party + 1 = omega arith in
    rw c.loop-party.invariant
    (running_is (sum_to_int c.loop-party.party (λ p. seen f p s)) c.amount-sum.result (omega (arith, sum, most)) (rw c.amount-sum.ensures.answer (omega (arith, one, most)))
    ∙ ap (λ z. sum_to_int c.loop-party.party (λ p. seen f p s) +ℤ z) c.amount-sum.ensures.answer
    ∙ sym (sum_to_int_more c.loop-party.party (λ p. seen f p s))
    ∙ ap (λ n. sum_to_int n (λ p. seen f p s)) next)

pub returns : goal.returns
returns g c =
    let end : c.loop-party.party ≡ 64 = omega (arith, c.loop-party-test.false, c.loop-party.auto.party-end) in
    record {
      answer = c.loop-party.invariant ∙ ap (λ n. sum_to_int n (λ p. seen (g.L.Ledger.owed c.args.ledger.now) p c.args.serial)) end;
      law = λ h k. settled h _ _ _ k;
      alike = λ h k states count due x y s t a b d e like p l. same_amounts h k _ _ _ _ _ _ x y s t a b d e like p l;
    }
