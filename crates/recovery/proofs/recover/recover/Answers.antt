use Rattle.std.proofs.Common.{◌≡◌, ℕ, Some, sym, refl, ap, ◌∙◌, arith}
use Rattle.foundation.specs.Fault.{told}
use Rattle.foundation.specs.Sums.{listed}
use Rattle.foundation.proofs.Sums.{sum_to_one_le}
use Rattle.recovery.specs.Shares.{basis_of, share_paid}
use Rattle.recovery.proofs.Faults.{part_bounded, recover_lacks, recover_passes}
use Rattle.recovery.proofs.Laws.{shared}
use Rattle.recovery.proofs.Lines.{lines_eq}
use Rattle.recovery.proofs.Posting.{lowered_eq}
use Rattle.recovery.proofs.recover.recover.Goals as goal

pub returns-then-lines-lines_left : goal.returns-then-lines-lines_left
returns-then-lines-lines_left g c =
    let b = basis_of c.args.part c.args.factors.now (g.E.EnergySource.kwh c.args.source.now) in
    let made = c.in_ok-split.ensures in
    let lines = lines_eq (listed c.in_ok-split.split.shares) (share_paid c.args.regions b) 64 made.value.law.shares in
    record {
      answer = ap (λ f. Some (told f)) c.fault-then-lines-lines_left.ensures ∙ sym (recover_lacks c.args.regions b c.args.serial (g.L.Ledger.room c.args.ledger.now) (omega arith) (omega arith) (sym made.answer) (omega (arith, lines, c.lines-lines.ensures, c.lines_left.ensures)));
      value = tt;
      law = tt;
      amounts = λ p s. refl;
      falls = refl;
      refused = λ _. refl;
    }

pub post_shares-requires : goal.post_shares-requires
post_shares-requires g c =
    let b = basis_of c.args.part c.args.factors.now (g.E.EnergySource.kwh c.args.source.now) in
    let made = c.in_ok-split.ensures in
    record {
      first = omega arith;
      last = omega arith;
      sizes = λ p l. omega (arith, sum_to_one_le 64 (listed c.in_ok-split.split.shares) p l, made.value.law.whole, part_bounded c.args.regions b (sym made.answer));
      room = omega (arith, c.lines-lines.ensures, c.lines_left.ensures);
    }

pub returns : goal.returns
returns g c =
    let b = basis_of c.args.part c.args.factors.now (g.E.EnergySource.kwh c.args.source.now) in
    let made = c.in_ok-split.ensures in
    let same = made.value.law.shares in
    let lines = lines_eq (listed c.in_ok-split.split.shares) (share_paid c.args.regions b) 64 same in
    let posts = c.in_ok-post_shares.ensures in
    record {
      answer = sym (recover_passes c.args.regions b c.args.serial (g.L.Ledger.room c.args.ledger.now) (omega arith) (omega arith) (sym made.answer) (omega (arith, lines, c.lines-lines.ensures, c.lines_left.ensures)));
      value = record { causers_are = c.cmpf.ensures ∙ made.value.all_causers; residual_is = c.crmpf.ensures ∙ made.value.residual; lines_are = c.lines-lines.ensures ∙ lines };
      law = shared c.args.regions b (share_paid c.args.regions b) made.value.law.weighed (λ p l. refl);
      amounts = λ q t. posts.amounts q t ∙ lowered_eq (listed c.in_ok-split.split.shares) (share_paid c.args.regions b) c.args.serial (g.L.Ledger.owed c.args.ledger.now) q t same;
      falls = (omega (arith, lines, posts.few), posts.falls);
      refused = λ wrong. absurd (let z : ◌≡◌ {A = ℕ} 0 1 = cc in omega arith);
    }
