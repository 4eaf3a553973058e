use Rattle.std.proofs.Common.{◌≡◌, ◌+◌, ◌≤◌, cond, ◌&&◌, eqb, pos, ◌+ℤ◌, ap, ◌∙◌, arith, w64, to_z, of_z}
use Rattle.foundation.specs.Fault.{told}
use Rattle.foundation.specs.Sums.{listed}
use Rattle.foundation.proofs.First.{some_none}
use Rattle.recovery.proofs.Lines.{lines_at, lines_past, lines_mono}
use Rattle.recovery.proofs.Posting.{line_is, post_passes, lowered_at, lowered_past}
use Rattle.recovery.proofs.recover.post_shares.Goals as goal
use Rattle.recovery.proofs.recover.post_shares.Goals.{then-share-gt0+in_ok-post, else-share-gt0}

-- what is still to be posted has its lines, so the post is not refused
pub returns-in_err-post : goal.returns-in_err-post
returns-in_err-post g c =
    let shares = listed c.args.shares.now in
    let k = c.loop-party.party in
    let due = lines_at shares k (omega arith) in
    let all = lines_mono shares (k + 1) 64 (omega arith) in
    let left : 1 ≤ g.L.Ledger.room c.loop-party.ledger = omega (arith, c.requires.room, c.loop-party.invariant.1, due, all) in
    let size = c.requires.sizes k (omega arith) in
    let passes = post_passes k c.args.serial (shares k) (g.L.Ledger.room c.loop-party.ledger) (to_z w64 (of_z w64 c.debit.result)) (omega arith) c.requires.first c.requires.last size left (line_is (shares k) c.debit.result size c.debit.ensures) in
    absurd (some_none (told c.in_err-post.field-0.0) (c.in_err-post.ensures.answer ∙ passes))

pub loop-party-preserved : goal.loop-party-preserved
loop-party-preserved g c =
    let shares = listed c.args.shares.now in
    let k = c.loop-party.party in
    let owed = g.L.Ledger.owed c.args.ledger.now in
    elim c.if-share-gt0.branch [
      | then-share-gt0+in_ok-post w ↦
          let due = lines_at shares k (omega arith) in
          let posts = w.in_ok-post.ensures in
          let line = line_is (shares k) w.debit.result (c.requires.sizes k (omega arith)) w.debit.ensures in
          let room = ap g.L.Ledger.room w.ledger-is in (
            λ q t.
                ap (λ x. g.L.Ledger.owed x q t) w.ledger-is
                ∙ posts.amounts q t
                ∙ ap (λ z. z +ℤ cond (eqb q k && eqb t c.args.serial) (to_z w64 (of_z w64 w.debit.result)) (pos 0)) (c.loop-party.invariant.0 q t)
                ∙ lowered_at shares k c.args.serial (to_z w64 (of_z w64 w.debit.result)) owed q t line,
            omega (arith, due, room, posts.falls.0, c.loop-party.invariant.1),
            omega (arith, room, posts.falls.1, c.loop-party.invariant.2),
          )
      | else-share-gt0 w ↦
          let none : shares k ≡ 0 = omega arith in
          let due = lines_past shares k none in
          let room = ap g.L.Ledger.room w.ledger-is in (
            λ q t. ap (λ x. g.L.Ledger.owed x q t) w.ledger-is ∙ c.loop-party.invariant.0 q t ∙ lowered_past shares k c.args.serial owed q t none,
            omega (arith, due, room, c.loop-party.invariant.1),
            omega (arith, room, c.loop-party.invariant.2),
          )
    ]
