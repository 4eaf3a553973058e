use Rattle.std.proofs.Common.{◌≡◌, length, Ok, ap, ◌∙◌, suc, add-one, arith, rules}
use Rattle.foundation.specs.declared.fault.Fault.{Fault}
use Rattle.ledger.specs.Table.{amounts_of}
use Rattle.ledger.proofs.Postings.{holds_more}
use Rattle.ledger.proofs.Tables.{added, posted_sound, put_fits}
use Rattle.ledger.proofs.table.TableLedger.post.Goals as goal

pub overflow_add-self : goal.overflow_add-self
overflow_add-self c =
    put_fits c.args.self.now.amounts c.args.party c.args.serial c.place_of.result c.args.line c.lines_left.result c.place_of.ensures.answer (omega (arith, c.args.self.now.sizes, c.args.self.now.few)) (posted_sound c.args.party c.args.serial c.args.line c.lines_left.result c.ranges.line c.in_ok-check_post.ensures)

pub invariant_of-self : goal.invariant_of-self
invariant_of-self c =
    let long : length c.args.self.now.amounts ≡ 2048 = search rules in
    let w = added c.args.self.now.amounts c.args.self.now.posted c.args.party c.args.serial c.place_of.result c.args.line c.lines_left.result (posted_sound c.args.party c.args.serial c.args.line c.lines_left.result c.ranges.line c.in_ok-check_post.ensures) c.lines_left.ensures.answer c.place_of.ensures.answer (omega (arith, c.place_of.ensures.inside, long)) c.args.self.now.debts c.args.self.now.sizes c.args.self.now.few in
    record { few = w.room; debts = w.debts; sizes = w.sizes }

pub returns-clause-amounts : goal.returns-clause-amounts
returns-clause-amounts c =
    let long : length c.args.self.now.amounts ≡ 2048 = search rules in
    (added c.args.self.now.amounts c.args.self.now.posted c.args.party c.args.serial c.place_of.result c.args.line c.lines_left.result (posted_sound c.args.party c.args.serial c.args.line c.lines_left.result c.ranges.line c.in_ok-check_post.ensures) c.lines_left.ensures.answer c.place_of.ensures.answer (omega (arith, c.place_of.ensures.inside, long)) c.args.self.now.debts c.args.self.now.sizes c.args.self.now.few).amounts

pub returns-clause-history : goal.returns-clause-history
returns-clause-history c =
    let long : length c.args.self.now.amounts ≡ 2048 = search rules in
    holds_more {A = Unit {0}} {E = Fault} (Ok tt) c.args.party c.args.serial c.args.line (amounts_of c.args.self.now.amounts) _ (added c.args.self.now.amounts c.args.self.now.posted c.args.party c.args.serial c.place_of.result c.args.line c.lines_left.result (posted_sound c.args.party c.args.serial c.args.line c.lines_left.result c.ranges.line c.in_ok-check_post.ensures) c.lines_left.ensures.answer c.place_of.ensures.answer (omega (arith, c.place_of.ensures.inside, long)) c.args.self.now.debts c.args.self.now.sizes c.args.self.now.few).amounts

pub returns-clause-counted : goal.returns-clause-counted
returns-clause-counted c h g =
    let long : length c.args.self.now.amounts ≡ 2048 = search rules in
    record { sums = holds_more {A = Unit {0}} {E = Fault} (Ok tt) c.args.party c.args.serial c.args.line (amounts_of c.args.self.now.amounts) _ (added c.args.self.now.amounts c.args.self.now.posted c.args.party c.args.serial c.place_of.result c.args.line c.lines_left.result (posted_sound c.args.party c.args.serial c.args.line c.lines_left.result c.ranges.line c.in_ok-check_post.ensures) c.lines_left.ensures.answer c.place_of.ensures.answer (omega (arith, c.place_of.ensures.inside, long)) c.args.self.now.debts c.args.self.now.sizes c.args.self.now.few).amounts h g.sums; lines = add-one c.args.self.now.posted ∙ ap suc g.lines }
