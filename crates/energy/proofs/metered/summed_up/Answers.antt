use Rattle.std.proofs.Common.{◌≡◌, ◌/◌, ◌<◌, length, sym, ap, ◌∙◌, arith}
use Rattle.foundation.proofs.Sums.{sum_to_none}
use Rattle.energy.specs.Metered.{summed}
use Rattle.energy.specs.Table.{figure_of, bumped}
use Rattle.energy.proofs.Readings.{good, kwh_more, reading_at, summed_bumped, summed_none}
use Rattle.energy.proofs.Tables.{bumped_all, grand_zero}
use Rattle.energy.specs.Totals.{grand_eq}
use Rattle.energy.proofs.metered.summed_up.Goals as goal

pub loop-record-init : goal.loop-record-init
loop-record-init c = record { each = λ p r. c.none-figures.ensures p r ∙ sym (summed_none _ p r); all = grand_zero _ c.none-figures.ensures ∙ sym (sum_to_none _) }

pub add-requires : goal.add-requires
add-requires c =
    let b = c.args.bytes.now in
    let k = c.loop-record.record-index in
    let l : k < length b / 8 = omega (arith, c.as_chunks.ensures.front_len) in
    let read = reading_at b _ (length b / 8) k c.from-reading.result c.as_chunks.ensures.front l c.from-reading.ensures in
    let fine = good b k c.requires l in
    record { party = omega (arith, fine.party, read.party); region = omega (arith, fine.region, read.region); room = omega (arith, fine.room, read.kwh, c.loop-record.invariant.all) }

pub loop-record-preserved : goal.loop-record-preserved
loop-record-preserved c =
    let b = c.args.bytes.now in
    let k = c.loop-record.record-index in
    let old = figure_of c.loop-record.figures.rows in
    let l : k < length b / 8 = omega (arith, c.as_chunks.ensures.front_len) in
    let new = c.from-reading.result in
    let read = reading_at b _ (length b / 8) k new c.as_chunks.ensures.front l c.from-reading.ensures in
    let fine = good b k c.requires l in
    let all = bumped_all new.party new.region new.kwh old (omega (arith, fine.party, read.party)) (omega (arith, fine.region, read.region)) in
    record {
      each = λ p r. c.add.ensures p r ∙ summed_bumped b k new old p r read (c.loop-record.invariant.each p r);
      all = omega (arith, grand_eq (figure_of c.add.new.self.rows) (bumped new.party new.region new.kwh old) (λ p r l m. c.add.ensures p r), all, kwh_more b k, read.kwh, c.loop-record.invariant.all);
    }

pub returns : goal.returns
returns c =
    let all : c.loop-record.record-index ≡ length c.args.bytes.now / 8 = omega (arith, c.as_chunks.ensures.front_len) in
    λ p r. c.loop-record.invariant.each p r ∙ ap (λ n. summed c.args.bytes.now n p r) all
