use Rattle.std.proofs.Common.{◌≡◌, length, vec_items, ap, arith, rules, below_more}
use Rattle.figures.proofs.Bytes.{shows_kept, shows_added}
use Rattle.figures.proofs.samples.interval_of.Goals as goal

pub loop-unit-init : goal.loop-unit-init
loop-unit-init c =
    let one : length c.record_of.result ≡ 156 = search rules in
    let more = c.in_ok-extend_from_slice.ensures.len in
    (omega (arith, c.extend_from_slice.new.self.ok.0), λ f s. s, λ u l. absurd (omega arith))

pub loop-unit-preserved : goal.loop-unit-preserved
loop-unit-preserved c =
    let before = vec_items c.loop-unit.bytes in
    let added = c.record_of-record.result in
    let now = vec_items c.extend_from_slice-in-loop-unit.new.self in
    let one : length c.record_of-record.result ≡ 156 = search rules in
    let long = c.loop-unit.invariant.0 in
    let more = c.in_ok-extend_from_slice-2.ensures.len in
    let e = c.in_ok-extend_from_slice-2.ensures.items in (
      omega (arith, c.loop-unit.bytes.ok.0, c.extend_from_slice-in-loop-unit.new.self.ok.0),
      λ f s. shows_kept now before added 0 f e (omega arith) (c.loop-unit.invariant.1 f s),
      below_more _ _
          (λ u l. shows_kept now before added _ _ e (omega arith) (c.loop-unit.invariant.2 u l))
          (shows_added now before added _ _ e long c.record_of-record.ensures),
    )

pub returns : goal.returns
returns c =
    let none = ap length c.new-bytes.ensures.items in
    let all : c.loop-unit.unit ≡ length c.args.readings.now = omega arith in
    record {
      long = omega (arith, c.loop-unit.invariant.0);
      first = c.loop-unit.invariant.1 _ (shows_added (vec_items c.extend_from_slice.new.self) (vec_items c.new-bytes.result) c.record_of.result 0 _ c.in_ok-extend_from_slice.ensures.items none c.record_of.ensures);
      units = λ u l. c.loop-unit.invariant.2 u (omega arith);
    }
