use Rattle.std.proofs.Common.{◌≡◌, ◌/◌, ◌%◌, ◌<◌, length, sym, ◌∙◌, arith, below_more}
use Rattle.std.proofs.lemmas.Bool.Decides.{nat_tests}
use Rattle.std.proofs.lemmas.Result.{err_from_is_err_and}
use Rattle.foundation.proofs.Sums.{sum_to_none}
use Rattle.energy.proofs.Readings.{bad_length, record_held, reading_at, kwh_more, first_bad, none_bad}
use Rattle.energy.proofs.metered.Metered.check.Goals as goal
use Rattle.energy.proofs.metered.Metered.check.Goals.{then-not-is_empty-via-then-not-is_empty, then-not-is_empty-via-else-not-is_empty+then-records-gt-MOST_RECORDS}

pub returns-then-not-is_empty : goal.returns-then-not-is_empty
returns-then-not-is_empty c =
    let b = c.args.bytes.now in
    elim c.then-not-is_empty.branch [ then-not-is_empty-via-then-not-is_empty w ↦ rw c.fault.ensures (bad_length b (grind (arith, nat_tests))) | then-not-is_empty-via-else-not-is_empty+then-records-gt-MOST_RECORDS w ↦ rw c.fault.ensures (bad_length b (grind (arith, nat_tests))) ]

pub loop-k-init : goal.loop-k-init
loop-k-init c = record { sum = sym (sum_to_none _); room = omega arith; good = λ j l. absurd (omega arith) }

pub returns-in_err-sum : goal.returns-in_err-sum
returns-in_err-sum c =
    let b = c.args.bytes.now in
    let whole : length b % 8 ≡ 0 = grind (arith, nat_tests) in
    let l : c.loop-k.k < length b / 8 = omega (arith, c.as_chunks.ensures.front_len) in
    let read = reading_at b _ (length b / 8) c.loop-k.k c.from.result c.as_chunks.ensures.front l c.from.ensures in
    let held = record_held b c.loop-k.k c.loop-k.sum c.from.result read c.loop-k.invariant.sum in
    let p = err_from_is_err_and c.from_residual.result c.from_residual.ensures.1 in
    rw (p.1, p.2) (first_bad b c.loop-k.k _ whole (omega (arith, c.as_chunks.ensures.front_len)) l c.loop-k.invariant.good (sym held ∙ sym c.in_err-sum.ensures.answer))

pub loop-k-preserved : goal.loop-k-preserved
loop-k-preserved c =
    let b = c.args.bytes.now in
    let l : c.loop-k.k < length b / 8 = omega (arith, c.as_chunks.ensures.front_len) in
    let read = reading_at b _ (length b / 8) c.loop-k.k c.from.result c.as_chunks.ensures.front l c.from.ensures in
    let held = record_held b c.loop-k.k c.loop-k.sum c.from.result read c.loop-k.invariant.sum in
    let value = c.in_ok-sum.ensures.value in
    record {
      sum = omega (arith, value.0, kwh_more b c.loop-k.k, c.loop-k.invariant.sum, read.kwh);
      room = value.1;
      good = below_more _ _ c.loop-k.invariant.good (sym held ∙ sym c.in_ok-sum.ensures.answer);
    }

pub returns : goal.returns
returns c =
    let b = c.args.bytes.now in
    let whole : length b % 8 ≡ 0 = grind (arith, nat_tests) in
    none_bad b whole (omega (arith, c.as_chunks.ensures.front_len)) (λ j l. c.loop-k.invariant.good j (omega (arith, c.as_chunks.ensures.front_len)))
