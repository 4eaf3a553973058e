use Rattle.std.proofs.Common.{◌≡◌, ◌+◌, ◌-◌, ◌^◌, ◌<◌, ◌∙◌, arith}
use Rattle.figures.proofs.Bytes.{number_put, rest_put, part_put}
use Rattle.figures.proofs.samples.put.Goals as goal

pub returns : goal.returns
returns c =
    let fits : c.args.number < 2 ^ 16 = omega arith in
    let two : c.args.at + 2 - c.args.at ≡ 2 = omega arith in
    rw (part_put c.args.bytes.now c.args.at _ _ _ _ c.requires two (c.copy_from_slice.ensures.after ∙ c.to_be_bytes.ensures)) (record { number = number_put _ _ _ c.requires fits; rest = rest_put _ _ _ _ })
