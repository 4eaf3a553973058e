use Rattle.std.proofs.Common.{◌≡◌, ℕ, Bool, false, eqb, List, get_or, refl, Decides, arith, lit<, rules}
use Rattle.std.proofs.lemmas.Str.Pattern.{starts_char}
use Rattle.settle.proofs.Written.{read_some, read_over, read_none}
use Rattle.settle.proofs.numbers.number.Goals as goal

no_plus : (word : List ℕ) (r : Bool) → Decides r (get_or word 0 0 ≡ 43) → r ≡ false → eqb (get_or word 0 0) 43 ≡ false
no_plus word r starts left = search rules

pub returns-in-Ok : goal.returns-in-Ok
returns-in-Ok c =
    let starts = starts_char 43 c.args.word.now c.starts_with.result c.starts_with.ensures.cases (lit< tt) (lit< tt) in
    let plain = no_plus c.args.word.now c.starts_with.result starts c.if-starts_with.false in
    record { answer = read_some c.args.most c.args.word.now plain c.in-Ok.number c.in-Ok.ensures.value.0 c.if-number-most.true; why = tt; small = c.if-number-most.true }

pub returns-in_default : goal.returns-in_default
returns-in_default c =
    let starts = starts_char 43 c.args.word.now c.starts_with.result c.starts_with.ensures.cases (lit< tt) (lit< tt) in
    let plain = no_plus c.args.word.now c.starts_with.result starts c.if-starts_with.false in
    record { answer = read_over c.args.most c.args.word.now plain c.in-Ok.number c.in-Ok.ensures.value.0 c.if-number-most.false; why = refl; small = tt }

pub returns-in_default-2 : goal.returns-in_default-2
returns-in_default-2 c =
    let starts = starts_char 43 c.args.word.now c.starts_with.result c.starts_with.ensures.cases (lit< tt) (lit< tt) in
    let plain = no_plus c.args.word.now c.starts_with.result starts c.if-starts_with.false in
    record { answer = read_none c.args.most c.args.word.now plain c.in_default.ensures.value.0 (omega arith); why = refl; small = tt }
