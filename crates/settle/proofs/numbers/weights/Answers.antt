use Rattle.std.proofs.Common.{◌<◌, ◌≤◌, length, take, ◌∙◌, refl, arith, rules, length-set, length-take}
use Rattle.std.proofs.lemmas.List.{take_all}
use Rattle.std.proofs.lemmas.Result.{err_from_is_err_and}
use Rattle.settle.specs.Numbers.{PartyWeights}
use Rattle.settle.specs.Sheet.{texts}
use Rattle.settle.proofs.Words.{length_texts, refused}
use Rattle.settle.proofs.Written.{as_many, put_number, number_at, put_padded, all_padded}
use Rattle.settle.proofs.numbers.weights.Goals as goal

pub returns-then-words-gt-PARTIES : goal.returns-then-words-gt-PARTIES
unfolding PartyWeights
returns-then-words-gt-PARTIES c weights h =
    let many = as_many 65535 (texts c.args.words.now) h.0 h.1.0 in
    let same = length_texts c.args.words.now _ refl in
    let few : length h.0 ≤ 64 = h.1.1 in
    search rules

pub returns-in_err-weights : goal.returns-in_err-weights
unfolding PartyWeights
returns-in_err-weights c =
    let why = err_from_is_err_and c.from_residual.result c.from_residual.ensures.1 in
    rw (why.1, why.2) (refused _ (λ ns. ns) (λ ns. PartyWeights (texts c.args.words.now) ns) (λ ns h. number_at 65535 c.args.words.now c.loop-party.party _ h.0 c.loop-party-test.true h.1.0) c.in_err-weights.field-0.0 c.in_err-weights.ensures.answer)

pub loop-party-preserved : goal.loop-party-preserved
loop-party-preserved c =
    let ns = c.loop-party.weights in
    let few : c.loop-party.party < 64 = omega arith in
    let inside : c.loop-party.party < length ns = omega (arith, c.loop-party.invariant.long) in
    record {
      long = length-set ns c.loop-party.party c.in_ok-weights.field-0 ∙ c.loop-party.invariant.long;
      read = put_number 65535 c.args.words.now ns c.loop-party.party _ c.in_ok-weights.field-0 c.loop-party-test.true inside c.loop-party.invariant.read c.in_ok-weights.ensures.answer;
      rest = put_padded 64 c.loop-party.party ns c.in_ok-weights.field-0 few c.loop-party.invariant.rest;
    }

pub returns : goal.returns
unfolding PartyWeights
returns c =
    let k = c.loop-party.party in
    let ns = c.loop-party.weights in
    let all : length c.args.words.now ≤ k = omega arith in
    let few : k ≤ 64 = omega arith in
    let short : length (take k ns) ≤ 64 = omega (arith, length-take k ns) in
    (take k ns, (rw (take_all k c.args.words.now all) at c.loop-party.invariant.read, short, all_padded 64 k ns c.loop-party.invariant.long few c.loop-party.invariant.rest))
