use Rattle.std.proofs.Common.{◌≡◌, ◌+◌, ◌*◌, ◌/◌, ◌<◌, ◌≤◌, length, get_or, [], vec_items, refl, arith, rules}
use Rattle.std.proofs.lemmas.Result.{err_from_is_err_and}
use Rattle.settle.specs.Sheet.{texts}
use Rattle.settle.proofs.Termed.{termed_length, begun_all, three_texts, refused_term, read_term}
use Rattle.settle.proofs.Words.{length_texts}
use Rattle.settle.proofs.terms.all.Goals as goal

pub returns-then-not-is_empty : goal.returns-then-not-is_empty
returns-then-not-is_empty c ts h =
    let whole = termed_length (texts c.args.words.now) ts h in
    let same = length_texts c.args.words.now _ refl in
    let some : 0 < length c.as_chunks.result.1.now = search rules in
    omega (arith, c.as_chunks.ensures.back_len)

pub returns-in_err-term : goal.returns-in_err-term
returns-in_err-term c =
    let words = c.args.words.now in
    let k = c.loop-words.words-index in
    let chunks = c.as_chunks.result.0.now in
    let long = length_texts words (texts words) refl in
    let in_chunks : k < length words / 3 = omega (arith, c.as_chunks.ensures.front_len, c.loop-words-test.true) in
    let inside : 3 * k < length (texts words) = omega (arith, long) in
    let why = err_from_is_err_and c.from_residual.result c.from_residual.ensures.1 in
    rw (why.1, why.2) (refused_term words (get_or chunks k []) (3 * k) (three_texts words chunks (length words / 3) k c.as_chunks.ensures.front in_chunks) inside (vec_items c.loop-words.terms) c.loop-words.invariant c.in_err-term.field-0.0 c.in_err-term.ensures)

pub loop-words-preserved : goal.loop-words-preserved
loop-words-preserved c =
    let words = c.args.words.now in
    let k = c.loop-words.words-index in
    let chunks = c.as_chunks.result.0.now in
    let long = length_texts words (texts words) refl in
    let in_chunks : k < length words / 3 = omega (arith, c.as_chunks.ensures.front_len, c.loop-words-test.true) in
    let inside : 3 * k < length (texts words) = omega (arith, long) in
    rw c.in_ok-push.ensures.items
    (read_term words (get_or chunks k []) (3 * k) (three_texts words chunks (length words / 3) k c.as_chunks.ensures.front in_chunks) inside (vec_items c.loop-words.terms) c.loop-words.invariant (3 * (k + 1)) c.in_ok-term.field-0 (omega arith) c.in_ok-term.ensures)

pub returns : goal.returns
returns c =
    let same = length_texts c.args.words.now _ refl in
    let none : length c.as_chunks.result.1.now ≡ 0 = search rules in
    let all : length (texts c.args.words.now) ≤ 3 * c.loop-words.words-index = omega (arith, c.as_chunks.ensures.front_len, c.as_chunks.ensures.back_len) in
    begun_all (texts c.args.words.now) (3 * c.loop-words.words-index) _ c.loop-words.invariant all
