use Rattle.std.proofs.Common.{◌≡◌, ◌<◌, length, vec_items, ap, ◌∙◌, rules}
use Rattle.std.specs.Str.Iter.{split_has_more, split_text, split_pattern}
use Rattle.settle.specs.Sheet.{texts}
use Rattle.settle.proofs.Cut.{none_yet, no_word, one_word, all_words}
use Rattle.settle.proofs.Words.{texts_push}
use Rattle.settle.proofs.sheet.words.Goals as goal

pub loop-word-init : goal.loop-word-init
loop-word-init c =
    let same = c.into_iter-word-iterator.ensures.into_iter_gives in
    let made = c.split-word-items.ensures in
    none_yet c.args.text.now (vec_items c.new-words.result) c.into_iter-word-iterator.result c.new-words.ensures.items (ap split_has_more same ∙ made.has_more) (ap split_text same ∙ made.text) (ap split_pattern same ∙ made.pattern)

pub loop-word-preserved-in-Continue-1 : goal.loop-word-preserved-in-Continue-1
loop-word-preserved-in-Continue-1 c =
    let some : 0 < length c.in-Some.word.now = search rules in
    let done = texts (vec_items c.loop-word.words) in
    let pushed = texts_push (vec_items c.loop-word.words) (vec_items c.push.new.self) c.in-Some.word c.in_ok-push.ensures.items in
    rw pushed (one_word c.args.text.now done c.loop-word.word-iterator c.next.new.self c.in-Some.word.now c.loop-word.invariant c.in-Some.ensures.steps some)

pub loop-word-preserved : goal.loop-word-preserved
loop-word-preserved c =
    let empty : length c.in-Some.word.now ≡ 0 = search rules in
    no_word c.args.text.now (texts (vec_items c.loop-word.words)) c.loop-word.word-iterator c.next.new.self c.in-Some.word.now c.loop-word.invariant c.in-Some.ensures.steps empty

pub returns : goal.returns
returns c = all_words c.args.text.now (texts (vec_items c.loop-word.words)) c.loop-word.word-iterator c.loop-word.invariant c.in-None.ensures.steps.0
