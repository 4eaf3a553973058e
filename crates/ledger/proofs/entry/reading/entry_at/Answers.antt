use Rattle.std.proofs.Common.{ℕ, ◌<◌, ◌/◌, List, [], length, sym, subst, arith}
use Rattle.std.proofs.lemmas.Bool.{ltb-true}
use Rattle.std.proofs.lemmas.List.{get_or_read_under}
use Rattle.ledger.specs.Entries.{EntryAt}
use Rattle.ledger.proofs.Records.{entry_in}
use Rattle.ledger.proofs.entry.reading.entry_at.Goals as goal

pub returns : goal.returns
returns c =
    let b = c.args.bytes.now in
    let there = c.in_ok-record.ensures.lookup in
    let l : c.args.k < length b / 16 = omega (arith, ltb-true c.args.k (length c.as_chunks.result.0.now) (sym there.0), c.as_chunks.ensures.front_len) in
    let here = get_or_read_under c.as_chunks.result.0.now c.args.k (length b / 16) c.in_ok-record.record.now [] there.1 l (omega (arith, c.as_chunks.ensures.front_len)) in
    (l, entry_in b c.as_chunks.result.0.now (length b / 16) c.args.k c.from.result c.as_chunks.ensures.front l (subst (λ (x : List ℕ). EntryAt x 0 c.from.result) here c.from.ensures))
