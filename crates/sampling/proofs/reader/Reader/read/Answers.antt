use Rattle.std.proofs.Common.{◌<◌, ◌/◌, length, refl, ap, ◌∙◌, add-one, arith, [], slice_index, slice_index_or}
use Rattle.foundation.proofs.Chunks.{chunk_at}
use Rattle.sampling.proofs.reader.Reader.read.Goals as goal

pub returns : goal.returns
returns c =
    let b = c.args.self.now.bytes.now in
    let p = c.args.self.now.place in
    let inside : p < length b / 156 = omega arith in
    record { lent = refl; moved = add-one p; holds = c.read-record.ensures b (λ i m. ap (λ rs. slice_index (slice_index_or rs p []) i) c.as_chunks.ensures.front ∙ chunk_at 156 (length b / 156) b p i inside m) }
