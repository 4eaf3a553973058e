use Rattle.std.proofs.Common.{◌≡◌, ℕ, ◌+◌, ◌*◌, ◌<◌, List, [], get_or, pos, ap, ◌∙◌, arith, rules, w16, to_z}
use Rattle.std.specs.Simd.{first_chunks}
use Rattle.foundation.specs.Bytes.{number_at}
use Rattle.foundation.proofs.Arrays.{made_at}
use Rattle.foundation.proofs.Chunks.{chunk_at}
use Rattle.sampling.proofs.reader.decoded.Goals as goal

in_pair : (xs : List ℕ) (pairs : List (List ℕ)) (n k : ℕ) → pairs ≡ first_chunks 2 n xs → k < n → get_or (get_or pairs k []) 0 0 * 256 + get_or (get_or pairs k []) 1 0 ≡ number_at xs (2 * k)
unfolding number_at
in_pair xs pairs n k e l = rw (e, chunk_at 2 n xs k 0 l (omega arith), chunk_at 2 n xs k 1 l (omega arith)) (ap (λ i. get_or xs i 0 * 256 + get_or xs (2 * k + 1) 0) (omega arith))

pub returns : goal.returns
returns c = λ k l.
    let pairs : List (List ℕ) = c.as_chunks.result.0.now in
    made_at _ (λ i y. y ≡ to_z w16 (get_or (get_or pairs i []) 0 0 * 256 + get_or (get_or pairs i []) 1 0)) _ (λ i y q h. search rules) _ _ c.from_fn.ensures.items k (pos 0) l
    ∙ ap (to_z w16) (in_pair c.args.values.now pairs _ k c.as_chunks.ensures.front (omega (arith, c.requires)))
