use Rattle.std.proofs.Common.{◌≡◌, ◌∙◌, ◌<◌, ℕ, [], ◌∷◌, ap, arith, length, map, slice_index_or}
use Rattle.std.specs.declared.vec.Vec.{Vec}
use Rattle.stark_sha256.specs.Pieces.{piece}
use Rattle.stark_sha256.proofs.LaneFacts.{in_each_of_eight}
use Rattle.stark_merkle.specs.Tree.{items_of}
use Rattle.stark_merkle.proofs.Steps.{layer_at}
use Rattle.stark_merkle.proofs.hash.first_eight_leaves.Goals as goal

pub returns : goal.returns
returns g c i low =
    let rows = c.args.rows.now in
    let slices = c.deref.result ∷ c.deref-2.result ∷ c.deref-3.result ∷ c.deref-4.result ∷ c.deref-5.result ∷ c.deref-6.result ∷ c.deref-7.result ∷ c.deref-8.result ∷ [] in
    let long = c.requires in
    c.eight_leaves.ensures i low
    ∙ ap g.H.TreeHash.digests.leaf
    (in_each_of_eight (λ j. piece slices j ≡ slice_index_or (map items_of rows) j [])
    (c.deref.ensures.value ∙ layer_at rows 0 c.index-rows-0.result (omega (arith, long)) c.index-rows-0.is)
    (c.deref-2.ensures.value ∙ layer_at rows 1 c.index-rows-1.result (omega (arith, long)) c.index-rows-1.is)
    (c.deref-3.ensures.value ∙ layer_at rows 2 c.index-rows-2.result (omega (arith, long)) c.index-rows-2.is)
    (c.deref-4.ensures.value ∙ layer_at rows 3 c.index-rows-3.result (omega (arith, long)) c.index-rows-3.is)
    (c.deref-5.ensures.value ∙ layer_at rows 4 c.index-rows-4.result (omega (arith, long)) c.index-rows-4.is)
    (c.deref-6.ensures.value ∙ layer_at rows 5 c.index-rows-5.result (omega (arith, long)) c.index-rows-5.is)
    (c.deref-7.ensures.value ∙ layer_at rows 6 c.index-rows-6.result (omega (arith, long)) c.index-rows-6.is)
    (c.deref-8.ensures.value ∙ layer_at rows 7 c.index-rows-7.result (omega (arith, long)) c.index-rows-7.is) i low)
