use Rattle.std.proofs.Common.{◌∙◌, List, ℕ, ap}
use Rattle.sha2.specs.Sha256.{compress, digest_bytes}
use Rattle.stark_sha256.specs.Pairs.{pair_block, pair_digest}
use Rattle.stark_sha256.proofs.pairs.compress_pairs.Goals as goal

pub returns : goal.returns
unfolding pair_digest
returns g c j low =
    let block = pair_block c.args.pairs.now j in
    c.digests_in_lanes.ensures j low
    ∙ ap (λ (h : List ℕ). digest_bytes h 8)
    (c.compress.ensures j low block (c.words_of_pairs.ensures j low) ∙ ap (λ h. compress h block) (c.in_each_lane.ensures j low))
