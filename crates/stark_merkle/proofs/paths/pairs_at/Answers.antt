use Rattle.std.proofs.Common.{◌≡◌, ◌∙◌, ◌+◌, ◌*◌, ◌<◌, ℕ, List, [], ap, arith, length, length-set, slice_index, slice_index_or, slice_set, sym}
use Rattle.stark_merkle.specs.Eight.{first_of, path_at}
use Rattle.stark_merkle.proofs.PathSteps.{no_path, pair_more, path_is, path_length_is}
use Rattle.stark_merkle.proofs.paths.pairs_at.Goals as goal

pub digest_at-beside-requires : goal.digest_at-beside-requires
digest_at-beside-requires c =
    let long = path_length_is c.args.paths.now c.loop-i.i in
    let below = c.requires c.loop-i.i c.loop-i-test.true in
    omega (arith, long, below)

pub loop-i-preserved : goal.loop-i-preserved
loop-i-preserved c =
    let i = c.loop-i.i in
    let pairs = c.loop-i.pairs in
    let paths = c.args.paths.now in
    let place = λ (k : ℕ). slice_index c.args.places.now k in
    let digest : ℕ → List ℕ = λ k. slice_index_or c.args.digests.now k [] in
    let beside : ℕ → List ℕ = λ k. slice_index_or (path_at paths k) c.args.level [] in
    let here : c.digest_at-beside.result ≡ beside i = c.digest_at-beside.ensures ∙ ap (λ p. slice_index_or p c.args.level []) (sym (path_is paths i)) in
    let turn = c.loop-i-test.true in (
      length-set (slice_set pairs (2 * i) c.first_of.result) (2 * i + 1) c.first_of-in-loop-i.result ∙ length-set pairs (2 * i) c.first_of.result ∙ c.loop-i.invariant.0,
      pair_more (λ k x. x ≡ first_of (place k) (digest k) (beside k)) (λ k x. x ≡ first_of (place k) (beside k) (digest k)) pairs i c.first_of.result c.first_of-in-loop-i.result
          (omega (arith, turn, c.loop-i.invariant.0)) c.loop-i.invariant.1
          (c.first_of.ensures ∙ ap (λ s. first_of (place i) (digest i) s) here)
          (c.first_of-in-loop-i.ensures ∙ ap (λ s. first_of (place i) s (digest i)) here),
    )
