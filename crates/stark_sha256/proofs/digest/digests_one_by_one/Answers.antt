use Rattle.std.proofs.Common.{◌≡◌, ◌∙◌, ℕ, [], ap, arith, length-set, slice_index, slice_index_or, sym}
use Rattle.sha2.specs.Sha256.{sha256}
use Rattle.stark_sha256.specs.Pieces.{piece, text_of}
use Rattle.stark_sha256.proofs.LaneFacts.{one_more}
use Rattle.stark_sha256.proofs.TextFacts.{nothing, piece_at}
use Rattle.stark_sha256.proofs.digest.digests_one_by_one.Goals as goal

pub loop-j-preserved : goal.loop-j-preserved
loop-j-preserved g c =
    let first = c.args.first.now in
    let second = c.args.second.now in
    let tag = λ (i : ℕ). slice_index c.args.tags i in
    let at = c.loop-j.j in (
      length-set c.loop-j.digests at c.digest.result ∙ c.loop-j.invariant.0,
      one_more (λ i x. x ≡ sha256 (text_of (tag i) (piece first i) (piece second i))) c.loop-j.digests at c.digest.result [] (omega arith)
          c.loop-j.invariant.1
          (c.digest.ensures
          ∙ ap (λ x. sha256 (text_of (tag at) x (slice_index_or second at nothing).now)) (sym (piece_at first at))
          ∙ ap (λ y. sha256 (text_of (tag at) (piece first at) y)) (sym (piece_at second at))),
    )
