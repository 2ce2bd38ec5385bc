use Rattle.std.proofs.Common.{rules, ◌≡◌, ◌∙◌, ap, arith, sym}
use Rattle.std.specs.Int.{to_be_bytes, w32}
use Rattle.std.proofs.lemmas.List.{take_all}
use Rattle.std.proofs.lemmas.Slice.{overwrites}
use Rattle.sha2.specs.Sha256.{digest_bytes}
use Rattle.sha2.proofs.Absorbing256.{digest_more}
use Rattle.stark_sha256.specs.Lanes.{lane}
use Rattle.stark_sha256.proofs.LaneFacts.{word_in_lane}
use Rattle.stark_sha256.proofs.digest.digest_in_lane.Goals as goal

pub loop-place-init : goal.loop-place-init
unfolding digest_bytes
loop-place-init g c = search rules

pub loop-place-preserved : goal.loop-place-preserved
loop-place-preserved g c =
    let words = lane c.args.j c.args.state.now in
    let word = sym (word_in_lane c.args.j c.args.state.now c.loop-place.place) in (
      search (rules, overwrites),
      digest_more c.loop-place.digest words c.copy_from_slice.new.self c.loop-place.place _
          c.loop-place.invariant.1 (omega arith)
          (c.copy_from_slice.ensures.after ∙ c.to_be_bytes.ensures ∙ ap (to_be_bytes w32) word),
    )

pub returns : goal.returns
returns g c =
    let done : c.loop-place.place ≡ 8 = omega arith in
    sym (take_all 32 c.loop-place.digest (omega arith)) ∙ rw done at c.loop-place.invariant.1
