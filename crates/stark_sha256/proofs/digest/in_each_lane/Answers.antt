use Rattle.std.proofs.Common.{◌≡◌, ◌<◌, ◌∙◌, ℕ, [], arith, length-set, replicate, slice_index}
use Rattle.std.proofs.lemmas.Grind.{same_number_lists}
use Rattle.std.proofs.lemmas.List.{length-map}
use Rattle.std.proofs.lemmas.Simd.{get_or-replicate}
use Rattle.stark_sha256.specs.Lanes.{lane}
use Rattle.stark_sha256.proofs.LaneFacts.{one_more, word_in_lane}
use Rattle.stark_sha256.proofs.digest.in_each_lane.Goals as goal

pub loop-i-preserved : goal.loop-i-preserved
loop-i-preserved g c =
    let value = slice_index c.args.value.now c.loop-i.i in (
      length-set c.loop-i.state c.loop-i.i (replicate g.row.N value) ∙ c.loop-i.invariant.0,
      one_more (λ k word. (j : ℕ) → j < g.row.N → slice_index word j ≡ slice_index c.args.value.now k) c.loop-i.state c.loop-i.i
          (replicate g.row.N value) [] (omega arith) c.loop-i.invariant.1 (λ j low. get_or-replicate g.row.N j value 0 low),
    )

pub returns : goal.returns
returns g c j low =
    let long = length-map c.loop-i.state (λ word. slice_index word j) ∙ c.loop-i.invariant.0 in
    same_number_lists (lane j c.loop-i.state) c.args.value.now (omega arith)
    (λ k below. word_in_lane j c.loop-i.state k ∙ c.loop-i.invariant.1 k (omega arith) j low)
