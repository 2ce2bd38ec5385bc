use Rattle.std.proofs.Common.{◌≡◌, ◌∙◌, [], arith, length-set}
use Rattle.sha2.specs.Sha256.{digest_bytes}
use Rattle.stark_sha256.specs.Lanes.{lane}
use Rattle.stark_sha256.proofs.LaneFacts.{one_more}
use Rattle.stark_sha256.proofs.digest.digests_in_lanes.Goals as goal

pub loop-j-preserved : goal.loop-j-preserved
loop-j-preserved g c = (
  length-set c.loop-j.digests c.loop-j.j c.digest_in_lane.result ∙ c.loop-j.invariant.0,
  one_more (λ i x. x ≡ digest_bytes (lane i c.args.state.now) 8) c.loop-j.digests c.loop-j.j c.digest_in_lane.result [] (omega arith)
      c.loop-j.invariant.1 c.digest_in_lane.ensures,
)
