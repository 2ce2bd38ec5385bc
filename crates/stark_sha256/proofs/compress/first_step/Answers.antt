use Rattle.std.proofs.Common.{refl, sym}
use Rattle.sha2.proofs.Schedule256.{rounds_first}
use Rattle.stark_sha256.specs.Lanes.{lane}
use Rattle.stark_sha256.proofs.LaneFacts.{word_in_lane}
use Rattle.stark_sha256.proofs.compress.first_step.Goals as goal

pub returns : goal.returns
returns g c j low = λ b h window holding.
    let words = lane j c.args.window.now in
    rounds_first b h words (lane j c.args.v) c.args.place _ _ _ c.requires window holding refl
    (sym (word_in_lane j c.args.window.now c.args.place)) (c.round.ensures j low)
