use Rattle.std.proofs.Common.{◌∙◌, arith}
use Rattle.std.proofs.lemmas.Simd.{get_or-replicate}
use Rattle.stark_sha256.proofs.LaneFacts.{set_eight_in_lane, word_in_lane}
use Rattle.stark_sha256.proofs.compress.round.Goals as goal

pub returns : goal.returns
returns g c j h =
    set_eight_in_lane j c.args.v _ _ _ _ _ _ _ _ (omega arith)
    ∙ rw (
      c.add-3.ensures j h,
      c.add-4.ensures j h,
      c.add-temp1.ensures j h,
      c.add-temp2.ensures j h,
      c.add-2.ensures j h,
      c.add-chosen.ensures j h,
      c.add.ensures j h,
      c.big_sigma1.ensures j h,
      c.ch.ensures j h,
      c.big_sigma0.ensures j h,
      c.maj.ensures j h,
      get_or-replicate g.row.N j c.args.constant 0 h,
    ) (simp word_in_lane)
