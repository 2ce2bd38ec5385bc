use Rattle.std.proofs.Common.{◌∙◌, arith}
use Rattle.stark_sha256.proofs.LaneFacts.{set_eight_in_lane, word_in_lane}
use Rattle.stark_sha256.proofs.compress.add_state.Goals as goal

pub returns : goal.returns
returns g c j h =
    set_eight_in_lane j c.args.state _ _ _ _ _ _ _ _ (omega arith)
    ∙ rw (
      c.add.ensures j h,
      c.add-2.ensures j h,
      c.add-3.ensures j h,
      c.add-4.ensures j h,
      c.add-5.ensures j h,
      c.add-6.ensures j h,
      c.add-7.ensures j h,
      c.add-8.ensures j h,
    ) (simp word_in_lane)
