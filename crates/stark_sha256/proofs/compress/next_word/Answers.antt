use Rattle.std.proofs.Common.{◌≡◌, ◌%◌, arith}
use Rattle.stark_sha256.proofs.LaneFacts.{word_in_lane}
use Rattle.stark_sha256.proofs.compress.next_word.Goals as goal

pub returns-clause-value : goal.returns-clause-value
returns-clause-value g c j h =
    let at : c.args.place % 16 ≡ c.args.place = omega arith in
    rw (
      at,
      c.add-word.ensures j h,
      c.add.ensures j h,
      c.add-near.ensures j h,
      c.small_sigma1.ensures j h,
      c.small_sigma0.ensures j h,
    ) (simp word_in_lane)
