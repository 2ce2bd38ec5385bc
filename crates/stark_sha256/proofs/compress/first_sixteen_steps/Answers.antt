use Rattle.std.proofs.Common.{refl}
use Rattle.sha2.specs.Sha256.{rounds}
use Rattle.stark_sha256.specs.Lanes.{lane}
use Rattle.stark_sha256.proofs.compress.first_sixteen_steps.Goals as goal

pub returns : goal.returns
unfolding rounds
returns g c j low = λ b window.
    let h = lane j c.args.state in
    let four = c.first_four_steps-v.ensures j low b h window refl in
    let eight = c.first_four_steps-v-2.ensures j low b h window four in
    let twelve = c.first_four_steps-v-3.ensures j low b h window eight in
    c.first_four_steps.ensures j low b h window twelve
