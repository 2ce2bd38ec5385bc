use Rattle.std.proofs.Common.{ap, ◌∙◌, arith}
use Rattle.sha2.specs.Sha256.{rounds, schedule}
use Rattle.stark_sha256.proofs.compress.first_four_steps.Goals as goal

pub returns : goal.returns
returns g c j low = λ b h window holding.
    let after = rounds h (schedule b 48) in
    let one = c.first_step-v.ensures j low b h window holding in
    let two = c.first_step-v-2.ensures j low b h window one in
    let three = c.first_step-v-3.ensures j low b h window (two ∙ ap after (omega arith)) in
    c.first_step.ensures j low b h window (three ∙ ap after (omega arith)) ∙ ap after (omega arith)
