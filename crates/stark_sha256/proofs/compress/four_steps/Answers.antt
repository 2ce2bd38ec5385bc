use Rattle.std.proofs.Common.{arith}
use Rattle.sha2.proofs.Schedule256.{IsRoundsAt_at}
use Rattle.stark_sha256.proofs.compress.four_steps.Goals as goal

pub returns : goal.returns
returns g c j low = λ b h holding.
    let one = c.step-v.ensures j low b h holding in
    let two = c.step-v-2.ensures j low b h (IsRoundsAt_at b h _ _ _ _ (omega arith) one) in
    let three = c.step-v-3.ensures j low b h (IsRoundsAt_at b h _ _ _ _ (omega arith) two) in
    let four = c.step.ensures j low b h (IsRoundsAt_at b h _ _ _ _ (omega arith) three) in
    IsRoundsAt_at b h _ _ _ _ (omega arith) four
