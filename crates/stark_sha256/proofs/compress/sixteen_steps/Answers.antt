use Rattle.std.proofs.Common.{arith}
use Rattle.sha2.proofs.Schedule256.{IsRoundsAt_at}
use Rattle.stark_sha256.proofs.compress.sixteen_steps.Goals as goal

pub returns : goal.returns
returns g c j low = λ b h holding.
    let four = c.four_steps-v.ensures j low b h (IsRoundsAt_at b h _ _ _ _ (omega arith) holding) in
    let eight = c.four_steps-v-2.ensures j low b h (IsRoundsAt_at b h _ _ _ _ (omega arith) four) in
    let twelve =
    c.four_steps-v-3.ensures j low b h (IsRoundsAt_at b h _ _ _ _ (omega arith) eight) in
    let sixteen = c.four_steps.ensures j low b h (IsRoundsAt_at b h _ _ _ _ (omega arith) twelve) in
    IsRoundsAt_at b h _ _ _ _ (omega arith) sixteen
