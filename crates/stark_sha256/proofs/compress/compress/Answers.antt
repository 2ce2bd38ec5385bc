use Rattle.std.proofs.Common.{◌≡◌, ◌*◌, ap, arith}
use Rattle.sha2.specs.Sha256.{add_state, compress}
use Rattle.sha2.proofs.Schedule256.{IsWindow_first}
use Rattle.stark_sha256.specs.Lanes.{lane}
use Rattle.stark_sha256.proofs.compress.compress.Goals as goal

pub loop-turn-init : goal.loop-turn-init
loop-turn-init g c j low b words =
    let window = IsWindow_first b (lane j c.args.words) words.0 words.1 in
    (window, c.first_sixteen_steps-v.ensures j low b window)

pub loop-turn-preserved : goal.loop-turn-preserved
loop-turn-preserved g c j low b words =
    c.sixteen_steps-next.ensures j low b (lane j c.args.state) (c.loop-turn.invariant j low b words)

pub returns : goal.returns
unfolding compress
returns g c j low = λ b words.
    let done : 16 * c.loop-turn.turn ≡ 64 = omega arith in
    let last = c.loop-turn.invariant j low b words in
    rw (c.add_state.ensures j low) (ap (add_state (lane j c.args.state)) (rw done at last.1))
