use Rattle.std.proofs.Common.{sym}
use Rattle.stark_lookup.proofs.GroundSteps.{with_work}
use Rattle.stark_lookup.proofs.draws.grind_lookups.Goals as goal

pub returns : goal.returns
returns g c =
    let ground = c.in_ok-witness in
    with_work _ g.met.C.GrindingChallenger.grinding _ _ _ _ _ _ _ _ c.bind.ensures c.if-bits-eq0.false (sym ground.ensures.answer) _ ground.ensures.state c.draw-2.ensures.answer c.draw-2.ensures.state
