use Rattle.std.proofs.Common.{arith, rules}
use Rattle.stark_lookup.proofs.DrawSteps.{no_power, one_power}
use Rattle.stark_lookup.proofs.values.drawn_elements.Goals as goal

pub loop-left-preserved : goal.loop-left-preserved
loop-left-preserved g c =
    one_power g.EF.Field.ring c.args.draws.beta c.loop-left.all.items _ _ c.loop-left.power _ c.loop-left.left _ (search rules) (search rules) (omega arith) c.loop-left.invariant

pub returns : goal.returns
returns g c = no_power g.EF.Field.ring c.args.draws.beta c.loop-left.all.items _ c.loop-left.power c.loop-left.left (omega arith) c.loop-left.invariant
