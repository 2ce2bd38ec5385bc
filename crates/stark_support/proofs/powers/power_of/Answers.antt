use Rattle.std.proofs.Common.{arith}
use Rattle.stark_support.specs.PowerFacts.{squared_even, squared_odd, squared_last}
use Rattle.stark_support.proofs.powers.power_of.Goals as goal
use Rattle.stark_support.proofs.powers.power_of.Goals.{then-left-eq1, else-left-eq1}

pub loop-left-preserved : goal.loop-left-preserved
loop-left-preserved g c =
    let field = g.met.F.Field in
    let square = field.mul_is _ _ _ c.mul-square.ensures in
    elim c.if-left-eq1.branch [
      | then-left-eq1 w ↦ rw (w.result-is, square, field.mul_is _ _ _ w.mul-result.ensures) (squared_odd field.field_laws.of_ring _ _ _ _ w.if-left-eq1.true c.loop-left.invariant)
      | else-left-eq1 w ↦ rw (w.result-is, square) (squared_even field.field_laws.of_ring _ _ _ _ w.if-left-eq1.false c.loop-left.invariant)
    ]

pub returns : goal.returns
returns g c =
    squared_last g.met.F.Field.field_laws.of_ring c.loop-left.result c.loop-left.square _ c.loop-left.left (omega (arith, c.loop-left-test.false)) c.loop-left.invariant
