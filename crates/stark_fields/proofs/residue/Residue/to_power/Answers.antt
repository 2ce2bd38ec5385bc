use Rattle.std.proofs.Common.{arith, ap, ◌∙◌}
use Rattle.stark_support.specs.RingFacts.{one_mul}
use Rattle.stark_support.specs.Powers.{power}
use Rattle.stark_support.specs.PowerFacts.{squared_even, squared_odd, squared_last}
use Rattle.stark_fields.specs.Residues.{residue_ring, residue_ring_laws}
use Rattle.stark_fields.proofs.residue.Residue.to_power.Goals as goal
use Rattle.stark_fields.proofs.residue.Residue.to_power.Goals.{then-left-eq1, else-left-eq1}

pub loop-left-init : goal.loop-left-init
loop-left-init g c = ap (λ t. residue_ring.mul t (power residue_ring c.args.self c.args.exponent)) c.new-result.ensures ∙ one_mul residue_ring_laws (power residue_ring c.args.self c.args.exponent)

pub loop-left-preserved : goal.loop-left-preserved
loop-left-preserved g c =
    elim c.if-left-eq1.branch [
      | then-left-eq1 w ↦ rw (w.result-is, c.mul-square.ensures, w.mul-result.ensures) (squared_odd residue_ring_laws c.loop-left.result c.loop-left.square (power residue_ring c.args.self c.args.exponent) c.loop-left.left w.if-left-eq1.true c.loop-left.invariant)
      | else-left-eq1 w ↦ rw (w.result-is, c.mul-square.ensures) (squared_even residue_ring_laws c.loop-left.result c.loop-left.square (power residue_ring c.args.self c.args.exponent) c.loop-left.left w.if-left-eq1.false c.loop-left.invariant)
    ]

pub returns : goal.returns
returns g c = squared_last residue_ring_laws c.loop-left.result c.loop-left.square _ c.loop-left.left (omega (arith, c.loop-left-test.false)) c.loop-left.invariant
