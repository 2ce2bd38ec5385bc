use Rattle.std.proofs.Common.{◌≡◌}
use Rattle.stark_support.specs.Powers.{power}
use Rattle.stark_fields.specs.Residues.{residue_ring}
use Rattle.stark_fields.proofs.residue.Residue.to_power.Given as goal

abbrev pub invariant-loop-left : goal.invariant-loop-left
invariant-loop-left g l = residue_ring.mul l.result (power residue_ring l.square l.left) ≡ power residue_ring l.fn.self l.fn.exponent

abbrev pub decreases-loop-left : goal.decreases-loop-left
decreases-loop-left g l = l.left
