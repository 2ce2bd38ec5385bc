use Rattle.stark_fields.specs.Residues.{residue_ring_laws}
use Rattle.stark_fields.specs.Chain.{first_ones, ones_even, ones_odd}
use Rattle.stark_fields.proofs.residue.Residue.+to_ones.Goals as goal

pub returns-then-bits-eq1 : goal.returns-then-bits-eq1
returns-then-bits-eq1 g t c = first_ones residue_ring_laws c.args.self c.args.bits c.if-bits-eq1.true

pub returns-then-bits-eq1-2 : goal.returns-then-bits-eq1-2
returns-then-bits-eq1-2 g t c =
    ones_odd residue_ring_laws c.args.self c.args.bits c.to_ones-ones.result c.squared.result c.mul-both.result c.mul.result c.mul-then-bits-eq1-2.result c.if-bits-eq1-2.true
    c.to_ones-ones.ensures c.squared.ensures c.mul-both.ensures c.mul.ensures c.mul-then-bits-eq1-2.ensures

pub returns-else-bits-eq1-2 : goal.returns-else-bits-eq1-2
returns-else-bits-eq1-2 g t c =
    ones_even residue_ring_laws c.args.self c.args.bits c.to_ones-ones.result c.squared.result c.mul-both.result c.if-bits-eq1-2.false c.to_ones-ones.ensures c.squared.ensures c.mul-both.ensures
