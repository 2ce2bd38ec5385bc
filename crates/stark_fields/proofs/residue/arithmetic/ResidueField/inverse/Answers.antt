use Rattle.stark_fields.specs.Residues.{residue_ring_laws, residue_inverse}
use Rattle.stark_fields.specs.Chain.{inverse_by_chain}
use Rattle.stark_fields.proofs.residue.arithmetic.ResidueField.inverse.Goals as goal

pub returns : goal.returns
unfolding residue_inverse
returns g c =
    let modulus = g.M.Modulus in
    inverse_by_chain residue_ring_laws c.args.self modulus.MODULUS modulus.TWO_ADICITY c.MODULUS.result c.TWO_ADICITY.result c.TWO_ADICITY-2.result
    c.to_ones-ones.result c.mul.result c.to_power.result c.mul-2.result modulus.two_adic.odd_part modulus.two_adic.multiple
    c.TWO_ADICITY.ensures c.MODULUS.ensures c.TWO_ADICITY-2.ensures c.to_ones-ones.ensures c.mul.ensures c.to_power.ensures c.mul-2.ensures
