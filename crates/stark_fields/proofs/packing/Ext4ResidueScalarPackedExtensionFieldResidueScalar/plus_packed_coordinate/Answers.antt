use Rattle.stark_fields.specs.Residues.{residue, residue_ring}
use Rattle.stark_fields.specs.Ext4Field.{basis_of, embedded, ext4_ring}
use Rattle.stark_fields.proofs.CoordinateFacts.{read_alone}
use Rattle.stark_fields.proofs.packing.Ext4ResidueScalarPackedExtensionFieldResidueScalar.plus_packed_coordinate.Goals as goal

pub returns : goal.returns
returns g c =
    read_alone (ext4_ring residue_ring (residue g.M.Modulus.QUARTIC_CONSTANT)) (embedded residue_ring) (basis_of residue_ring) c.args.index c.args.coordinate c.args.rest c.basis_element.result c.from.result c.mul.result c.add.result
    c.basis_element.ensures c.from.ensures c.mul.ensures c.add.ensures
