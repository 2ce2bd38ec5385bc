use Rattle.stark_fields.proofs.CoordinateFacts.{read_in_lanes}
use Rattle.stark_fields.proofs.packing.Ext4P12289PackedExtensionFieldP12289.plus_packed_coordinate.Goals as goal

pub returns : goal.returns
returns c = read_in_lanes c.args.index c.args.coordinate c.args.rest c.plus_coordinate.result c.plus_coordinate.ensures
