use Rattle.std.proofs.Common.{arith}
use Rattle.stark_fields.proofs.CoordinateFacts.{added_to_first, added_to_second, added_to_third, added_to_fourth}
use Rattle.stark_fields.proofs.extension_lanes.ExtensionLanes.plus_coordinate.Goals as goal

pub returns-in-0 : goal.returns-in-0
returns-in-0 g c = added_to_first c.args.index c.args.residues c.args.self c.add.result c.in-0.is c.add.ensures

pub returns-in-1 : goal.returns-in-1
returns-in-1 g c = added_to_second c.args.index c.args.residues c.args.self c.add-in-1.result c.in-1.is c.add-in-1.ensures

pub returns-in-2 : goal.returns-in-2
returns-in-2 g c = added_to_third c.args.index c.args.residues c.args.self c.add-in-2.result c.in-2.is c.add-in-2.ensures

pub returns-in_default : goal.returns-in_default
returns-in_default g c = added_to_fourth c.args.index c.args.residues c.args.self c.add-in_default.result (omega (arith, c.requires, c.in_default)) c.add-in_default.ensures
