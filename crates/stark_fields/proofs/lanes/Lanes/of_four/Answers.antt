use Rattle.stark_fields.proofs.LaneFacts.{four_residues}
use Rattle.stark_fields.proofs.lanes.Lanes.of_four.Goals as goal

pub returns : goal.returns
returns g c = let e = four_residues c.args.first c.args.second c.args.third c.args.fourth in cc
