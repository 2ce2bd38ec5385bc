use Rattle.stark_fields.proofs.ExtensionLaneFacts.{element_set}
use Rattle.stark_fields.proofs.extension_lanes.arithmetic.ExtensionLanesPackedValue.with_lane.Goals as goal

pub returns : goal.returns
returns g c =
    element_set c.args.self c.args.lane c.args.value c.requires c.with_lane.result c.with_lane-2.result c.with_lane-3.result c.with_lane-4.result
    c.with_lane.ensures c.with_lane-2.ensures c.with_lane-3.ensures c.with_lane-4.ensures
