use Rattle.std.proofs.Common.{◌<◌, ◌∙◌, ◌*◌, ap, subst, sym}
use Rattle.stark_support.specs.Pairs.{both_lanes, pair_is_lane_by_lane, pair_parts}
use Rattle.stark_support.specs.Operations.{ring_operations}
use Rattle.stark_air.specs.Layout.{Covers}
use Rattle.stark_air.specs.LaneValues.{lane_environment}
use Rattle.stark_air.specs.Value.{constraint_values}
use Rattle.stark_parts.specs.Folded.{folded}
use Rattle.stark_quotient.specs.FoldedPlaces.{embedded}
use Rattle.stark_quotient.proofs.PackedRows.{group_covers, group_folded, same_powers}
use Rattle.stark_quotient.proofs.vectorized_eval.fold_pairs.Goals as goal

pub folded_pairs-requires-clause-covers : goal.folded_pairs-requires-clause-covers
folded_pairs-requires-clause-covers g c =
    let layout = g.A.BaseAir.layout c.args.air.now in
    let declared = g.met.A.BaseAir.as_declared c.args.air.now in
    subst (λ have. Covers have layout) (sym c.pairs_folder_on-folder.ensures.layout) (group_covers c.args.group.now layout _ _ c.requires.rows declared.main_next_row declared.preprocessed_next_row)

pub returns : goal.returns
returns g c = λ i within row is number preprocessed_number public_values.
    let group = c.args.group.now in
    let declared = g.met.A.BaseAir.as_declared c.args.air.now in
    let constraints = g.A.Air.constraints c.args.air.now in
    let folder = c.pairs_folder_on-folder.ensures in
    c.in_ok-packed.ensures group.powers.now.alpha (same_powers g.SC.Challenge.Field.ring g.SC.Challenge.ExtensionField.coordinates g.SC.Challenge.ExtensionField.DIMENSION group.powers.now.alpha constraints folder.base_powers folder.ext_powers c.requires.powers) i within ∙
    ap (λ e. folded g.SC.Challenge.Field.ring group.powers.now.alpha (constraint_values (ring_operations g.SC.Challenge.Field.ring g.SC.Challenge.ExtensionField.embed) (embedded g.SC.Challenge.ExtensionField.embed (lane_environment (both_lanes g.SC.Pcs.Domain.Val.Packing.PackedValue.lanes) i g.SC.Pcs.Domain.Val.Field.ring.zero e)) constraints)) folder.environment ∙
    group_folded g.SC.Pcs.Domain.Val.Field.ring g.SC.Challenge.Field.ring g.SC.Challenge.ExtensionField.embed (pair_is_lane_by_lane pair_parts g.met.SC.Pcs.Domain.Val.Packing.PackedValue.lane_by_lane) i (subst (λ n. i < 2 * n) g.met.SC.Challenge.PackedExtensionField.packed_as_wide within)
    group (g.A.BaseAir.layout c.args.air.now) _ _ c.requires.rows declared.main_next_row declared.preprocessed_next_row row is number preprocessed_number public_values constraints (g.met.A.Air.leaves_within c.args.air.now)
