use Rattle.std.proofs.Common.{◌∙◌, ◌<◌, ◌*◌, ap, map, refl, subst, sym}
use Rattle.std.specs.Vec.{vec_items}
use Rattle.stark_support.specs.Pairs.{both_lanes, pair_is_lane_by_lane, pair_parts}
use Rattle.std.proofs.lemmas.List.{length-map}
use Rattle.stark_quotient.specs.FoldedLanes.{folded_lane}
use Rattle.stark_quotient.proofs.PowerCounts.{kept_rows_length, powers_length}
use Rattle.stark_quotient.proofs.vectorized_eval.folded_pairs.Goals as goal

pub finalize_constraints-requires-clause-dimension : goal.finalize_constraints-requires-clause-dimension
finalize_constraints-requires-clause-dimension g c = sym (length-map c.args.folder.now.base_alpha_powers.now vec_items) ∙ c.requires.powers.1.base.number

pub finalize_constraints-requires-clause-rows : goal.finalize_constraints-requires-clause-rows
finalize_constraints-requires-clause-rows g c = kept_rows_length c.args.folder.now.base_alpha_powers.now c.requires.powers.1 {s = c.args.folder.now} {t = c.eval.new.builder} c.in_ok-eval.ensures.asserted c.requires.nothing_kept

pub finalize_constraints-requires-clause-powers : goal.finalize_constraints-requires-clause-powers
finalize_constraints-requires-clause-powers g c = powers_length c.requires.powers.1 {s = c.args.folder.now} {t = c.eval.new.builder} c.in_ok-eval.ensures.asserted (ap (map (both_lanes g.SC.Challenge.ExtensionPacking.PackedValue.lanes)) c.requires.nothing_kept_above) (both_lanes g.SC.Challenge.ExtensionPacking.PackedValue.lanes) c.eval.new.builder.ext_constraints.items refl

pub returns : goal.returns
returns g c = λ alpha are i within.
    let lanes = both_lanes g.SC.Challenge.ExtensionPacking.PackedValue.lanes in
    let base = g.met.SC.Pcs.Domain.Val in
    let field = g.met.SC.Challenge in
    c.in_ok-finalize_constraints.ensures i within ∙
    folded_lane field.Field.field_laws.of_ring field.ExtensionField.embeds base.PackedField.packed_ring (pair_is_lane_by_lane pair_parts base.Packing.PackedValue.lane_by_lane) field.ExtensionField.is_basis {s = c.args.folder.now} {t = c.eval.new.builder}
    c.in_ok-eval.ensures.asserted c.requires.nothing_kept (ap (map lanes) c.requires.nothing_kept_above) alpha _ _ are lanes c.eval.new.builder.ext_constraints.items refl _ _
    base.Field.zero_is field.Field.zero_is i (subst (λ n. i < 2 * n) field.PackedExtensionField.packed_as_wide within)
