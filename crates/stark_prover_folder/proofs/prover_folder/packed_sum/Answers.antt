use Rattle.std.proofs.Common.{ap, ◌∙◌, slice_index_or}
use Rattle.stark_prover_folder.specs.PackedSums.{lane_combination}
use Rattle.stark_prover_folder.proofs.prover_folder.packed_sum.Goals as goal

pub returns : goal.returns
returns g c = λ i within.
    let packed = g.met.P.PackedValue in
    let d = g.F.Field.ring.zero in
    ap (λ z. slice_index_or (g.P.PackedValue.lanes z) i d) c.packed_linear_combination.ensures
    ∙ lane_combination packed.lane_by_lane i d within g.F.Field.ZERO c.args.values.now c.args.coefficients.now
