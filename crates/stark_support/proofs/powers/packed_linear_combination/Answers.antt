use Rattle.stark_support.proofs.CombinationSteps.{each_itself}
use Rattle.stark_support.proofs.powers.packed_linear_combination.Goals as goal

pub returns : goal.returns
returns g c =
    let packed = g.met.P.PackedValue in
    let values = c.args.values.now in
    packed.exact_lanes _ _ (c.batched_linear_combination.ensures values (each_itself g.P.Algebra.stands g.met.P.Algebra.stands_itself values))
