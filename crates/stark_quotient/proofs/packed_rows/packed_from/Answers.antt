use Rattle.std.proofs.Common.{◌∙◌, sym}
use Rattle.stark_quotient.proofs.LaneRows.{rest_at, rest_within}
use Rattle.stark_quotient.proofs.packed_rows.packed_from.Goals as goal

pub returns : goal.returns
returns g c = λ i below within.
    let obtained = c.packed_from_fn.ensures i below in
    obtained.2 ∙ sym (obtained.1 (rest_within c.args.values.now c.args.start i within)) ∙ rest_at c.args.values.now c.args.start i
