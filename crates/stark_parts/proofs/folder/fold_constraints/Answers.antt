use Rattle.std.proofs.Common.{ap, refl, ◌∙◌}
use Rattle.stark_support.specs.Operations.{ring_operations}
use Rattle.stark_air.specs.Rows.{environment_of}
use Rattle.stark_air.specs.Value.{constraint_values}
use Rattle.stark_parts.specs.Folded.{folded_rows}
use Rattle.stark_parts.proofs.folder.fold_constraints.Goals as goal

pub returns-clause-folded : goal.returns-clause-folded
returns-clause-folded g c =
    let ring = g.SC.Challenge.Field.ring in
    let o = ring_operations ring g.SC.Challenge.ExtensionField.embed in
    let laws = g.met.SC.Challenge.Field in
    folded_rows laws.field_laws.of_ring c.args.alpha c.ZERO.result _
    (λ r s t u. constraint_values o (environment_of o g.SC.Pcs.Domain.Val.Field.ring.zero ring.zero r s t u c.args.rows.public_values.now c.args.rows.periodic_values.now c.args.selectors.is_first_row c.args.selectors.is_last_row c.args.selectors.is_transition) (g.A.Air.constraints c.args.air.now))
    (ap (λ s. s.accumulator) c.in_ok-eval.ensures.asserted) (c.ZERO.ensures ∙ laws.zero_is) c.new_row.ensures.values c.new_row-2.ensures.values refl refl
