use Rattle.std.proofs.Common.{◌∙◌, ap, option_map, subst}
use Rattle.stark_protocol.proofs.Carried.{on_ok}
use Rattle.stark_completeness.specs.RowCheck.{IsSatisfiedByTrace, trace_of}
use Rattle.stark_completeness.proofs.declared.check_declared.Goals as goal

pub returns-clause-satisfied : goal.returns-clause-satisfied
returns-clause-satisfied g c =
    let field = g.F.TwoAdicField in
    let same = ap (option_map trace_of) c.as_ref.ensures.value ∙ c.in_ok-declared.ensures in
    on_ok _ _ c.check_constraints.result (λ _ holds.
    subst (λ declared. IsSatisfiedByTrace g.F.Field.ring g.F.Field.inverse_of field.root field.TWO_ADICITY (g.A.Air.constraints c.args.air.now) (g.A.BaseAir.periodic_columns c.args.air.now)
    (trace_of c.args.trace.now) declared c.args.public_values.now) same holds)
    c.check_constraints.ensures.satisfied
