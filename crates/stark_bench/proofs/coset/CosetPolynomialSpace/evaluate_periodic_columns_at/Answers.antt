use Rattle.std.proofs.Common.{◌≡◌, ◌^◌, IfOk, map, sym, subst}
use Rattle.stark_support.specs.TwoAdic.{HasOrder}
use Rattle.stark_support.specs.CosetFacts.{root_has_order}
use Rattle.stark_support.specs.Periodic.{periodic_value}
use Rattle.stark_bench.proofs.coset.CosetPolynomialSpace.evaluate_periodic_columns_at.Goals as goal

pub values_at-requires-clause-order : goal.values_at-requires-clause-order
values_at-requires-clause-order g c =
    let ring = g.F.Field.ring in
    let log_size = c.args.self.now.log_size in
    subst (HasOrder ring c.two_adic_generator-generator.result) (sym c.requires)
    (subst (λ h. HasOrder ring h (2 ^ log_size)) (sym c.two_adic_generator-generator.ensures)
    (root_has_order g.met.F.Field.field_laws g.F.TwoAdicField.TWO_ADICITY g.F.TwoAdicField.root g.F.Field.GENERATOR g.met.F.TwoAdicField.two_adic log_size c.args.self.now.within))

pub returns : goal.returns
returns g c =
    let ring = g.F.Field.ring in
    let inverse = g.F.Field.inverse_of in
    let columns = c.args.columns.now.columns.now in
    subst (λ n. IfOk c.values_at.result (λ values. values.items ≡ map (λ column. periodic_value ring inverse (g.F.TwoAdicField.root c.args.self.now.log_size) n g.EF.Field.ring g.EF.ExtensionField.embed column.items c.args.point) columns)) c.requires
    (subst (λ h. IfOk c.values_at.result (λ values. values.items ≡ map (λ column. periodic_value ring inverse h c.args.columns.now.trace_len g.EF.Field.ring g.EF.ExtensionField.embed column.items c.args.point) columns))
    c.two_adic_generator-generator.ensures c.values_at.ensures.values)
