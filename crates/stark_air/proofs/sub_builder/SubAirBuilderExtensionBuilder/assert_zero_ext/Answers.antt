use Rattle.std.proofs.Common.{refl, subst}
use Rattle.stark_air.specs.Shift.{shift_tree, value_shift}
use Rattle.stark_air.proofs.Steps.{if_ok_map}
use Rattle.stark_air.proofs.sub_builder.SubAirBuilderExtensionBuilder.assert_zero_ext.Goals as goal

pub returns-clause-asserted : goal.returns-clause-asserted
returns-clause-asserted g c =
    let s = c.args.self.now in
    let start = s.column_range.start in
    let values = value_shift g.AB.Expr.Algebra.operations (g.AB.BaseAirBuilder.environment s.inner.now) start in
    if_ok_map c.assert_zero_ext.result c.assert_zero_ext.ensures.asserted (λ k t h.
    (refl, refl, refl, k (shift_tree start t) (subst (λ v. g.AB.ExtensionBuilder.stands_above v c.args.x) (values t) h)))
