use Rattle.std.proofs.Common.{◌∙◌, ap, length}
use Rattle.std.proofs.lemmas.List.{length-map}
use Rattle.stark_support.specs.Subgroup.{subgroup_of}
use Rattle.stark_commands.specs.Opened.{rows_with}
use Rattle.stark_commands.specs.Point.{PointVerdict}
use Rattle.stark_commands.proofs.EquationParts.{verdict_of_equals}
use Rattle.stark_commands.proofs.point.equation_at.Goals as goal

pub check_equation-requires-clause-widths : goal.check_equation-requires-clause-widths
check_equation-requires-clause-widths g c =
    c.requires.widths c.deref.result.now (ap length (c.deref.ensures.value ∙ c.in-Ok.ensures) ∙ length-map c.args.columns.now.columns.now _)

pub returns : goal.returns
unfolding PointVerdict
returns g c =
    verdict_of_equals g.SC.Pcs.Domain.Val.Field.ring g.SC.Challenge.Field.ring g.SC.Challenge.ExtensionField.embed
    (subgroup_of g.SC.Challenge.Field.inverse_of g.SC.Challenge.ExtensionField.embed g.SC.Pcs.Domain.Val.TwoAdicField.root (g.SC.Pcs.Domain.PolynomialSpace.coset_of c.args.domains.now.trace)) (g.A.Air.constraints c.args.air.now)
    (rows_with c.args.opened.now) c.args.opened.now.zeta c.args.opened.now.alpha c.check_equation.result c.deref.result.now _ c.in-Ok-quotient_at.quotient _ (c.deref.ensures.value ∙ c.in-Ok.ensures) c.in-Ok-quotient_at.ensures c.check_equation.ensures
