use Rattle.stark_support.specs.Subgroup.{subgroup_of}
use Rattle.stark_commands.proofs.EquationFaults.{equation_fails}
use Rattle.stark_commands.proofs.point.check_equation.Goals as goal

pub returns-in_default : goal.returns-in_default
returns-in_default g c =
    equation_fails g.SC.Pcs.Domain.Val.Field.ring g.SC.Challenge.Field.ring g.SC.Challenge.ExtensionField.embed
    (subgroup_of g.SC.Challenge.Field.inverse_of g.SC.Challenge.ExtensionField.embed g.SC.Pcs.Domain.Val.TwoAdicField.root (g.SC.Pcs.Domain.PolynomialSpace.coset_of c.args.trace_domain)) (g.A.Air.constraints c.args.air.now)
    _ c.args.opened.now.zeta c.args.opened.now.alpha c.args.quotient c.requires.one_width c.in-Err.error c.in_default.not-OutOfMemory c.in-Err.ensures.fault
