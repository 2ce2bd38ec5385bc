use Rattle.std.proofs.Common.{◌∙◌, inr, refl, rules}
use Rattle.std.proofs.lemmas.Bool.{false≢true}
use Rattle.stark_support.specs.SubgroupFacts.{vanishing_of_subgroup}
use Rattle.stark_protocol.specs.Equation.{two_widths}
use Rattle.stark_verifier.proofs.EquationSteps.{constraints_hold, constraints_fail}
use Rattle.stark_verifier.proofs.constraints.check_rows.Goals as goal

pub returns-then-got_local-got_next-clause-fault : goal.returns-then-got_local-got_next-clause-fault
returns-then-got_local-got_next-clause-fault g c = inr (two_widths (λ e. c.if-got_local-got_next.true e))

pub returns-then-is_balanced-clause-holds : goal.returns-then-is_balanced-clause-holds
returns-then-is_balanced-clause-holds g c =
    let selectors = c.selectors_at_point-selectors in
    let domain = g.SC.Pcs.Domain.PolynomialSpace.coset_of c.args.trace in
    constraints_hold _ _ _ _ _ _ _ _ _ selectors.result.is_first_row selectors.result.is_last_row selectors.result.is_transition c.in_ok-folded.folded c.vanishing_poly_at_point.result
    selectors.ensures.first_row selectors.ensures.last_row selectors.ensures.transition c.in_ok-folded.ensures.folded
    (c.vanishing_poly_at_point.ensures ∙ vanishing_of_subgroup g.met.SC.Challenge.Field.field_laws g.met.SC.Challenge.ExtensionField.embeds _ _ _ g.met.SC.Pcs.Domain.Val.TwoAdicField.two_adic _ domain.shift c.args.zeta c.requires.subgroup)
    c.if-got_local-got_next.false (c.if-is_balanced.ensures.0 refl)

pub returns-else-is_balanced-clause-fault : goal.returns-else-is_balanced-clause-fault
returns-else-is_balanced-clause-fault g c =
    let selectors = c.selectors_at_point-selectors in
    let domain = g.SC.Pcs.Domain.PolynomialSpace.coset_of c.args.trace in
    inr (constraints_fail _ _ _ _ _ _ _ _ _ selectors.result.is_first_row selectors.result.is_last_row selectors.result.is_transition c.in_ok-folded.folded c.vanishing_poly_at_point.result
    selectors.ensures.first_row selectors.ensures.last_row selectors.ensures.transition c.in_ok-folded.ensures.folded
    (c.vanishing_poly_at_point.ensures ∙ vanishing_of_subgroup g.met.SC.Challenge.Field.field_laws g.met.SC.Challenge.ExtensionField.embeds _ _ _ g.met.SC.Pcs.Domain.Val.TwoAdicField.two_adic _ domain.shift c.args.zeta c.requires.subgroup)
    c.if-got_local-got_next.false (λ e. false≢true (c.if-is_balanced.ensures.1 e)))

pub returns-in_err-folded : goal.returns-in_err-folded
returns-in_err-folded g c = search rules
