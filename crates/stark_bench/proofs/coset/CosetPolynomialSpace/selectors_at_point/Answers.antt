use Rattle.std.proofs.Common.{◌∙◌, ap, sym}
use Rattle.stark_support.specs.Selectors.{first_row_selector, last_row_selector, transition_selector}
use Rattle.stark_support.specs.Subgroup.{group_of}
use Rattle.stark_support.specs.SubgroupFacts.{group_computed, group_vanishing, vanishing_of_subgroup}
use Rattle.stark_bench.proofs.coset.CosetPolynomialSpace.selectors_at_point.Goals as goal

pub group_selectors-requires-clause-group : goal.group_selectors-requires-clause-group
group_selectors-requires-clause-group g c =
    let self = c.args.self.now in
    group_computed g.met.EF.Field.field_laws g.met.EF.ExtensionField.embeds _ _ _ g.met.F.TwoAdicField.two_adic (record { shift = self.shift; log_size = self.log_size })
    (record { shift_nonzero = self.shift_nonzero; within = self.within }) c.generator_in-generator.result c.generator_in-generator.ensures

pub group_selectors-requires-clause-outside : goal.group_selectors-requires-clause-outside
group_selectors-requires-clause-outside g c =
    let self = c.args.self.now in
    group_vanishing g.met.EF.Field.field_laws g.met.EF.ExtensionField.embeds _ _ _ g.met.F.TwoAdicField.two_adic (record { shift = self.shift; log_size = self.log_size }) c.args.point
    c.requires.subgroup c.requires.outside

pub returns-clause-first_row : goal.returns-clause-first_row
returns-clause-first_row g c =
    c.group_selectors.ensures.first_row ∙
    ap (λ h. first_row_selector g.EF.Field.ring (λ k. k) (group_of g.EF.Field.inverse_of h c.args.self.now.log_size) c.args.point) c.generator_in-generator.ensures

pub returns-clause-last_row : goal.returns-clause-last_row
returns-clause-last_row g c =
    c.group_selectors.ensures.last_row ∙
    ap (λ h. last_row_selector g.EF.Field.ring (λ k. k) (group_of g.EF.Field.inverse_of h c.args.self.now.log_size) c.args.point) c.generator_in-generator.ensures

pub returns-clause-transition : goal.returns-clause-transition
returns-clause-transition g c =
    c.group_selectors.ensures.transition ∙
    ap (λ h. transition_selector g.EF.Field.ring (λ k. k) (group_of g.EF.Field.inverse_of h c.args.self.now.log_size) c.args.point) c.generator_in-generator.ensures

pub returns-clause-inv_vanishing : goal.returns-clause-inv_vanishing
returns-clause-inv_vanishing g c =
    let self = c.args.self.now in
    c.group_selectors.ensures.inv_vanishing ∙
    ap g.EF.Field.inverse_of (sym (vanishing_of_subgroup g.met.EF.Field.field_laws g.met.EF.ExtensionField.embeds _ _ _ g.met.F.TwoAdicField.two_adic
    _ self.shift c.args.point c.requires.subgroup))
