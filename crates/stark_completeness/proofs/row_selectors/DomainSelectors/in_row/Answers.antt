use Rattle.std.proofs.Common.{◌∙◌, ap, sym}
use Rattle.stark_support.specs.CosetFacts.{root_has_order, root_nonzero}
use Rattle.stark_support.specs.Powers.{power}
use Rattle.stark_support.specs.Ring.{difference}
use Rattle.stark_completeness.proofs.RowCheckSteps.{first_not_there, first_there, last_not_there, last_there}
use Rattle.stark_completeness.proofs.row_selectors.DomainSelectors.in_row.Goals as goal
use Rattle.stark_completeness.proofs.row_selectors.DomainSelectors.in_row.Goals.{then-row-eq0, else-row-eq0, then-row-self, else-row-self}

pub returns : goal.returns
returns g c =
    let field = g.met.F.Field in
    let ring = g.F.Field.ring in
    let two_adic = g.F.TwoAdicField in
    let laws = field.field_laws in
    let h = c.args.log_height in
    let generator = two_adic.root h in
    let order = root_has_order laws two_adic.TWO_ADICITY two_adic.root g.F.Field.GENERATOR g.met.F.TwoAdicField.two_adic h c.requires.within in
    let nonzero = root_nonzero laws two_adic.TWO_ADICITY two_adic.root g.F.Field.GENERATOR g.met.F.TwoAdicField.two_adic h c.requires.within in
    record {
      first_is = elim c.if-row-eq0.branch [
        | then-row-eq0 w ↦ w.result-is ∙ first_there laws generator h order nonzero _ c.requires.domain.first_is c.args.row w.if-row-eq0.true
        | else-row-eq0 w ↦ w.result-is ∙ first_not_there laws generator h order nonzero _ (w.ZERO.ensures ∙ field.zero_is) c.args.row w.if-row-eq0.false c.requires.row
      ];
      last_is = elim c.if-row-self.branch [
        | then-row-self w ↦ w.result-is ∙ last_there laws generator h order nonzero _ c.requires.domain.last_is c.args.row (w.if-row-self.true ∙ c.requires.domain.size)
        | else-row-self w ↦ w.result-is ∙ last_not_there laws generator h order nonzero _ (w.ZERO-else-row-self.ensures ∙ field.zero_is) c.args.row (λ e. w.if-row-self.false (e ∙ sym c.requires.domain.size)) c.requires.row
      ];
      transition_is = field.sub_is _ _ _ c.sub.ensures ∙ ap (λ x. difference ring x c.args.self.now.generator_inverse) c.requires.point ∙ ap (difference ring (power ring generator c.args.row)) c.requires.domain.inverse_is;
    }
