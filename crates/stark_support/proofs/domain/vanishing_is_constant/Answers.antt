use Rattle.std.proofs.Common.{◌∙◌, ◌^◌, ap, sym}
use Rattle.stark_support.specs.Powers.{power}
use Rattle.stark_support.specs.CosetFacts.{root_has_order}
use Rattle.stark_support.specs.DivisionFacts.{vanishing_on_coset, vanishing_off_coset}
use Rattle.stark_support.proofs.domain.vanishing_is_constant.Goals as goal

pub returns-clause-constant : goal.returns-clause-constant
returns-clause-constant g c = λ i.
    let laws = g.met.D.Val.Field.field_laws in
    let other = g.D.PolynomialSpace.coset_of c.args._other.now in
    let order = root_has_order laws _ _ _ g.met.D.Val.TwoAdicField.two_adic other.log_size (g.met.D.PolynomialSpace.lawful c.args._other.now).within in
    vanishing_on_coset laws.of_ring g.D.Val.Field.inverse_of (g.D.Val.TwoAdicField.root other.log_size) _ (g.D.PolynomialSpace.coset_of c.args._domain.now).shift other.shift i
    (ap (λ k. power g.D.Val.Field.ring (g.D.Val.TwoAdicField.root other.log_size) (2 ^ k)) (sym c.requires.subgroup) ∙ order.reaches)

pub returns-clause-nonzero : goal.returns-clause-nonzero
returns-clause-nonzero g c = λ i.
    vanishing_off_coset g.met.D.Val.Field.field_laws _ _ _ g.met.D.Val.TwoAdicField.two_adic (g.D.PolynomialSpace.coset_of c.args._other.now) (g.D.PolynomialSpace.coset_of c.args._domain.now)
    (g.met.D.PolynomialSpace.lawful c.args._domain.now) (record { apart = λ j k e. c.requires.disjoint.apart k j (sym e) }) i
