use Rattle.std.proofs.Common.{ap, subst, sym, rules}
use Rattle.stark_support.specs.Scheme.{HasRows}
use Rattle.stark_support.specs.declared.matrix.RowMajorMatrix.{RowMajorMatrix}
use Rattle.stark_air.specs.Declaration.{Trace}
use Rattle.stark_quotient.specs.PointwiseQuotient.{matrix_or_empty}
use Rattle.stark_prover.proofs.QuotientSteps.{behind_references, domains_apart, over_columns}
use Rattle.stark_prover.proofs.quotient.quotient_on.Goals as goal

pub quotient_values-requires-clause-disjoint : goal.quotient_values-requires-clause-disjoint
quotient_values-requires-clause-disjoint g c =
    let space = g.met.SC.Pcs.Domain.PolynomialSpace in
    domains_apart g.met.SC.Pcs.Domain.Val.Field.field_laws _ g.SC.Pcs.Domain.Val.TwoAdicField.root _ g.met.SC.Pcs.Domain.Val.TwoAdicField.two_adic _ _ _ _ _ _ _ c.requires.domains (space.lawful c.args.domains.trace) (space.lawful c.args.domains.quotient)

pub returns : goal.returns
returns g c = λ columns preprocessed commitment stands preprocessed_stands.
    let as_trace = λ (m : RowMajorMatrix g.row.SC-Pcs-Domain-Val.Denot). let t : Trace g.row.SC-Pcs-Domain-Val.Denot = record { width = m.width; values = m.values.items } in t in
    let ring = g.SC.Pcs.Domain.Val.Field.ring in
    let root = g.SC.Pcs.Domain.Val.TwoAdicField.root in
    let coset = g.SC.Pcs.Domain.PolynomialSpace.coset_of c.args.domains.quotient in
    let seen = ap matrix_or_empty (behind_references as_trace c.as_ref.result c.in_ok-preprocessed.preprocessed c.as_ref.ensures.value) in
    over_columns _ ring root coset (as_trace c.in_ok-main.main) _ columns preprocessed c.args.instance.now.public_values.now c.args.alpha
    (c.in_ok-main.ensures c.args.domains.degree_bits columns commitment stands)
    (subst (λ (t : Trace g.row.SC-Pcs-Domain-Val.Denot). HasRows ring root coset preprocessed t.values t.width) (sym seen) (c.in_ok-preprocessed.ensures preprocessed preprocessed_stands)) _ c.in_ok-values.ensures

pub returns-in_err-main : goal.returns-in_err-main
returns-in_err-main c = search rules

pub returns-in_err-preprocessed : goal.returns-in_err-preprocessed
returns-in_err-preprocessed c = search rules

pub returns-in_err-values : goal.returns-in_err-values
returns-in_err-values c = search rules
