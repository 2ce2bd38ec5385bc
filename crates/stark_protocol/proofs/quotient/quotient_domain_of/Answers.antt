use Rattle.std.proofs.Common.{◌∙◌, ◌+◌, ◌^◌, IsNone, Some, arith, refl, sym, ap}
use Rattle.stark_protocol.specs.QuotientFacts.{beyond_group, domain_of_size, quotient_beyond, quotient_clear, size_of_sum, within_group}
use Rattle.stark_protocol.proofs.quotient.quotient_domain_of.Goals as goal

pub returns-in-Some-try_create_disjoint_domain-clause-clear : goal.returns-in-Some-try_create_disjoint_domain-clause-clear
returns-in-Some-try_create_disjoint_domain-clause-clear g c =
    let n = c.args.degree_bits + c.args.log_parts in
    let sum = size_of_sum n (c.in-Some.field-0-0, c.in-Some.size) (n, 2 ^ n) refl c.in-Some.ensures.fits c.in-Some.ensures.other in
    quotient_clear c.args.log_parts c.args.is_zk c.args.degree_bits g.D.Val.TwoAdicField.TWO_ADICITY c.args.greatest_height (omega (arith, c.if-log_chunks-ge64.false)) sum.0
    (within_group g.D.Val.TwoAdicField.TWO_ADICITY n c.in-Some.size sum.1 (λ above. let none : IsNone (Some c.in-Some-try_create_disjoint_domain.domain) = c.in-Some-try_create_disjoint_domain.ensures.none.1 above in cc))

pub returns-in-Some-try_create_disjoint_domain-clause-domain : goal.returns-in-Some-try_create_disjoint_domain-clause-domain
returns-in-Some-try_create_disjoint_domain-clause-domain g c =
    let n = c.args.degree_bits + c.args.log_parts in
    let sum = size_of_sum n (c.in-Some.field-0-0, c.in-Some.size) (n, 2 ^ n) refl c.in-Some.ensures.fits c.in-Some.ensures.other in
    domain_of_size g.D.Val.Field.ring g.D.Val.Field.GENERATOR (g.D.PolynomialSpace.coset_of c.args.committed.now) (g.D.PolynomialSpace.coset_of c.in-Some-try_create_disjoint_domain.domain)
    c.args.degree_bits c.args.log_parts c.in-Some.size c.requires.height sum.1 c.in-Some-try_create_disjoint_domain.ensures.shift c.in-Some-try_create_disjoint_domain.ensures.size

pub returns-in-None-clause-fault : goal.returns-in-None-clause-fault
returns-in-None-clause-fault g c =
    let n = c.args.degree_bits + c.args.log_parts in
    let sum = size_of_sum n (c.in-Some.field-0-0, c.in-Some.size) (n, 2 ^ n) refl c.in-Some.ensures.fits c.in-Some.ensures.other in
    quotient_beyond c.args.log_parts c.args.is_zk c.args.degree_bits g.D.Val.TwoAdicField.TWO_ADICITY c.args.greatest_height (omega (arith, c.if-log_chunks-ge64.false)) sum.0
    (beyond_group g.D.Val.TwoAdicField.TWO_ADICITY n c.in-Some.size sum.1 (c.in-None.ensures.none.0 refl)) ∙ ap (λ e. Some e) (sym c.too_large-in-None.ensures)
