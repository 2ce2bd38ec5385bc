use Rattle.std.proofs.Common.{◌∙◌, sym, subst, map, arith}
use Rattle.stark_support.specs.Coset.{AreParts, AreDisjointCosets}
use Rattle.stark_support.specs.Recomposition.{common_log_size}
use Rattle.stark_support.specs.CosetListFacts.{shared_log}
use Rattle.stark_support.specs.LogarithmFacts.{two_power_at_most}
use Rattle.stark_protocol.specs.QuotientFacts.{recomposed_on_parts}
use Rattle.stark_protocol.proofs.recomposition.quotient_at.Goals as goal

pub split_domains-requires-clause-within : goal.split_domains-requires-clause-within
split_domains-requires-clause-within g c = omega (arith, c.requires.number, two_power_at_most c.args.log_chunks _ c.requires.within)

pub recompose_quotient_from_chunks-requires-clause-disjoint : goal.recompose_quotient_from_chunks-requires-clause-disjoint
recompose_quotient_from_chunks-requires-clause-disjoint g c =
    let coset_of = g.SC.Pcs.Domain.PolynomialSpace.coset_of in
    subst (λ domains. AreDisjointCosets g.SC.Pcs.Domain.Val.Field.ring g.SC.Pcs.Domain.Val.TwoAdicField.root (common_log_size (map coset_of domains)) (map coset_of domains)) (sym c.deref.ensures.value)
    (shared_log _ _ (c.in_ok-domains.ensures c.args.log_chunks (sym c.requires.number)).disjoint)

pub returns : goal.returns
returns g c =
    let coset_of = g.SC.Pcs.Domain.PolynomialSpace.coset_of in
    let coset = coset_of c.args.quotient_domain.now in
    let listed : AreParts g.SC.Pcs.Domain.Val.Field.ring g.SC.Pcs.Domain.Val.TwoAdicField.root coset c.args.log_chunks (map coset_of c.deref.result.now)
    = subst (λ domains. AreParts g.SC.Pcs.Domain.Val.Field.ring g.SC.Pcs.Domain.Val.TwoAdicField.root coset c.args.log_chunks (map coset_of domains)) (sym c.deref.ensures.value) (c.in_ok-domains.ensures c.args.log_chunks (sym c.requires.number)) in
    c.recompose_quotient_from_chunks.ensures.recomposed ∙
    recomposed_on_parts g.SC.Pcs.Domain.Val.Field.ring g.SC.Pcs.Domain.Val.TwoAdicField.root coset c.args.log_chunks g.SC.Challenge.ExtensionField.embed coset_of c.deref.result.now listed
    g.SC.Challenge.Field.ring g.SC.Challenge.Field.inverse_of g.SC.Challenge.ExtensionField.basis _ c.args.zeta
