use Rattle.std.proofs.Common.{◌∙◌, ◌^◌, ap, map, ℕ}
use Rattle.stark_support.specs.Recomposition.{common_log_size, recomposition}
use Rattle.stark_support.specs.DomainRecomposition.{recomposes_on_domains}
use Rattle.stark_protocol.proofs.recomposition.recompose_quotient_from_chunks.Goals as goal

pub returns-then-are_cyclic-clause-everywhere : goal.returns-then-are_cyclic-clause-everywhere
returns-then-are_cyclic-clause-everywhere g c = λ chunks p parts opened.
    let field = g.met.SC.Challenge.Field in
    let coset_of = g.SC.Pcs.Domain.PolynomialSpace.coset_of in
    let domains = c.args.quotient_chunks_domains.now in
    let log_size = common_log_size (map coset_of domains) in
    let shifts = map (λ (domain : g.row.SC-Pcs-Domain.Denot). g.SC.Challenge.ExtensionField.embed (coset_of domain).shift) domains in
    c.recompose_on_cycle.ensures ∙
    ap (λ (k : ℕ). recomposition g.SC.Challenge.Field.ring g.SC.Challenge.Field.ring (λ x. x) g.SC.Challenge.Field.inverse_of (2 ^ k) g.SC.Challenge.ExtensionField.basis shifts (map (λ chunk. chunk.items) c.args.quotient_chunks.now) c.args.zeta)
    c.common_log_size-log_size.ensures ∙
    ap (λ values. recomposition g.SC.Challenge.Field.ring g.SC.Challenge.Field.ring (λ x. x) g.SC.Challenge.Field.inverse_of (2 ^ log_size) g.SC.Challenge.ExtensionField.basis shifts values c.args.zeta) opened ∙
    recomposes_on_domains field.field_laws g.met.SC.Challenge.ExtensionField.embeds g.met.SC.Pcs.Domain.Val.Field.field_laws.of_ring _ _ _ g.met.SC.Pcs.Domain.Val.TwoAdicField.two_adic coset_of g.met.SC.Pcs.Domain.PolynomialSpace.lawful log_size
    domains c.requires.disjoint g.SC.Challenge.ExtensionField.basis chunks p parts c.args.zeta

pub returns-else-are_cyclic-clause-everywhere : goal.returns-else-are_cyclic-clause-everywhere
returns-else-are_cyclic-clause-everywhere g c = λ chunks p parts opened.
    let field = g.met.SC.Challenge.Field in
    let coset_of = g.SC.Pcs.Domain.PolynomialSpace.coset_of in
    let domains = c.args.quotient_chunks_domains.now in
    let log_size = common_log_size (map coset_of domains) in
    let shifts = map (λ (domain : g.row.SC-Pcs-Domain.Denot). g.SC.Challenge.ExtensionField.embed (coset_of domain).shift) domains in
    c.recompose_by_weights.ensures ∙
    ap (λ (k : ℕ). recomposition g.SC.Challenge.Field.ring g.SC.Challenge.Field.ring (λ x. x) g.SC.Challenge.Field.inverse_of (2 ^ k) g.SC.Challenge.ExtensionField.basis shifts (map (λ chunk. chunk.items) c.args.quotient_chunks.now) c.args.zeta)
    c.common_log_size-log_size.ensures ∙
    ap (λ values. recomposition g.SC.Challenge.Field.ring g.SC.Challenge.Field.ring (λ x. x) g.SC.Challenge.Field.inverse_of (2 ^ log_size) g.SC.Challenge.ExtensionField.basis shifts values c.args.zeta) opened ∙
    recomposes_on_domains field.field_laws g.met.SC.Challenge.ExtensionField.embeds g.met.SC.Pcs.Domain.Val.Field.field_laws.of_ring _ _ _ g.met.SC.Pcs.Domain.Val.TwoAdicField.two_adic coset_of g.met.SC.Pcs.Domain.PolynomialSpace.lawful log_size
    domains c.requires.disjoint g.SC.Challenge.ExtensionField.basis chunks p parts c.args.zeta
