use Rattle.std.proofs.Common.{◌+◌, ◌≤◌, sym, subst, ap, ◌∙◌, arith}
use Rattle.stark_support.specs.Scheme.{natural_coset}
use Rattle.stark_protocol.proofs.preprocessed.committed_domain.Goals as goal

pub overflow_add-degree_bits : goal.overflow_add-degree_bits
overflow_add-degree_bits g c =
    let greatest = g.met.SC.Pcs.UnivariateStarkPcs.scheme_laws.greatest_height (g.SC.StarkGenericConfig.config.scheme c.args.config.now) in
    record { fits = omega (arith, greatest, c.requires.within, c.is_zk.ensures) }

pub natural_domain-requires-clause-fits : goal.natural_domain-requires-clause-fits
natural_domain-requires-clause-fits g c =
    let greatest = g.met.SC.Pcs.UnivariateStarkPcs.scheme_laws.greatest_height (g.SC.StarkGenericConfig.config.scheme c.args.config.now) in
    omega (arith, greatest, c.requires.within, c.is_zk.ensures)

pub natural_domain-requires-clause-within : goal.natural_domain-requires-clause-within
natural_domain-requires-clause-within g c =
    subst (λ k. c.args.log_height + k ≤ g.SC.Pcs.Pcs.scheme.log_max_trace_height (g.SC.StarkGenericConfig.config.scheme c.args.config.now)) (sym c.is_zk.ensures) c.requires.within

pub returns-clause-domain : goal.returns-clause-domain
returns-clause-domain g c =
    c.natural_domain.ensures ∙ ap (λ k. natural_coset g.SC.Pcs.Domain.Val.Field.ring (c.args.log_height + k)) c.is_zk.ensures
