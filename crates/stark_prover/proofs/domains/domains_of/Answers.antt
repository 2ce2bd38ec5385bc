use Rattle.std.proofs.Common.{arith}
use Rattle.stark_prover.proofs.domains.domains_of.Goals as goal

pub natural_domain-trace-requires-clause-fits : goal.natural_domain-trace-requires-clause-fits
natural_domain-trace-requires-clause-fits g c =
    let greatest = g.met.SC.Pcs.UnivariateStarkPcs.scheme_laws.greatest_height (g.SC.StarkGenericConfig.config.scheme c.args.instance.now.config.now) in
    omega (arith, greatest, c.requires)

pub quotient_domain_of-requires-clause-fits : goal.quotient_domain_of-requires-clause-fits
quotient_domain_of-requires-clause-fits g c =
    let greatest = g.met.SC.Pcs.UnivariateStarkPcs.scheme_laws.greatest_height (g.SC.StarkGenericConfig.config.scheme c.args.instance.now.config.now) in
    omega (arith, greatest, c.requires, c.is_zk-is_zk.ensures, c.committed_domain-degree_bits.ensures.bits)
