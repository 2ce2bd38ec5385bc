use Rattle.std.proofs.Common.{arith}
use Rattle.stark_prover.proofs.domains.committed_domain.Goals as goal

pub overflow_add-degree_bits : goal.overflow_add-degree_bits
overflow_add-degree_bits g c =
    let greatest = g.met.SC.Pcs.UnivariateStarkPcs.scheme_laws.greatest_height (g.SC.StarkGenericConfig.config.scheme c.args.config.now) in
    record { fits = omega (arith, greatest, c.requires, c.is_zk.ensures) }

pub natural_domain-requires-clause-fits : goal.natural_domain-requires-clause-fits
natural_domain-requires-clause-fits g c =
    let greatest = g.met.SC.Pcs.UnivariateStarkPcs.scheme_laws.greatest_height (g.SC.StarkGenericConfig.config.scheme c.args.config.now) in
    omega (arith, greatest, c.requires, c.is_zk.ensures)
