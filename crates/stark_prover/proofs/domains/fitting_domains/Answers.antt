use Rattle.std.proofs.Common.{arith}
use Rattle.stark_prover.proofs.domains.fitting_domains.Goals as goal

pub test_columns-requires : goal.test_columns-requires
test_columns-requires g c =
    let greatest = g.met.SC.Pcs.UnivariateStarkPcs.scheme_laws.greatest_height (g.SC.StarkGenericConfig.config.scheme c.args.instance.now.config.now) in
    omega (arith, greatest, c.requires)
