use Rattle.std.proofs.Common.{◌∙◌}
use Rattle.stark_support.specs.LogarithmFacts.{same_exponent}
use Rattle.stark_fri.proofs.transcript.log_size_of.Goals as goal

pub returns : goal.returns
returns g c = same_exponent _ _ (c.log2_strict_usize.ensures ∙ c.size.ensures ∙ g.met.D.PolynomialSpace.size_is c.args.domain.now)
