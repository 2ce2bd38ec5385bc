use Rattle.std.proofs.Common.{◌∙◌, sym}
use Rattle.stark_protocol.proofs.LagrangeFactors.{first_log_size}
use Rattle.stark_protocol.proofs.recomposition.common_log_size.Goals as goal

pub returns-in-Some : goal.returns-in-Some
returns-in-Some g c =
    first_log_size g.D.PolynomialSpace.coset_of c.args.domains.now c.in-Some.domain.now c.log2_strict_usize.result (sym c.in-Some.ensures.value) (c.log2_strict_usize.ensures ∙ c.size.ensures ∙ g.met.D.PolynomialSpace.size_is c.in-Some.domain.now)
