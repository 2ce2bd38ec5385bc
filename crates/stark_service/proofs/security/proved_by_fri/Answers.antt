use Rattle.stark_fri_security.specs.ProvedBits.{AreProvedBits}
use Rattle.stark_service.proofs.SecuritySteps.{bits_of_none, bits_of_some, tree_fri_bound}
use Rattle.stark_service.proofs.security.proved_by_fri.Goals as goal

pub returns-in-Some : goal.returns-in-Some
returns-in-Some g c = record {
  bad = c.in_ok-counted.counted;
  counted = tree_fri_bound c.args.air.now c.args.log_height c.in_ok-counted.counted c.in_ok-counted.ensures.exact;
  left = bits_of_some c.in_ok-counted.counted c.in-Some.bad (λ alphas zetas. AreProvedBits c.args.params.now alphas zetas c.args.log_height) _ c.in-Some.is c.proved_security_bits.ensures;
}

pub returns-in-None : goal.returns-in-None
returns-in-None g c = record {
  bad = c.in_ok-counted.counted;
  counted = tree_fri_bound c.args.air.now c.args.log_height c.in_ok-counted.counted c.in_ok-counted.ensures.exact;
  left = bits_of_none c.in_ok-counted.counted (λ alphas zetas. AreProvedBits c.args.params.now alphas zetas c.args.log_height) c.in-None.is;
}
