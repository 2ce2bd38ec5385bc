use Rattle.stark_fri_security.specs.ListedBits.{AreListedBits}
use Rattle.stark_service.proofs.SecuritySteps.{bits_of_none, bits_of_some, of_this_field, tree_fri_bound}
use Rattle.stark_service.proofs.security.proved_in_the_clear.Goals as goal

pub returns-in-Some : goal.returns-in-Some
returns-in-Some g c = record {
  bad = c.in_ok-counted.counted;
  counted = tree_fri_bound c.args.air.now c.args.log_height c.in_ok-counted.counted c.in_ok-counted.ensures.exact;
  field_bits = c.field_bits-bits.result;
  of_field = of_this_field c.order.result c.DIMENSION.result c.field_bits-bits.result _ _ c.order.ensures c.DIMENSION.ensures c.field_bits-bits.ensures;
  left = bits_of_some c.in_ok-counted.counted c.in-Some.bad (λ alphas zetas. AreListedBits c.field_bits-bits.result alphas zetas) _ c.in-Some.is c.listed_security_bits.ensures;
}

pub returns-in-None : goal.returns-in-None
returns-in-None g c = record {
  bad = c.in_ok-counted.counted;
  counted = tree_fri_bound c.args.air.now c.args.log_height c.in_ok-counted.counted c.in_ok-counted.ensures.exact;
  field_bits = c.field_bits-bits.result;
  of_field = of_this_field c.order.result c.DIMENSION.result c.field_bits-bits.result _ _ c.order.ensures c.DIMENSION.ensures c.field_bits-bits.ensures;
  left = bits_of_none c.in_ok-counted.counted (λ alphas zetas. AreListedBits c.field_bits-bits.result alphas zetas) c.in-None.is;
}
