use Rattle.std.proofs.Common.{◌≡◌, ◌+◌, ◌∙◌, arith}
use Rattle.stark_fri_security.proofs.CountSteps.{first_is, next_is, next_within, product_fits, product_positive}
use Rattle.stark_fri_security.specs.ProvedBits.{passing_parts}
use Rattle.stark_fri_security.proofs.proved.passing_parts.Goals as goal

pub loop-query-init : goal.loop-query-init
loop-query-init c = (first_is c.args.whole c.args.passing c.args.places, c.requires.any, omega arith)

pub overflow_mul-parts : goal.overflow_mul-parts
overflow_mul-parts c = omega (arith, product_fits c.loop-query.parts c.args.whole c.args.passing c.args.places c.loop-query.invariant.2 c.requires.whole c.requires.within c.requires.few)

pub loop-query-preserved : goal.loop-query-preserved
loop-query-preserved c =
    let next : c.rounded_up-parts.result ≡ passing_parts c.args.whole c.args.passing c.args.places (c.loop-query._query + 1)
    = c.rounded_up-parts.ensures.parts ∙ next_is c.args.whole c.args.passing c.args.places c.loop-query.parts c.loop-query._query c.loop-query.invariant.0 in (
      next,
      c.rounded_up-parts.ensures.some (product_positive c.loop-query.parts c.args.passing c.loop-query.invariant.1 c.requires.some),
      next_within c.rounded_up-parts.result c.args.whole c.args.passing c.args.places (c.loop-query._query + 1) (omega arith) c.requires.within next,
    )
