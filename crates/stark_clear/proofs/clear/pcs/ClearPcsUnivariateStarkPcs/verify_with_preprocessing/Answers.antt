use Rattle.std.proofs.Common.{rules, subst, map}
use Rattle.stark_support.specs.Claims.{claim_view}
use Rattle.stark_clear.specs.ClearClaims.{ClaimsAreTrue, ClaimsFault}
use Rattle.stark_clear.specs.ClearFacts.{at_fault}
use Rattle.stark_clear.specs.Stops.{StopsAt}
use Rattle.stark_clear.specs.declared.clear.call.ClearCall.TheVariants.{Verify}
use Rattle.stark_clear.proofs.clear.pcs.ClearPcsUnivariateStarkPcs.verify_with_preprocessing.Goals as goal

pub returns-in-Ok-clause-accepted : goal.returns-in-Ok-clause-accepted
returns-in-Ok-clause-accepted g c =
    let goes : StopsAt c.args.self.now.stops_at Verify → ⊥ = search rules in
    (subst (λ t. ClaimsAreTrue g.EF.Field.ring g.EF.ExtensionField.embed (map (claim_view (λ d. record { shift = d.shift; log_size = d.log_size })) t)) c.deref.ensures.value c.in-Ok.ensures.accepted, goes)

pub returns-clause-refused : goal.returns-clause-refused
returns-clause-refused g c =
    let goes : StopsAt c.args.self.now.stops_at Verify → ⊥ = search rules in
    at_fault g.EF.Field.ring g.EF.ExtensionField.embed c.args.self.now.stops_at _ c.in-Err.error goes
    (subst (λ t. ClaimsFault g.EF.Field.ring g.EF.ExtensionField.embed (map (claim_view (λ d. record { shift = d.shift; log_size = d.log_size })) t) c.in-Err.error) c.deref.ensures.value c.in-Err.ensures.refused)

pub returns-in_err-pass : goal.returns-in_err-pass
returns-in_err-pass c = search rules
