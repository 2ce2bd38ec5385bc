use Rattle.std.proofs.Common.{◌∙◌, ap, map, sym}
use Rattle.std.proofs.lemmas.List.{length-map}
use Rattle.stark_support.specs.Sponge.{observed_all}
use Rattle.stark_fri.specs.Claims.{round_seen}
use Rattle.stark_fri.specs.Transcript.{observed_number, observed_round}
use Rattle.stark_fri.proofs.ObserveSteps.{all_observed, one_more_observed}
use Rattle.stark_fri.proofs.transcript.observe_claims.Invariants.{calls_of}
use Rattle.stark_fri.proofs.transcript.observe_claims.Goals as goal

pub loop-claim-init : goal.loop-claim-init
loop-claim-init g c =
    let calls = calls_of g in
    let seen = round_seen g.D.PolynomialSpace.coset_of in
    ap (observed_all (observed_round calls) (map seen c.args.claims.now))
    (c.observe_number.ensures ∙ ap (observed_number calls c.args.challenger.now) (sym (length-map c.args.claims.now seen)))

pub loop-claim-preserved : goal.loop-claim-preserved
loop-claim-preserved g c =
    one_more_observed (round_seen g.D.PolynomialSpace.coset_of) (observed_round (calls_of g)) c.args.claims.now c.loop-claim.claim-index c.claim-item.result
    c.loop-claim.challenger c.observe_round.new.challenger _ c.loop-claim-test.true c.claim-item.is c.observe_round.ensures c.loop-claim.invariant

pub returns : goal.returns
returns g c =
    all_observed (round_seen g.D.PolynomialSpace.coset_of) (observed_round (calls_of g)) c.args.claims.now c.loop-claim.claim-index
    c.loop-claim.challenger _ c.loop-claim-test.false c.loop-claim.invariant
