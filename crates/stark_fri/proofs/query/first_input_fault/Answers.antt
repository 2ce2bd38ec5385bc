use Rattle.std.proofs.Common.{◌≡◌, ◌∙◌, arith, length, map, subst, sym}
use Rattle.std.specs.List.{AllByRecursion, zip}
use Rattle.std.proofs.lemmas.Bool.{false≢true}
use Rattle.std.proofs.lemmas.List.{length-map, map-id}
use Rattle.stark_support.specs.Faults.{IsFirstFault}
use Rattle.stark_support.proofs.Loops.{left_end, left_step, passed_step, passed_stop}
use Rattle.stark_fri.specs.Claims.{round_seen}
use Rattle.stark_fri.specs.Query.{InputLeads}
use Rattle.stark_fri.proofs.ListSteps.{zip_ended, zip_mapped}
use Rattle.stark_fri.proofs.query.first_input_fault.Invariants.{fields_of}
use Rattle.stark_fri.proofs.query.first_input_fault.Goals as goal

pub returns-then-not-leads : goal.returns-then-not-leads
returns-then-not-leads g c =
    let leads = InputLeads (fields_of g) g.H.TreeHash.digests c.args.bits c.args.place in
    let seen = round_seen g.D.PolynomialSpace.coset_of in
    let both = zip (map seen c.args.claims.now) c.args.inputs.now in
    let at = zip_mapped c.args.claims.now c.args.inputs.now c.loop-r.r _ c.index-claims-r.result c.index-inputs-r.result c.loop-r-test.true c.index-claims-r.is c.index-inputs-r.is seen c.min-r-end.ensures in
    subst (λ t. IsFirstFault leads t c.loop-r.r) (map-id both)
    (passed_stop (λ v. v) leads both c.loop-r.r _ at.0 at.1 (λ w. false≢true (sym c.if-not-leads.true ∙ c.in_ok-leads.ensures.1 w)) c.loop-r.invariant.1)

pub loop-r-preserved : goal.loop-r-preserved
loop-r-preserved g c =
    let leads = InputLeads (fields_of g) g.H.TreeHash.digests c.args.bits c.args.place in
    let seen = round_seen g.D.PolynomialSpace.coset_of in
    let both = zip (map seen c.args.claims.now) c.args.inputs.now in
    let at = zip_mapped c.args.claims.now c.args.inputs.now c.loop-r.r _ c.index-claims-r.result c.index-inputs-r.result c.loop-r-test.true c.index-claims-r.is c.index-inputs-r.is seen c.min-r-end.ensures in
    let yes = c.in_ok-leads.ensures.0 c.if-not-leads.false in
    (left_step (λ v. v) leads both c.loop-r.r _ at.0 at.1 yes c.loop-r.invariant.0, passed_step (λ v. v) leads both c.loop-r.r _ at.0 at.1 yes c.loop-r.invariant.1)

pub returns : goal.returns
returns g c =
    let leads = InputLeads (fields_of g) g.H.TreeHash.digests c.args.bits c.args.place in
    let claims = c.args.claims.now in
    let inputs = c.args.inputs.now in
    let rounds = map (round_seen g.D.PolynomialSpace.coset_of) claims in
    let ended = c.loop-r-test.false in
    let end = c.min-r-end.ensures in
    let as_many : length rounds ≡ length claims = length-map claims (round_seen g.D.PolynomialSpace.coset_of) in
    subst (AllByRecursion leads) (map-id (zip rounds inputs))
    (left_end (λ v. v) leads (zip rounds inputs) c.loop-r.r (zip_ended rounds inputs c.loop-r.r (omega (arith, ended, end, as_many))) c.loop-r.invariant.0)
