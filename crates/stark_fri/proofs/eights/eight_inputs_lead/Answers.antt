use Rattle.std.proofs.Common.{◌≡◌, ◌<◌, arith, length, map}
use Rattle.std.specs.List.{zip}
use Rattle.std.proofs.lemmas.List.{length-map}
use Rattle.stark_fri.specs.Claims.{round_seen}
use Rattle.stark_fri.specs.Query.{InputLeads}
use Rattle.stark_fri.proofs.EightSteps.{some_at}
use Rattle.stark_fri.proofs.ListSteps.{holds_end, holds_step, zip_ended, zip_place, zip_within}
use Rattle.stark_fri.proofs.WalkSteps.{mapped_place}
use Rattle.stark_fri.proofs.eights.eight_inputs_lead.Invariants.{fields_of}
use Rattle.stark_fri.proofs.eights.eight_inputs_lead.Goals as goal

pub loop-r-preserved : goal.loop-r-preserved
loop-r-preserved g c = λ j place query low is_place is_query.
    let fields = fields_of g in
    let hash = g.H.TreeHash.digests in
    let bits = c.args.bits in
    let claims = c.args.claims.now in
    let seen = round_seen g.D.PolynomialSpace.coset_of in
    let rounds = map seen claims in
    let r = c.loop-r.r in
    let claim = c.index-claims-r.result in
    let turn = c.loop-r-test.true in
    let as_many : length rounds ≡ length claims = length-map claims seen in
    let opened : length query.inputs ≡ length claims = c.requires.rounds j query low is_query in
    let in_rounds : r < length rounds = omega (arith, turn, as_many) in
    let in_inputs : r < length query.inputs = omega (arith, turn, opened) in
    let input = some_at query.inputs r in_inputs in
    let leads = c.in_ok-eight_rows_lead.ensures c.if-not-branch.false j place query low is_place is_query input.0 input.1 in
    holds_step (InputLeads fields hash bits place) (zip rounds query.inputs) r (seen claim, input.0) (zip_within rounds query.inputs r (omega (arith, in_rounds, in_inputs)))
    (zip_place rounds query.inputs r (seen claim) input.0 in_rounds in_inputs (mapped_place seen claims r claim turn c.index-claims-r.is) input.1)
    leads (c.loop-r.invariant j place query low is_place is_query)

pub returns : goal.returns
returns g c = λ yes j place query low is_place is_query.
    let claims = c.args.claims.now in
    let seen = round_seen g.D.PolynomialSpace.coset_of in
    let rounds = map seen claims in
    let ended = c.loop-r-test.false in
    let as_many : length rounds ≡ length claims = length-map claims seen in
    holds_end (InputLeads (fields_of g) g.H.TreeHash.digests c.args.bits place) (zip rounds query.inputs) c.loop-r.r
    (zip_ended rounds query.inputs c.loop-r.r (omega (arith, ended, as_many))) (c.loop-r.invariant j place query low is_place is_query)
