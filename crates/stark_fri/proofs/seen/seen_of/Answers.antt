use Rattle.std.proofs.Common.{◌∙◌, ◌++◌, ◌<◌, ap, arith, length, map}
use Rattle.std.proofs.lemmas.List.{length-map}
use Rattle.std.specs.List.{flat_map, zip}
use Rattle.stark_fri.specs.Claims.{matrix_seen, round_seen}
use Rattle.stark_fri.specs.Query.{seen_in_matrix, seen_in_round}
use Rattle.stark_fri.proofs.ListSteps.{all_pieces, one_more_piece, zip_ended, zip_place, zip_within}
use Rattle.stark_fri.proofs.WalkSteps.{mapped_place}
use Rattle.stark_fri.proofs.seen.seen_of.Invariants.{fields_of}
use Rattle.stark_fri.proofs.seen.seen_of.Goals as goal

pub loop-r-init : goal.loop-r-init
loop-r-init g c =
    let both = zip (map (round_seen g.D.PolynomialSpace.coset_of) c.args.claims.now) c.args.inputs.now in
    ap (λ t. t ++ flat_map (seen_in_round (fields_of g)) both) c.new-seen.ensures.items

pub loop-r-preserved : goal.loop-r-preserved
loop-r-preserved g c =
    let seen = round_seen g.D.PolynomialSpace.coset_of in
    let claims = c.args.claims.now in
    let inputs = c.args.inputs.now in
    let i = c.loop-r.r in
    let claim = c.index-claims-r.result in
    let input = c.index-inputs-r.result in
    let turn = c.loop-r-test.true in
    let end = c.min-r-end.ensures in
    let in_claims : i < length claims = omega (arith, turn, end) in
    let in_inputs : i < length inputs = omega (arith, turn, end) in
    let as_many = length-map claims seen in
    let here : i < length (map seen claims) = omega (arith, in_claims, as_many) in
    one_more_piece (seen_in_round (fields_of g)) (zip (map seen claims) inputs) i (seen claim, input) c.loop-r.seen.items c.push_round.new.seen.items _
    (zip_within (map seen claims) inputs i (omega (arith, here, in_inputs)))
    (zip_place (map seen claims) inputs i (seen claim) input here in_inputs (mapped_place seen claims i claim in_claims c.index-claims-r.is) c.index-inputs-r.is)
    (c.in_ok-push_round.ensures
    ∙ ap (λ t. c.loop-r.seen.items ++ flat_map (seen_in_matrix (fields_of g)) (zip (map (matrix_seen g.D.PolynomialSpace.coset_of) c.deref.result.now) t)) c.rows.ensures
    ∙ ap (λ t. c.loop-r.seen.items ++ flat_map (seen_in_matrix (fields_of g)) (zip (map (matrix_seen g.D.PolynomialSpace.coset_of) t) input.rows)) c.deref.ensures.value)
    c.loop-r.invariant

pub returns : goal.returns
returns g c =
    let seen = round_seen g.D.PolynomialSpace.coset_of in
    let claims = c.args.claims.now in
    let inputs = c.args.inputs.now in
    let ended = c.loop-r-test.false in
    let end = c.min-r-end.ensures in
    let as_many = length-map claims seen in
    all_pieces (seen_in_round (fields_of g)) (zip (map seen claims) inputs) c.loop-r.r c.loop-r.seen.items _
    (zip_ended (map seen claims) inputs c.loop-r.r (omega (arith, ended, end, as_many))) c.loop-r.invariant
