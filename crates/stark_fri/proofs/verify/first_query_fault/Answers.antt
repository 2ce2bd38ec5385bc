use Rattle.std.proofs.Common.{rules, ◌≡◌, ◌∙◌, ap, arith, get_or, length, subst}
use Rattle.std.specs.List.{zip}
use Rattle.stark_fri.specs.Found.{FindsQueryFault}
use Rattle.stark_fri.specs.Query.{QueryFails, QueryHolds}
use Rattle.stark_fri.specs.Replayed.{target_of}
use Rattle.stark_fri.proofs.EightSteps.{first_hold, first_passed}
use Rattle.stark_fri.proofs.ListSteps.{holds_end, holds_step, passed_with_step, passed_with_stop, zip_at, zip_ended}
use Rattle.stark_fri.proofs.verify.first_query_fault.Invariants.{fields_of}
use Rattle.stark_fri.proofs.verify.first_query_fault.Goals as goal

pub loop-i-init : goal.loop-i-init
loop-i-init g c =
    let fields = fields_of g in
    let hash = g.H.TreeHash.digests in
    let target = target_of (fields_of g) g.D.PolynomialSpace.coset_of c.args.replayed.now in
    let queries = zip c.args.replayed.now.drawn.now.places.items c.args.replayed.now.proof.now.queries in
    let holding = c.in_ok-accepted.ensures in record {
      holds = first_hold (QueryHolds fields hash target) queries c.in_ok-accepted.accepted holding.1;
      passed = λ fault. first_passed (QueryHolds fields hash target) (QueryFails fields hash target fault) queries c.in_ok-accepted.accepted holding.0 holding.1;
    }

pub returns-in-Some : goal.returns-in-Some
returns-in-Some g c =
    let target = target_of (fields_of g) g.D.PolynomialSpace.coset_of c.args.replayed.now in
    let queries = zip c.args.replayed.now.drawn.now.places.items c.args.replayed.now.proof.now.queries in
    let is_place : c.index-place.result.now ≡ get_or c.args.replayed.now.drawn.now.places.items c.loop-i.i c.index-place.result.now = search rules in
    let at = zip_at c.args.replayed.now.drawn.now.places.items c.args.replayed.now.proof.now.queries c.loop-i.i _ _ _ c.loop-i-test.true is_place (c.index-queries-i.is ∙ ap (λ t. get_or t c.loop-i.i c.index-queries-i.result) c.queries-queries.ensures)
    _ _ c.min-i-end.ensures (c.len.ensures ∙ c.args.replayed.now.drawn.now.places.ok.0) (ap length c.queries-queries.ensures) in
    let holds = QueryHolds (fields_of g) g.H.TreeHash.digests target in
    passed_with_stop holds (QueryFails (fields_of g) g.H.TreeHash.digests target c.in-Some.fault) queries c.loop-i.i _ at.0 at.1
    (subst (FindsQueryFault (fields_of g) g.H.TreeHash.digests target (c.index-place.result.now, c.index-queries-i.result)) c.in-Some.is c.in_ok-answer.ensures) (c.loop-i.invariant.passed c.in-Some.fault)

pub loop-i-preserved : goal.loop-i-preserved
loop-i-preserved g c =
    let fields = fields_of g in
    let hash = g.H.TreeHash.digests in
    let target = target_of (fields_of g) g.D.PolynomialSpace.coset_of c.args.replayed.now in
    let queries = zip c.args.replayed.now.drawn.now.places.items c.args.replayed.now.proof.now.queries in
    let is_place : c.index-place.result.now ≡ get_or c.args.replayed.now.drawn.now.places.items c.loop-i.i c.index-place.result.now = search rules in
    let at = zip_at c.args.replayed.now.drawn.now.places.items c.args.replayed.now.proof.now.queries c.loop-i.i _ _ _ c.loop-i-test.true is_place (c.index-queries-i.is ∙ ap (λ t. get_or t c.loop-i.i c.index-queries-i.result) c.queries-queries.ensures)
    _ _ c.min-i-end.ensures (c.len.ensures ∙ c.args.replayed.now.drawn.now.places.ok.0) (ap length c.queries-queries.ensures) in
    let holds : QueryHolds fields hash target (c.index-place.result.now, c.index-queries-i.result) = subst (FindsQueryFault fields hash target (c.index-place.result.now, c.index-queries-i.result)) c.in_default.is c.in_ok-answer.ensures in record {
      holds = holds_step (QueryHolds fields hash target) queries c.loop-i.i _ at.0 at.1 holds c.loop-i.invariant.holds;
      passed = λ fault. passed_with_step (QueryHolds fields hash target) (QueryFails fields hash target fault) queries c.loop-i.i _ at.0 at.1 holds (c.loop-i.invariant.passed fault);
    }

pub returns : goal.returns
returns g c =
    let fields = fields_of g in
    let hash = g.H.TreeHash.digests in
    let target = target_of (fields_of g) g.D.PolynomialSpace.coset_of c.args.replayed.now in
    let places = c.args.replayed.now.drawn.now.places in
    let queries = c.args.replayed.now.proof.now.queries in
    let ended = c.loop-i-test.false in
    let end = c.min-i-end.ensures in
    let n : c.len.result ≡ length places.items = c.len.ensures ∙ places.ok.0 in
    let m : length c.queries-queries.result.now ≡ length queries = ap length c.queries-queries.ensures in
    holds_end (QueryHolds fields hash target) (zip places.items queries) c.loop-i.i (zip_ended places.items queries c.loop-i.i (omega (arith, ended, end, n, m))) c.loop-i.invariant.holds
