use Rattle.std.proofs.Common.{◌∙◌, ◌++◌, ap, sym}
use Rattle.std.proofs.lemmas.List.Folds.{flat_map-map}
use Rattle.stark_support.specs.Claims.{point_view}
use Rattle.stark_fri.specs.Query.{seen_at_point}
use Rattle.stark_fri.proofs.ListSteps.{all_pieces, one_more_piece}
use Rattle.stark_fri.proofs.seen.push_matrix.Invariants.{fields_of, seen_here}
use Rattle.stark_fri.proofs.seen.push_matrix.Goals as goal

pub loop-point-preserved : goal.loop-point-preserved
loop-point-preserved g c =
    one_more_piece (seen_here g c.args.row.now) c.args.points.now c.loop-point.point-index c.point-item.result
    c.loop-point.seen.items c.push_point.new.seen.items _ c.loop-point-test.true c.point-item.is c.in_ok-push_point.ensures c.loop-point.invariant

pub returns : goal.returns
returns g c =
    let seen = seen_at_point (fields_of g) c.args.row.now in
    all_pieces (seen_here g c.args.row.now) c.args.points.now c.loop-point.point-index c.loop-point.seen.items _ c.loop-point-test.false c.loop-point.invariant
    ∙ ap (λ t. c.args.seen.now.items ++ t) (sym (flat_map-map seen point_view c.args.points.now))
