use Rattle.std.proofs.Common.{◌∙◌, List, ap, arith, map}
use Rattle.std.proofs.lemmas.List.{map-append, map-id}
use Rattle.stark_columns.specs.Columns.{column_list}
use Rattle.stark_support.specs.Claims.{point_view}
use Rattle.stark_fri_prover.specs.OwnClaims.{point_claims}
use Rattle.stark_fri_prover.proofs.PairSteps.{paired_all, paired_more}
use Rattle.stark_fri_prover.proofs.claims.point_claims.Goals as goal

pub loop-i-preserved : goal.loop-i-preserved
loop-i-preserved g c =
    let E = g.row.EF.Denot in
    let x = c.index-points-i.result in
    let claim : E × List E = (x, c.deref.result.now) in
    let pair : List E → E × List E = λ t. (x, t) in
    paired_more (λ x row. (x, row)) (λ x. x) column_list c.args.points.now c.args.rows.now c.loop-i.i x c.index-rows-i.result claim (map point_view c.loop-i.claims.items) _
    (omega (arith, c.min-i-end.ensures)) (omega (arith, c.min-i-end.ensures)) c.index-points-i.is c.index-rows-i.is (ap pair c.deref.ensures.value)
    (ap (map point_view) c.in_ok-push.ensures.items ∙ map-append point_view c.loop-i.claims.items _) c.loop-i.invariant

pub returns : goal.returns
returns g c =
    paired_all (λ x row. (x, row)) (λ x. x) column_list c.args.points.now c.args.rows.now c.loop-i.i (map point_view c.loop-i.claims.items) (omega (arith, c.min-i-end.ensures)) c.loop-i.invariant
    ∙ ap (λ t. point_claims t (map column_list c.args.rows.now)) (map-id c.args.points.now)
