use Rattle.std.proofs.Common.{◌∙◌, List, ap, arith, map}
use Rattle.std.proofs.lemmas.List.{map-append}
use Rattle.stark_columns.specs.Columns.{column_list, columns_list}
use Rattle.stark_support.specs.Claims.{point_view}
use Rattle.stark_fri.specs.Claims.{MatrixRead, matrix_seen}
use Rattle.stark_fri_prover.specs.OwnClaims.{point_claims}
use Rattle.stark_fri_prover.proofs.PairSteps.{paired_all, paired_more}
use Rattle.stark_fri_prover.proofs.claims.matrix_claims.Goals as goal

pub loop-i-preserved : goal.loop-i-preserved
loop-i-preserved g c =
    let E = g.row.EF.Denot in
    let k = c.args.domain.log_size in
    let claim : MatrixRead E = (k, map point_view c.in_ok-matrix.matrix.items) in
    let of_height : List (E × List E) → MatrixRead E = λ t. (k, t) in
    paired_more (λ xs rows. (k, point_claims xs rows)) column_list columns_list c.args.points.now c.args.opened.now c.loop-i.i c.index-points-i.result c.index-opened-i.result claim
    (map (matrix_seen (λ d. record { shift = d.shift; log_size = d.log_size })) c.loop-i.claims.items) _
    (omega (arith, c.min-i-end.ensures)) (omega (arith, c.min-i-end.ensures)) c.index-points-i.is c.index-opened-i.is
    (ap of_height (c.in_ok-matrix.ensures ∙ ap (λ t. point_claims t (map column_list c.deref-in-loop-i.result.now)) c.deref.ensures.value
    ∙ ap (λ t. point_claims (column_list c.index-points-i.result) (map column_list t)) c.deref-in-loop-i.ensures.value))
    (ap (map (matrix_seen (λ d. record { shift = d.shift; log_size = d.log_size }))) c.in_ok-push.ensures.items ∙ map-append (matrix_seen (λ d. record { shift = d.shift; log_size = d.log_size })) c.loop-i.claims.items _)
    c.loop-i.invariant

pub returns : goal.returns
returns g c =
    paired_all (λ xs rows. (c.args.domain.log_size, point_claims xs rows)) column_list columns_list c.args.points.now c.args.opened.now c.loop-i.i
    (map (matrix_seen (λ d. record { shift = d.shift; log_size = d.log_size })) c.loop-i.claims.items) (omega (arith, c.min-i-end.ensures)) c.loop-i.invariant
