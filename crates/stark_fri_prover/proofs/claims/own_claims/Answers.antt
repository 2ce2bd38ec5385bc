use Rattle.std.proofs.Common.{◌∙◌, List, ap, arith, map}
use Rattle.std.proofs.lemmas.List.{map-append}
use Rattle.stark_columns.specs.Columns.{column_list, columns_list}
use Rattle.stark_support.specs.Claims.{round_view}
use Rattle.stark_merkle.specs.declared.root.Root.{Root}
use Rattle.stark_fri.specs.Claims.{MatrixRead, RoundRead, matrix_seen, round_seen, rounds_in}
use Rattle.stark_fri_prover.specs.OwnClaims.{matrix_claims}
use Rattle.stark_fri_prover.proofs.PairSteps.{paired_all, paired_more}
use Rattle.stark_fri_prover.proofs.claims.own_claims.Goals as goal

pub loop-i-preserved : goal.loop-i-preserved
loop-i-preserved g c =
    let E = g.row.EF.Denot in
    let matrices : List (MatrixRead E) = map (matrix_seen (λ d. record { shift = d.shift; log_size = d.log_size })) c.in_ok-matrices.matrices.items in
    let claim : RoundRead E = (c.root.result.now, matrices) in
    let kept = c.index-rounds-i.result.0.now in
    let under : Root → RoundRead E = λ t. (t, matrices) in
    let of_data : List (MatrixRead E) → RoundRead E = λ t. (kept.root, t) in
    paired_more (λ r matrices. (r.0.root, matrix_claims r.0.domain.log_size r.1 matrices)) round_view (λ round. map columns_list round.items) c.args.rounds.now c.args.opened.now c.loop-i.i
    c.index-rounds-i.result c.index-opened-i.result claim (rounds_in (λ d. record { shift = d.shift; log_size = d.log_size }) c.loop-i.claims.items) _
    (omega (arith, c.min-i-end.ensures)) (omega (arith, c.min-i-end.ensures)) c.index-rounds-i.is c.index-opened-i.is
    (ap under c.root.ensures ∙ ap of_data (c.in_ok-matrices.ensures
    ∙ ap (λ d. matrix_claims d.log_size (map column_list c.deref.result.now) (map columns_list c.deref-in-loop-i.result.now)) c.domain.ensures
    ∙ ap (λ t. matrix_claims kept.domain.log_size (map column_list t) (map columns_list c.deref-in-loop-i.result.now)) c.deref.ensures.value
    ∙ ap (λ t. matrix_claims kept.domain.log_size (map column_list c.index-rounds-i.result.1.items) (map columns_list t)) c.deref-in-loop-i.ensures.value))
    (ap (rounds_in (λ d. record { shift = d.shift; log_size = d.log_size })) c.in_ok-push.ensures.items ∙ map-append (round_seen (λ d. record { shift = d.shift; log_size = d.log_size })) c.loop-i.claims.items _)
    c.loop-i.invariant

pub returns : goal.returns
returns g c =
    paired_all (λ r matrices. (r.0.root, matrix_claims r.0.domain.log_size r.1 matrices)) round_view (λ round. map columns_list round.items) c.args.rounds.now c.args.opened.now c.loop-i.i
    (rounds_in (λ d. record { shift = d.shift; log_size = d.log_size }) c.loop-i.claims.items) (omega (arith, c.min-i-end.ensures)) c.loop-i.invariant
