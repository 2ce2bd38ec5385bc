use Rattle.std.proofs.Common.{◌≡◌, List, [], arith, length, map}
use Rattle.std.proofs.lemmas.List.{length-map}
use Rattle.stark_support.specs.Coset.{coset_from}
use Rattle.stark_columns.specs.Columns.{columns_list}
use Rattle.stark_fri_prover.specs.Commit.{IsExtended}
use Rattle.stark_fri_prover.proofs.Steps.{none_related, one_more_taken}
use Rattle.stark_fri_prover.proofs.commit.extended_rows.Goals as goal

pub loop-index-init : goal.loop-index-init
loop-index-init g c = none_related (IsExtended g.F.Field.ring g.F.TwoAdicField.root (coset_from c.args.domain.now.shift c.args.domain.now.log_size)) c.new-extended.result.items c.new-extended.ensures.items

pub loop-index-preserved : goal.loop-index-preserved
loop-index-preserved g c =
    let matrices : List (List (List g.row.F.Denot)) = map columns_list c.args.matrices.now in
    let size : length matrices ≡ length c.args.matrices.now = length-map c.args.matrices.now columns_list in
    one_more_taken (IsExtended g.F.Field.ring g.F.TwoAdicField.root (coset_from c.args.domain.now.shift c.args.domain.now.log_size)) matrices c.loop-index.index [] c.in_ok-rows.rows _ _
    (omega (arith, size, c.loop-index-test.true)) c.in_ok-rows.ensures c.in_ok-push.ensures.items c.loop-index.invariant
