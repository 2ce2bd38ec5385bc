use Rattle.std.proofs.Common.{◌∙◌, ◌+◌, ◌<◌, take, List, [], arith, length, map, subst, sym}
use Rattle.std.proofs.lemmas.List.{length-map}
use Rattle.std.specs.List.{flat_map, zip}
use Rattle.stark_support.specs.Claims.{RoundPoints, round_view}
use Rattle.stark_fri.specs.Parts.{FriDataView}
use Rattle.stark_columns.specs.Columns.{column_list, columns_list}
use Rattle.stark_fri_prover.specs.Batch.{AddsMatrices, AddsOpened, MatricesFit}
use Rattle.stark_fri_prover.specs.Commit.{data_seen}
use Rattle.stark_fri_prover.specs.Batching.{opened_in_matrix, opened_in_round}
use Rattle.stark_fri_prover.proofs.BatchSteps.{adds_all, adds_more, adds_none, all_at_place, from_zeros, mapped_item, written_back}
use Rattle.stark_fri_prover.proofs.batch.batched.Goals as goal

pub loop-round-init : goal.loop-round-init
loop-round-init g c = λ fits.
    let sum = c.in_ok-sum.sum.items in
    subst (λ t. AddsOpened g.EF.Field.ring c.args.alpha [] sum sum g.EF.Field.ring.one t) (sym (c.ONE-factor.ensures ∙ g.met.EF.Field.one_is)) (adds_none g.met.EF.Field.field_laws.of_ring c.args.alpha sum g.EF.Field.ring.one)

pub loop-round-preserved : goal.loop-round-preserved
loop-round-preserved g c = λ fits.
    let ring = g.EF.Field.ring in
    let embed = g.EF.ExtensionField.embed in
    let i = c.loop-round.round-index in
    let round = c.round-item.result in
    let matrices = round.0.now.matrices.items in
    let seen = map round_view c.args.rounds.now in
    let rounds : List (RoundPoints g.row.EF.Denot (FriDataView g.row.F.Denot)) = map (λ r. (data_seen r.0.root r.0.domain.log_size r.0.matrices r.0.extended, r.1)) seen in
    let sum = c.loop-round.sum.items in
    let after = c.add_round.new.sum in
    let factor = c.loop-round.factor in
    let next = c.in_ok-factor.factor in
    let one = c.loop-round.invariant fits in
    let within : i < length seen = omega (arith, length-map c.args.rounds.now round_view, c.loop-round-test.true) in
    let here = mapped_item round_view c.args.rounds.now i round c.loop-round-test.true c.round-item.is in
    let seen_here = mapped_item {B = RoundPoints g.row.EF.Denot (FriDataView g.row.F.Denot)} (λ r. (data_seen r.0.root r.0.domain.log_size r.0.matrices r.0.extended, r.1)) seen i (round_view round) within here in
    let own : MatricesFit (length sum) (map columns_list matrices)
    = subst (λ n. MatricesFit n (map columns_list matrices)) (sym (one.number ∙ c.in_ok-sum.ensures.0))
    (all_at_place {B = RoundPoints g.row.EF.Denot (FriDataView g.row.F.Denot)} (λ r. (data_seen r.0.root r.0.domain.log_size r.0.matrices r.0.extended, r.1)) (λ r. MatricesFit c.args.size r.0.matrices) seen i (round_view round) within here fits) in
    let contract : AddsMatrices ring c.args.alpha (map columns_list matrices) (flat_map (opened_in_matrix embed) (zip (map columns_list matrices) (map column_list round.1.items))) sum after factor next
    = subst (λ t. AddsMatrices ring c.args.alpha (map columns_list matrices) (flat_map (opened_in_matrix embed) (zip (map columns_list matrices) (map column_list t))) sum after factor next) c.deref.ensures.value
    (subst (λ t. AddsMatrices ring c.args.alpha (map columns_list t) (flat_map (opened_in_matrix embed) (zip (map columns_list t) (map column_list c.deref.result.now))) sum after factor next) c.matrices.ensures
    (subst (λ t. AddsMatrices ring c.args.alpha (map columns_list c.matrices.result.now) (flat_map (opened_in_matrix embed) (zip (map columns_list c.matrices.result.now) (map column_list c.deref.result.now))) t after factor next)
    c.deref_mut.ensures.value c.in_ok-factor.ensures)) in
    let added = contract own in
    let back = written_back after sum c.loop-round.sum.len added.number c.loop-round.sum.ok.0 in
    subst (λ t. AddsOpened ring c.args.alpha (flat_map (opened_in_round embed) (take (i + 1) rounds)) c.in_ok-sum.sum.items t ring.one next) (sym back)
    (adds_more g.met.EF.Field.field_laws.of_ring c.args.alpha (opened_in_round embed) rounds i (data_seen round.0.now.root round.0.now.domain.log_size round.0.now.matrices round.0.now.extended, (round_view round).1) c.in_ok-sum.sum.items sum after ring.one factor next
    (omega (arith, within, length-map {B = RoundPoints g.row.EF.Denot (FriDataView g.row.F.Denot)} seen (λ r. (data_seen r.0.root r.0.domain.log_size r.0.matrices r.0.extended, r.1)))) seen_here one added)

pub returns : goal.returns
returns g c = λ fits.
    let rounds : List (RoundPoints g.row.EF.Denot (FriDataView g.row.F.Denot)) = map (λ r. (data_seen r.0.root r.0.domain.log_size r.0.matrices r.0.extended, r.1)) (map round_view c.args.rounds.now) in
    let ended = c.loop-round-test.false in
    let all = adds_all g.met.EF.Field.field_laws.of_ring c.args.alpha (opened_in_round g.EF.ExtensionField.embed) rounds c.loop-round.round-index c.in_ok-sum.sum.items c.loop-round.sum.items g.EF.Field.ring.one c.loop-round.factor
    (omega (arith, length-map {B = RoundPoints g.row.EF.Denot (FriDataView g.row.F.Denot)} (map round_view c.args.rounds.now) (λ r. (data_seen r.0.root r.0.domain.log_size r.0.matrices r.0.extended, r.1)), length-map c.args.rounds.now round_view, ended)) (c.loop-round.invariant fits) in
    from_zeros g.met.EF.Field.field_laws.of_ring c.args.alpha g.EF.ExtensionField.embed c.args.size rounds c.in_ok-sum.sum.items c.loop-round.sum.items c.loop-round.factor c.in_ok-sum.ensures all
