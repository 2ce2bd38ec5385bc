use Rattle.std.proofs.Common.{◌∙◌, subst, sym}
use Rattle.std.proofs.lemmas.Option.{same_Some, slice_get-get_or}
use Rattle.stark_merkle.specs.Tree.{digests_in}
use Rattle.stark_fri_prover.specs.Layers.{OpensRow}
use Rattle.stark_fri_prover.proofs.Steps.{none_related, one_more_taken}
use Rattle.stark_fri_prover.proofs.opening.open_query.Goals as goal

pub loop-round-init : goal.loop-round-init
loop-round-init g c =
    none_related (λ round input. OpensRow c.args.place round.0.now.extended.items (digests_in round.0.now.layers.items) input) c.new-inputs.result.items c.new-inputs.ensures.items

pub loop-round-preserved : goal.loop-round-preserved
loop-round-preserved g c =
    let rounds = c.args.rounds.now in
    let i = c.loop-round.round-index in
    let item = c.round-item.result in
    let input = c.in_ok-input.input in
    one_more_taken (λ round input. OpensRow c.args.place round.0.now.extended.items (digests_in round.0.now.layers.items) input) rounds i item input
    c.loop-round.inputs.items _ c.loop-round-test.true
    (λ round there. subst (λ round. OpensRow c.args.place round.0.now.extended.items (digests_in round.0.now.layers.items) input)
    (c.round-item.is ∙ same_Some _ _ (sym (slice_get-get_or rounds i item c.loop-round-test.true) ∙ there))
    (record { rows = c.in_ok-input.ensures.rows; path = c.in_ok-input.ensures.path }))
    c.in_ok-push.ensures.items c.loop-round.invariant
