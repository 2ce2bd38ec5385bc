use Rattle.std.proofs.Common.{◌∙◌, subst, sym}
use Rattle.std.proofs.lemmas.Option.{same_Some, slice_get-get_or}
use Rattle.stark_merkle.specs.Tree.{digests_in}
use Rattle.stark_fri_prover.specs.Layers.{OpensAt}
use Rattle.stark_fri_prover.proofs.Steps.{none_related, one_more_taken}
use Rattle.stark_fri_prover.proofs.opening.open_queries.Goals as goal

pub loop-place-init : goal.loop-place-init
loop-place-init g c =
    none_related (OpensAt (λ d. d.extended.items) (λ d. digests_in d.layers.items) c.args.rounds.now c.args.layers.now) c.in_ok-queries.queries.items c.in_ok-queries.ensures.items

pub loop-place-preserved : goal.loop-place-preserved
loop-place-preserved g c =
    let places = c.args.places.now in
    let i = c.loop-place.place-index in
    let query = c.in_ok-query.query in
    one_more_taken (OpensAt (λ d. d.extended.items) (λ d. digests_in d.layers.items) c.args.rounds.now c.args.layers.now) places i 0 query
    c.loop-place.queries.items _ c.loop-place-test.true
    (λ place there. subst (λ place. OpensAt (λ d. d.extended.items) (λ d. digests_in d.layers.items) c.args.rounds.now c.args.layers.now place query)
    (same_Some _ _ (sym (slice_get-get_or places i 0 c.loop-place-test.true) ∙ there))
    (c.in_ok-query.ensures.rows, c.in_ok-query.ensures.way))
    c.in_ok-push.ensures.items c.loop-place.invariant
