use Rattle.std.proofs.Common.{◌∙◌, ap}
use Rattle.std.specs.List.{flat_map}
use Rattle.stark_support.specs.Coset.{TwoAdicCoset}
use Rattle.stark_protocol.proofs.Carried.{on_err, on_ok}
use Rattle.stark_prover.proofs.QuotientSteps.{chunks_fit, flat_height, one_column, periodic_fit, quotient_at, quotient_committed, quotient_refused, refusal_at}
use Rattle.stark_prover.proofs.quotient.AnyProvableAir.commit_quotient.Goals as goal

pub quotient_on-requires-clause-main : goal.quotient_on-requires-clause-main
quotient_on-requires-clause-main g c = let made = c.requires.committed in (made.columns, _, made.ready.committed.stands, made.width)

pub quotient_on-requires-clause-preprocessed : goal.quotient_on-requires-clause-preprocessed
quotient_on-requires-clause-preprocessed g c = let made = c.requires.committed in (made.preprocessed, made.ready.preprocessed, made.preprocessed_width)

pub quotient_on-requires-clause-periodic : goal.quotient_on-requires-clause-periodic
quotient_on-requires-clause-periodic g c = periodic_fit g.SC.Pcs.Domain.Val.Field.ring _ _ _ _ c.requires.committed.domains.of_trace c.requires.committed.ready.fitting

pub commit_flat-requires-clause-few : goal.commit_flat-requires-clause-few
commit_flat-requires-clause-few g c = c.requires.committed.domains.few

pub commit_flat-requires-clause-height : goal.commit_flat-requires-clause-height
commit_flat-requires-clause-height g c =
    let coordinates = g.SC.Challenge.ExtensionField.coordinates in
    let made = c.requires.committed in
    flat_height coordinates _ g.met.SC.Challenge.ExtensionField.is_basis.count c.in_ok-values.values.items _ _ _ (c.in_ok-flat.ensures.values ∙ ap (λ v. flat_map coordinates v.items) c.new_col.ensures.values)
    (one_column _ _ _ c.in_ok-flat.ensures.width c.new_col.ensures.width) (c.in_ok-values.ensures made.columns made.preprocessed _ made.ready.committed.stands made.ready.preprocessed).number

pub commit_flat-requires-clause-parts : goal.commit_flat-requires-clause-parts
commit_flat-requires-clause-parts g c = (chunks_fit _ _ _ _ _ _ _ _ _ _ c.requires.committed.domains c.requires.committed.within).0

pub commit_flat-requires-clause-within : goal.commit_flat-requires-clause-within
commit_flat-requires-clause-within g c = (chunks_fit _ _ _ _ _ _ _ _ _ _ c.requires.committed.domains c.requires.committed.within).1

pub returns-clause-stands : goal.returns-clause-stands
returns-clause-stands g c =
    let coordinates = g.SC.Challenge.ExtensionField.coordinates in
    let domains = c.requires.committed.domains in
    on_ok _ _ c.commit_flat.result (λ made stands trace columns preprocessed ready.
    quotient_at ready (ap (λ (d : TwoAdicCoset _). d.log_size) domains.of_trace) domains.of_quotient domains.chunks
    (quotient_committed g.SC.Pcs.Pcs.scheme _ _ _ coordinates _ _ _ _ _ c.in_ok-values.values.items _ _ (c.in_ok-flat.ensures.values ∙ ap (λ v. flat_map coordinates v.items) c.new_col.ensures.values)
    (one_column _ _ _ c.in_ok-flat.ensures.width c.new_col.ensures.width) (c.in_ok-values.ensures columns preprocessed _ ready.committed.stands ready.preprocessed) _ _ _ stands))
    c.commit_flat.ensures.stands

pub returns-clause-fault : goal.returns-clause-fault
returns-clause-fault g c =
    let coordinates = g.SC.Challenge.ExtensionField.coordinates in
    let domains = c.requires.committed.domains in
    on_err _ _ c.commit_flat.result (λ error fault trace columns preprocessed ready.
    refusal_at ready (ap (λ (d : TwoAdicCoset _). d.log_size) domains.of_trace) domains.of_quotient domains.chunks
    (quotient_refused g.SC.Pcs.Pcs.scheme _ _ g.SC.Pcs.Domain.Val.TwoAdicField.root coordinates _ _ _ _ _ c.in_ok-values.values.items _ _ (c.in_ok-flat.ensures.values ∙ ap (λ v. flat_map coordinates v.items) c.new_col.ensures.values)
    (one_column _ _ _ c.in_ok-flat.ensures.width c.new_col.ensures.width) (c.in_ok-values.ensures columns preprocessed _ ready.committed.stands ready.preprocessed) error fault))
    c.commit_flat.ensures.fault
