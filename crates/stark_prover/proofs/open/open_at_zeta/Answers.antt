use Rattle.std.proofs.Common.{◌∙◌, ◌^◌, ap, inr, refl}
use Rattle.stark_support.specs.Coset.{TwoAdicCoset}
use Rattle.stark_protocol.proofs.Carried.{carried}
use Rattle.stark_prover.proofs.FinishSteps.{behind, height_is, opening_refused, proof_made, work_refused}
use Rattle.stark_prover.proofs.open.open_at_zeta.Goals as goal

pub returns-in_err-zeta-clause-fault : goal.returns-in_err-zeta-clause-fault
returns-in_err-zeta-clause-fault g c =
    carried _ _ _ c.from_residual.ensures (λ trace columns preprocessed ready. inr (work_refused (c.requires.bound trace columns preprocessed ready) c.requires.described c.random_commitment-random.ensures c.in_err-zeta.field-0.0 c.in_err-zeta.ensures.exhausted))

pub open_values-requires-clause-behind : goal.open_values-requires-clause-behind
open_values-requires-clause-behind g c =
    let at = c.in_ok-points.ensures in
    let domains = c.requires.committed.domains in
    let committed = c.requires.committed in
    behind (c.requires.bound committed.trace committed.columns committed.preprocessed committed.ready) c.requires.described c.random_commitment-random.ensures at.zeta (at.next_zeta ∙ ap (λ (d : TwoAdicCoset _). g.SC.Challenge.Field.ring.mul (g.SC.Challenge.ExtensionField.embed (g.SC.Pcs.Domain.Val.TwoAdicField.root d.log_size)) c.in_ok-zeta.zeta) domains.of_trace)
    at.reads_next at.reads_preprocessed_next (at.chunks ∙ ap (λ n. 2 ^ n) domains.chunks) c.random_data.ensures c.data_of.ensures refl domains.extended (height_is _ _ domains.extended) c.requires.committed.same

pub returns-in_err-values-clause-fault : goal.returns-in_err-values-clause-fault
returns-in_err-values-clause-fault g c =
    let at = c.in_ok-points.ensures in
    let domains = c.requires.committed.domains in
    carried _ _ _ c.from_residual-in_err-values.ensures (λ trace columns preprocessed ready.
    opening_refused (c.requires.bound trace columns preprocessed ready) c.requires.described c.random_commitment-random.ensures at.zeta (at.next_zeta ∙ ap (λ (d : TwoAdicCoset _). g.SC.Challenge.Field.ring.mul (g.SC.Challenge.ExtensionField.embed (g.SC.Pcs.Domain.Val.TwoAdicField.root d.log_size)) c.in_ok-zeta.zeta) domains.of_trace)
    at.reads_next at.reads_preprocessed_next (at.chunks ∙ ap (λ n. 2 ^ n) domains.chunks) c.random_data.ensures c.data_of.ensures c.in_ok-zeta.ensures.answer.0 c.in_ok-zeta.ensures.answer.1 c.in_ok-zeta.ensures.state _ c.in_err-values.ensures.fault)

pub returns-clause-made : goal.returns-clause-made
returns-clause-made g c = λ trace columns preprocessed ready.
    let at = c.in_ok-points.ensures in
    let domains = c.requires.committed.domains in
    proof_made (c.requires.bound trace columns preprocessed ready) c.requires.described c.random_commitment-random.ensures at.zeta (at.next_zeta ∙ ap (λ (d : TwoAdicCoset _). g.SC.Challenge.Field.ring.mul (g.SC.Challenge.ExtensionField.embed (g.SC.Pcs.Domain.Val.TwoAdicField.root d.log_size)) c.in_ok-zeta.zeta) domains.of_trace)
    at.reads_next at.reads_preprocessed_next (at.chunks ∙ ap (λ n. 2 ^ n) domains.chunks) c.random_data.ensures c.data_of.ensures refl domains.extended (height_is _ _ domains.extended) c.requires.committed.same
    c.in_ok-zeta.ensures.drawn c.in_ok-zeta.ensures.no_work _ _ c.in_ok-values.ensures.values c.in_ok-values.ensures.complete
