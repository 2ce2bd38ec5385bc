use Rattle.std.proofs.Common.{◌≡◌, ◌*◌, ◌^◌, ◌≤◌, ◌∙◌, length, subst, sym}
use Rattle.stark_proof.specs.ProofView.{proof_view}
use Rattle.stark_protocol.proofs.Carried.{carried}
use Rattle.stark_prover.proofs.SizedSteps.{committed_at, ready_at, refused_sizes, refused_trace, run_made, run_refused, same_height}
use Rattle.stark_prover.proofs.prover.prove_sized.Goals as goal

pub returns-in_err-domains-clause-fault : goal.returns-in_err-domains-clause-fault
returns-in_err-domains-clause-fault g c = carried _ _ _ c.from_residual.ensures (refused_sizes _ c.in_err-domains.ensures.columns c.in_err-domains.ensures.quotient)

pub commit_trace-requires-clause-height : goal.commit_trace-requires-clause-height
commit_trace-requires-clause-height g c =
    subst (λ n. length c.args.trace.values.items ≡ 2 ^ n * c.args.trace.width) (sym (same_height g.SC.Pcs.Pcs.ZK c.args.log_height _ c.in_ok-domains.ensures.bits)) c.requires.height

pub commit_trace-requires-clause-within : goal.commit_trace-requires-clause-within
commit_trace-requires-clause-within g c =
    subst (λ n. n ≤ g.SC.Pcs.Pcs.scheme.log_max_trace_height (g.SC.StarkGenericConfig.config.scheme c.args.instance.now.config.now)) (sym c.in_ok-domains.ensures.bits) c.requires.within

pub commit_trace-requires-clause-domain : goal.commit_trace-requires-clause-domain
commit_trace-requires-clause-domain g c = c.in_ok-domains.ensures.domains.of_committed

pub returns-in_err-committed-clause-fault : goal.returns-in_err-committed-clause-fault
returns-in_err-committed-clause-fault g c =
    let obtained = c.in_ok-domains.ensures in
    carried _ _ _ c.from_residual-in_err-committed.ensures (refused_trace obtained.bits obtained.fitting obtained.clear _ c.in_err-committed.ensures.fault)

pub prove_over_transcript-requires-clause-committed : goal.prove_over_transcript-requires-clause-committed
prove_over_transcript-requires-clause-committed g c =
    let obtained = c.in_ok-domains.ensures in
    let stands = c.in_ok-committed.ensures.stands in
    let preprocessed_data = c.requires.stands in
    committed_at _ obtained.bits obtained.domains c.requires.within c.requires.public_values c.requires.same (ready_at _ obtained.bits obtained.fitting obtained.clear stands.1 preprocessed_data.1) (stands.1.takes.count ∙ c.requires.width) preprocessed_data.2

pub returns-clause-made : goal.returns-clause-made
returns-clause-made g c =
    let obtained = c.in_ok-domains.ensures in
    run_made _ obtained.bits proof_view (λ preprocessed preprocessed_data. ready_at _ obtained.bits obtained.fitting obtained.clear c.in_ok-committed.ensures.stands.1 preprocessed_data) _ c.prove_over_transcript.ensures.made

pub returns-clause-fault : goal.returns-clause-fault
returns-clause-fault g c =
    let obtained = c.in_ok-domains.ensures in
    run_refused _ obtained.bits (ready_at _ obtained.bits obtained.fitting obtained.clear c.in_ok-committed.ensures.stands.1 c.requires.stands.1) _ c.prove_over_transcript.ensures.fault
