use Rattle.std.proofs.Common.{refl}
use Rattle.stark_protocol.proofs.Carried.{carried}
use Rattle.stark_prover.proofs.CommittedSteps.{fault_of_committed, made_of_committed, some_committed}
use Rattle.stark_prover.proofs.SizedSteps.{refused_sizes}
use Rattle.stark_prover.proofs.committed.prove_of_height.Goals as goal

pub returns-in_err-domains-clause-fault : goal.returns-in_err-domains-clause-fault
returns-in_err-domains-clause-fault g c = carried _ _ _ c.from_residual.ensures (λ trace to. refused_sizes _ c.in_err-domains.ensures.columns c.in_err-domains.ensures.quotient)

pub prove_over_transcript-requires-clause-committed : goal.prove_over_transcript-requires-clause-committed
prove_over_transcript-requires-clause-committed g c =
    let obtained = c.in_ok-domains.ensures in
    let given = c.requires in
    some_committed _ _ _ _ obtained.bits obtained.fitting obtained.clear refl obtained.domains given.within given.public_values given.same given.committed given.stands

pub returns-clause-made : goal.returns-clause-made
returns-clause-made g c =
    let obtained = c.in_ok-domains.ensures in
    made_of_committed _ _ _ _ obtained.bits obtained.fitting obtained.clear _ c.prove_over_transcript.ensures.made

pub returns-clause-fault : goal.returns-clause-fault
returns-clause-fault g c =
    let obtained = c.in_ok-domains.ensures in
    fault_of_committed _ _ _ _ obtained.bits obtained.fitting obtained.clear c.requires.stands _ c.prove_over_transcript.ensures.fault
