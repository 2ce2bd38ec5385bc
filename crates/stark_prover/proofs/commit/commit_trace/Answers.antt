use Rattle.std.proofs.Common.{◌^◌, ◌≤◌, sym, subst, rules}
use Rattle.stark_support.specs.Coset.{coset_size}
use Rattle.stark_protocol.specs.Instance.{log_height}
use Rattle.stark_protocol.proofs.SetUpSteps.{committed_within, height_is}
use Rattle.stark_prover.proofs.CommitSteps.{trace_committed, trace_room}
use Rattle.stark_prover.proofs.Faults.{scheme_fault_at}
use Rattle.stark_prover.proofs.commit.commit_trace.Goals as goal

pub commit-requires-clause-power : goal.commit-requires-clause-power
commit-requires-clause-power g c = (log_height g.SC.Pcs.Pcs.ZK c.args.domains.degree_bits, height_is _ _ _ c.requires.columns c.requires.height)

pub commit-requires-clause-within : goal.commit-requires-clause-within
commit-requires-clause-within g c =
    subst (λ s. coset_size (g.SC.Pcs.Domain.PolynomialSpace.coset_of c.args.domains.committed) ≤ 2 ^ g.SC.Pcs.Pcs.scheme.log_max_trace_height s) (sym c.pcs.ensures)
    (committed_within g.SC.Pcs.Domain.Val.Field.ring _ _ _ c.requires.domain c.requires.within)

pub commit-requires-clause-room : goal.commit-requires-clause-room
commit-requires-clause-room g c = trace_room g.SC.Pcs.Domain.Val.Field.ring _ _ _ g.SC.Pcs.Pcs.ZK c.args.domains.degree_bits c.requires.columns c.requires.height c.requires.domain

pub returns-in-Ok-clause-stands : goal.returns-in-Ok-clause-stands
returns-in-Ok-clause-stands g c =
    trace_committed g.SC.Pcs.Pcs.scheme _ _ g.SC.Pcs.Domain.Val.Field.ring _ c.pcs.ensures _ _ (record { width = c.args.trace.width; values = c.args.trace.values.items }) _ _ _ c.requires.domain c.requires.columns c.requires.height c.in-Ok.ensures.made c.in-Ok.ensures.stands

pub returns-in-Err-clause-fault : goal.returns-in-Err-clause-fault
returns-in-Err-clause-fault g c =
    scheme_fault_at _ (λ s d. g.SC.Pcs.Pcs.scheme.RefusesCommit s d c.args.trace.values.items c.args.trace.width) _ _ _ _ c.in-Err.fault _ c.pcs.ensures c.requires.domain c.in-Err.ensures.refused c.in_phase.ensures

pub returns-in-Ok-clause-fault : goal.returns-in-Ok-clause-fault
returns-in-Ok-clause-fault c = search rules

pub returns-in-Err-clause-stands : goal.returns-in-Err-clause-stands
returns-in-Err-clause-stands c = search rules
