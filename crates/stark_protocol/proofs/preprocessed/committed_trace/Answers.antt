use Rattle.std.proofs.Common.{◌^◌, ◌≤◌, sym, subst}
use Rattle.stark_support.specs.Coset.{coset_size}
use Rattle.stark_protocol.proofs.SetUpSteps.{committed_within, height_is, is_set_up, room}
use Rattle.stark_protocol.proofs.preprocessed.committed_trace.Goals as goal

pub commit_preprocessing-requires-clause-power : goal.commit_preprocessing-requires-clause-power
commit_preprocessing-requires-clause-power g c = (c.args.degree_bits, height_is _ _ _ c.requires.columns c.requires.height)

pub commit_preprocessing-requires-clause-within : goal.commit_preprocessing-requires-clause-within
commit_preprocessing-requires-clause-within g c =
    subst (λ s. coset_size (g.SC.Pcs.Domain.PolynomialSpace.coset_of c.committed_domain-degree_bits.result.1) ≤ 2 ^ g.SC.Pcs.Pcs.scheme.log_max_trace_height s) (sym c.pcs-pcs.ensures)
    (committed_within g.SC.Pcs.Domain.Val.Field.ring _ _ _ c.committed_domain-degree_bits.ensures.domain c.requires.within)

pub commit_preprocessing-requires-clause-room : goal.commit_preprocessing-requires-clause-room
commit_preprocessing-requires-clause-room g c = room g.SC.Pcs.Domain.Val.Field.ring _ _ _ _ _ c.requires.columns c.requires.height c.committed_domain-degree_bits.ensures.domain

pub returns-clause-set_up : goal.returns-clause-set_up
returns-clause-set_up g c =
    is_set_up g.SC.Pcs.Pcs.scheme _ _ g.SC.Pcs.Domain.Val.Field.ring _ _ _ _ _ _ _ _ _ _ c.width-width.ensures c.committed_domain-degree_bits.ensures.bits c.in_ok-copy_commitment.ensures c.committed_domain-degree_bits.ensures.domain
    c.requires.columns c.requires.height c.pcs-pcs.ensures c.in-Ok.ensures.made c.in-Ok.ensures.stands
