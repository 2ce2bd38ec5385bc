use Rattle.stark_prover.proofs.CommitSteps.{within_of}
use Rattle.stark_prover.proofs.commit.commit_random.Goals as goal

pub get_opt_randomization_poly_commitment-requires : goal.get_opt_randomization_poly_commitment-requires
get_opt_randomization_poly_commitment-requires g c = record { within = within_of g.SC.Pcs.Pcs.scheme.log_max_trace_height _ _ g.SC.Pcs.Domain.Val.Field.ring _ _ c.pcs-pcs.ensures c.requires.domain c.requires.within }
