use Rattle.stark_proof.specs.ProofView.{proof_view}
use Rattle.stark_service.proofs.FloorSteps.{height_read, height_unread}
use Rattle.stark_service.proofs.proof_heights.log_height_in.Goals as goal

pub returns-in-Ok : goal.returns-in-Ok
returns-in-Ok g c = height_read (λ p. p.degree_bits) _ (proof_view c.in-Ok.proof) c.in-Ok.ensures

pub returns-in-Err : goal.returns-in-Err
returns-in-Err g c = height_unread (λ p. p.degree_bits) _ _ _ c.in-Err.ensures c.no_height.ensures
