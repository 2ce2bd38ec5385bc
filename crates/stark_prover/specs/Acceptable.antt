-- What holds of a proof of a trace, whether or not the trace satisfies the AIR.
use Rattle.std.specs.Prelude.{◌≡◌, None, Ok}
use Rattle.stark_proof.specs.ProofView.{ProofView}
use Rattle.stark_protocol.specs.Acceptance.{Accepted, IsBalanced, IsPointOfH, RunHolds, challenges, columns_fault, shape_fault}
use Rattle.stark_protocol.specs.Instance.{Instance, ProtocolOps, log_height}
use Rattle.stark_protocol.specs.OpenedClaims.{OpeningsHold}

module _ {S F E C K T P X Y : Type 0} (ops : ProtocolOps S F E C K T P X Y) (i : Instance S F C K) (p : ProofView K E P F) where
  -- Acceptance without two of its parts: zeta may lie in H, and the equation may fail.
  pub record IsAcceptable : Type 0 where
    pub alpha : E
    pub zeta : E
    pub shape : shape_fault ops i p ≡ None
    pub drawn : (challenges ops i p).answer ≡ Ok (alpha, zeta)
    pub fitting : columns_fault ops i p ≡ None
    pub opened : OpeningsHold ops.opening i.scheme i.key p zeta (challenges ops i p).state

  -- Outside H the run holds.
  pub run_outside : (acceptable : IsAcceptable) → (IsPointOfH ops.opening.fields (log_height ops.opening.is_zk p.degree_bits) acceptable.zeta → ⊥) → RunHolds ops i p acceptable.alpha acceptable.zeta
  run_outside acceptable outside = record { drawn = acceptable.drawn; outside = outside; fitting = acceptable.fitting; opened = acceptable.opened }

  -- Outside H the proof is accepted where the equation holds.
  pub accepted_outside : (acceptable : IsAcceptable) → (IsPointOfH ops.opening.fields (log_height ops.opening.is_zk p.degree_bits) acceptable.zeta → ⊥) → IsBalanced ops i p acceptable.alpha acceptable.zeta → Accepted ops i p
  accepted_outside acceptable outside balanced = record { alpha = acceptable.alpha; zeta = acceptable.zeta; shape = acceptable.shape; run = run_outside acceptable outside; balanced = balanced }
