-- Claims in memory are read as their views are, so that a proof of them is accepted and refused by either.
use Rattle.std.specs.Prelude.{◌≡◌, List, [], ◌∷◌, map, refl}
use Rattle.std.proofs.Common.{◌∙◌, ap, subst, sym}
use Rattle.std.specs.Borrow.{Bor}
use Rattle.std.specs.declared.vec.Vec.{Vec}
use Rattle.stark_support.specs.Claims.{claim_view, matrix_view}
use Rattle.stark_support.specs.Coset.{TwoAdicCoset}
use Rattle.stark_merkle.specs.declared.root.Root.{Root}
use Rattle.stark_fri_proof.specs.Parts.{FriProofView}
use Rattle.stark_fri_proof.specs.declared.parameters.FriParameters.{FriParameters}
use Rattle.stark_fri.specs.Accept.{Accepted, Refused}
use Rattle.stark_fri.specs.Claims.{matrix_read, matrix_seen, round_read, round_seen}
use Rattle.stark_fri.specs.Parts.{FriOps}
use Rattle.stark_fri.specs.Scheme.{asked_of, claimed_by, instance_of}
use Rattle.stark_fri.specs.declared.error.FriError.{FriError}

module _ {F E D A : Type 0} (coset_of : D → TwoAdicCoset F) where
  matrices_read : (matrices : List (D × Vec (E × Bor (List E)) A)) → map matrix_read (map (matrix_view coset_of) matrices) ≡ map (matrix_seen coset_of) matrices
  matrices_read [] = refl
  matrices_read (m ∷ matrices) = ap (λ t. matrix_seen coset_of m ∷ t) (matrices_read matrices)

  pub rounds_read : {B : Type 0} (claims : List (Bor Root × Vec (D × Vec (E × Bor (List E)) A) B)) → map round_read (map (claim_view coset_of) claims) ≡ map (round_seen coset_of) claims
  rounds_read [] = refl
  rounds_read (claim ∷ claims) =
      ap (λ t. (claim.0.now, t) ∷ map round_read (map (claim_view coset_of) claims)) (matrices_read claim.1.items) ∙ ap (λ t. round_seen coset_of claim ∷ t) (rounds_read claims)

module _ {C F E D A B : Type 0} (ops : FriOps C F E) (coset_of : D → TwoAdicCoset F) (s : FriParameters) (claims : List (Bor Root × Vec (D × Vec (E × Bor (List E)) A) B))
    (proof : FriProofView F E) (state : C) where
  pub accepted_as_claimed : Accepted ops (asked_of coset_of s claims proof state) → Accepted ops (claimed_by coset_of s claims proof state)
  accepted_as_claimed accepted = subst (λ rounds. Accepted ops (instance_of s rounds proof state)) (sym (rounds_read coset_of claims)) accepted

  pub refused_as_claimed : (error : FriError) → Refused ops (asked_of coset_of s claims proof state) error → Refused ops (claimed_by coset_of s claims proof state) error
  refused_as_claimed error refused = subst (λ rounds. Refused ops (instance_of s rounds proof state) error) (sym (rounds_read coset_of claims)) refused
