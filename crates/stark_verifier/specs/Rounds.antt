-- The claims of a proof, as the scheme is asked them, and the rounds that they stand for.
use Rattle.std.specs.Prelude.{◌≡◌, Bool, List, [], ◌∷◌, ◌++◌, Option, Result, IfErr, IfOk, map}
use Rattle.std.specs.Borrow.{Bor}
use Rattle.std.specs.Option.{option_copied}
use Rattle.std.specs.declared.vec.Vec.{Vec}
use Rattle.stark_support.specs.Coset.{TwoAdicCoset}
use Rattle.stark_support.specs.Claims.{IfRefused, RoundClaim, claim_view}
use Rattle.stark_support.specs.Scheme.{SchemeOps}
use Rattle.stark_support.specs.declared.scheme.SchemeFault.{SchemeFault}
use Rattle.stark_proof.specs.ProofView.{OpeningsView, PreprocessedView, ProofView, proof_view}
use Rattle.stark_proof.specs.declared.values.Commitments.{Commitments}
use Rattle.stark_proof.specs.declared.values.Proof.{Proof}
use Rattle.stark_protocol.specs.OpenedClaims.{chunks_round, claims_of, one_matrix, preprocessed_place, random_rounds, row_points}
use Rattle.stark_protocol.specs.declared.preprocessed.PreprocessedVerifierKey.{PreprocessedVerifierKey}

-- The claims are those of these rounds.
abbrev pub AreClaims : {F E K D A B G : Type 0} → (D → TwoAdicCoset F) → List (RoundClaim F E K) → Vec (Bor K × Vec (D × Vec (E × Bor (List E)) A) B) G → Type 0
AreClaims coset_of rounds claims = map (claim_view coset_of) claims.items ≡ rounds

module _ {F E K : Type 0} (coset : TwoAdicCoset F) (zeta next_zeta : E) where
  -- the round of the preprocessed columns
  abbrev pub preprocessed_round : PreprocessedVerifierKey K → PreprocessedView E → RoundClaim F E K
  preprocessed_round key rows = one_matrix key.commitment coset (row_points zeta next_zeta rows.local rows.next)

  -- the rounds of random commitment, trace and quotient
  abbrev pub opened_rounds : Commitments K → OpeningsView E → List (RoundClaim F E K)
  opened_rounds commitments opened =
      random_rounds coset zeta commitments.random opened.random ++
      (one_matrix commitments.trace coset (row_points zeta next_zeta opened.trace_local opened.trace_next) ∷ chunks_round commitments.quotient_chunks coset zeta opened.quotient_chunks ∷ [])

  -- those of a proof and the preprocessed one, where a key is given
  abbrev pub proof_rounds : {P : Type 0} → Option (PreprocessedVerifierKey K) → ProofView K E P F → List (RoundClaim F E K)
  proof_rounds key p = claims_of coset zeta next_zeta key p.commitments.trace p.commitments.quotient_chunks p.commitments.random p.opened_values

-- What a scheme answers to a proof's claims at zeta and the next row's point: whether it accepts them, want of memory aside.
pub record IsSchemeVerdict {S F E C K T P X Y : Type 0} (scheme : SchemeOps S F E C K T P X Y) (is_zk : Bool) (s : S) (coset : TwoAdicCoset F) (key : Option (Bor (PreprocessedVerifierKey K))) (proof : Proof K E P F) (zeta next_zeta : E) (state : C)
    (answer : Result (Unit {0}) (SchemeFault X)) : Type 0 where
  pub accepted : IfOk answer (λ _. scheme.Accepts s (proof_rounds coset zeta next_zeta (option_copied key) (proof_view proof)) proof.opening_proof state (preprocessed_place is_zk (option_copied key)))
  pub refused : IfErr answer (λ fault. IfRefused fault (scheme.Refuses s (proof_rounds coset zeta next_zeta (option_copied key) (proof_view proof)) proof.opening_proof state (preprocessed_place is_zk (option_copied key))))
