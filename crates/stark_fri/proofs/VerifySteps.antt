-- What the steps of a check find of claims as they stand in memory is what is accepted or refused of them.
use Rattle.std.proofs.Common.{◌≡◌, ◌∙◌, ℕ, ◌+◌, ◌≤◌, List, Some, None, Ok, Err, ap, arith, subst, sym}
use Rattle.std.specs.Borrow.{Bor}
use Rattle.std.specs.List.{zip}
use Rattle.std.specs.declared.vec.Vec.{Vec}
use Rattle.stark_support.specs.Coset.{TwoAdicCoset}
use Rattle.stark_merkle.specs.declared.root.Root.{Root}
use Rattle.stark_fri_proof.specs.Parts.{FriProofView}
use Rattle.stark_fri_proof.specs.declared.parameters.FriParameters.{FriParameters}
use Rattle.stark_fri.specs.Accept.{Accepted, ProofFits, Refused, bits_of}
use Rattle.stark_fri.specs.Claims.{AreOff, RoundRead, height_of, rounds_in}
use Rattle.stark_fri.specs.Found.{FindsFault, FindsHeight, Replays, ShapeFits, target_by}
use Rattle.stark_fri.specs.Parts.{FriOps}
use Rattle.stark_fri.specs.Replayed.{IsCheckable}
use Rattle.stark_fri.specs.Scheme.{asked_of, claimed_by}
use Rattle.stark_fri.specs.Transcript.{Instance}
use Rattle.stark_fri.specs.declared.error.FriError.{FriError}
use Rattle.stark_fri.specs.declared.error.FriError.TheVariants.{Query}
use Rattle.stark_fri.specs.declared.error.QueryFault.{QueryFault}
use Rattle.stark_fri.specs.declared.replay.Drawn.{Drawn}
use Rattle.stark_fri.specs.declared.replay.ReplayedProof.{ReplayedProof}
use Rattle.stark_fri.proofs.AcceptSteps.{all_accepted, betas_counted, claims_refused, proof_fits, query_refused, shape_refused, work_refused}
use Rattle.stark_fri.proofs.ViewSteps.{accepted_as_claimed, refused_as_claimed}

-- The rows are as many as the claims' height says, with the blow-up.
same_bits : {C F E : Type 0} (ops : FriOps C F E) (i : Instance C F E) (k blowup : ℕ) → k ≡ height_of i.rounds → blowup ≡ i.parameters.log_blowup → k + blowup ≡ bits_of ops i
same_bits ops i k blowup is_height is_blowup = ap (λ n. n + blowup) is_height ∙ ap (λ n. height_of i.rounds + n) is_blowup

module _ {C F E D A B : Type 0} (ops : FriOps C F E) (coset_of : D → TwoAdicCoset F) (s : FriParameters) (claims : List (Bor Root × Vec (D × Vec (E × Bor (List E)) A) B))
    (proof : FriProofView F E) (state : C) where
  abbrev pub asked : Instance C F E
  asked = asked_of coset_of s claims proof state

  abbrev pub claimed : Instance C F E
  claimed = claimed_by coset_of s claims proof state

  abbrev pub rounds : List (RoundRead E)
  rounds = rounds_in coset_of claims

  pub claims_at_fault : (error : FriError) → FindsHeight ops.fields s rounds (Err error) → Refused ops claimed error
  claims_at_fault error fault = refused_as_claimed ops coset_of s claims proof state error (claims_refused ops asked error fault)

  module _ (k : ℕ) (fit : FindsHeight ops.fields s rounds (Ok k)) where
    pub shape_at_fault : (error : FriError) → ShapeFits s k proof (Err error) → Refused ops claimed error
    shape_at_fault error fault = refused_as_claimed ops coset_of s claims proof state error (shape_refused ops asked fit.0 k fit.1 error fault)

    module _ (shape : ShapeFits s k proof (Ok tt)) where
      fits : ProofFits ops asked
      fits = proof_fits ops asked fit.0 k fit.1 tt shape

      pub work_at_fault : (blowup : ℕ) (error : FriError) → Replays ops.sponge asked (k + blowup) (Err error) → Refused ops claimed error
      work_at_fault blowup error fault = refused_as_claimed ops coset_of s claims proof state error (work_refused ops asked fits (k + blowup) error fault)

      module _ (blowup : ℕ) (is_blowup : blowup ≡ s.log_blowup) (drawn : Drawn E) (played : Replays ops.sponge asked (k + blowup) (Ok drawn)) where
        is_bits : k + blowup ≡ bits_of ops asked
        is_bits = same_bits ops asked k blowup fit.1 is_blowup

        pub query_at_fault : (query : ℕ) (fault : QueryFault)
            → FindsFault ops.fields ops.hash (target_by rounds (k + blowup) drawn proof) (zip drawn.places.items proof.queries) (Some (query, fault)) → Refused ops claimed (Query query fault)
        query_at_fault query fault obtained =
            refused_as_claimed ops coset_of s claims proof state (Query query fault) (query_refused ops asked fits (k + blowup) is_bits drawn played query fault obtained)

        pub none_at_fault : FindsFault ops.fields ops.hash (target_by rounds (k + blowup) drawn proof) (zip drawn.places.items proof.queries) None → Accepted ops claimed
        none_at_fault obtained = accepted_as_claimed ops coset_of s claims proof state (all_accepted ops asked fits (k + blowup) is_bits drawn played obtained)

-- What was replayed of a proof whose shape fits may be checked.
module _ {C F E D : Type 0} (ops : FriOps C F E) (coset_of : D → TwoAdicCoset F) (s : FriParameters) (state : C) (replayed : ReplayedProof F E D) where
  abbrev pub replayed_of : Instance C F E
  replayed_of = asked_of coset_of s replayed.claims.now replayed.proof.now state

  pub is_checkable : (k : ℕ) → FindsHeight ops.fields s replayed_of.rounds (Ok k) → ShapeFits s k replayed.proof.now (Ok tt) → (blowup : ℕ) → blowup ≡ s.log_blowup → replayed.bits ≡ k + blowup
      → Replays ops.sponge replayed_of replayed.bits (Ok replayed.drawn.now) → IsCheckable ops.fields coset_of replayed
  is_checkable k fit shape blowup is_blowup is_sum played =
      let is_bits : replayed.bits ≡ bits_of ops replayed_of = is_sum ∙ same_bits ops replayed_of k blowup fit.1 is_blowup in
      record {
        betas = betas_counted ops.sponge replayed_of replayed.drawn.now.betas.items played.2.1;
        folds = omega (arith, shape.0, is_sum);
        within = subst (λ n. n ≤ ops.fields.adicity) (sym is_bits) fit.0.within;
        off = subst (λ n. AreOff ops.fields n replayed_of.rounds) (sym is_bits) fit.0.off;
      }
