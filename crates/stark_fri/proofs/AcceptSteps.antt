-- What the steps of a check find is what is accepted or refused of the whole.
use Rattle.std.proofs.Common.{◌≡◌, ◌∙◌, ℕ, suc, List, [], ◌∷◌, length, map, None, Some, Ok, Err, refl, sym, ap, subst}
use Rattle.std.specs.Prelude.{⊤}
use Rattle.std.specs.List.{AllByRecursion, zip}
use Rattle.stark_support.specs.Faults.{IsFirstFaultWith}
use Rattle.stark_fri_proof.specs.declared.proof.Phase.{Phase}
use Rattle.stark_fri.specs.Accept.{Accepted, Fit, HasFolds, HasLength, ProofFits, Refused, all_queries, bits_of, log_height_of, target_of}
use Rattle.stark_fri.specs.Claims.{ClaimsFault}
use Rattle.stark_fri.specs.Found.{FindsFault, Replays, ShapeFits, target_by}
use Rattle.stark_fri.specs.Parts.{FriOps, SpongeCalls}
use Rattle.stark_fri.specs.Query.{QueryFails, QueryHolds, phase_root}
use Rattle.stark_fri.specs.Transcript.{Instance, alpha_of, betas_of, fold_betas, query_places, worked}
use Rattle.stark_fri.specs.declared.error.FriError.{FriError}
use Rattle.stark_fri.specs.declared.error.FriError.TheVariants.{NoClaims, MixedHeights, TooHigh, Widths, PointOnCoset, CommitPhases, FinalPolynomial, Queries, CommitWork, QueryWork, Query}
use Rattle.stark_fri.specs.declared.error.QueryFault.{QueryFault}
use Rattle.stark_fri.specs.declared.replay.Drawn.{Drawn}

-- As many betas as folds are drawn.
module _ {C F E : Type 0} (sponge : SpongeCalls C F E) (bits : ℕ) where
  as_many_betas : (state : C) (phases : List (Phase F)) → length (betas_of sponge bits state phases) ≡ length phases
  unfolding betas_of
  as_many_betas state [] = refl
  as_many_betas state (phase ∷ phases) = ap suc (as_many_betas (sponge.after_draw (worked sponge bits state phase)) phases)

pub betas_counted : {C F E : Type 0} (sponge : SpongeCalls C F E) (i : Instance C F E) (betas : List E) → betas ≡ fold_betas sponge i → length betas ≡ length i.proof.phases
betas_counted sponge i betas is = ap length is ∙ as_many_betas sponge i.parameters.commit_proof_of_work_bits _ i.proof.phases

module _ {C F E : Type 0} (ops : FriOps C F E) (i : Instance C F E) where
  -- ---- the claims and the shape

  pub claims_refused : (error : FriError) → ClaimsFault ops.fields i.parameters i.rounds error → Refused ops i error
  claims_refused NoClaims fault = fault
  claims_refused (MixedHeights round) fault = fault
  claims_refused TooHigh fault = fault
  claims_refused (Widths round) fault = fault
  claims_refused (PointOnCoset round) fault = fault
  claims_refused CommitPhases fault = absurd fault
  claims_refused FinalPolynomial fault = absurd fault
  claims_refused Queries fault = absurd fault
  claims_refused (CommitWork phase) fault = absurd fault
  claims_refused QueryWork fault = absurd fault
  claims_refused (Query query fault) obtained = absurd obtained

  module _ (fit : Fit ops i) (k : ℕ) (is_height : k ≡ log_height_of ops i) where
    pub proof_fits : (done : ⊤) → ShapeFits i.parameters k i.proof (Ok done) → ProofFits ops i
    proof_fits done shape = record {
      claims = fit;
      phases = subst (λ n. HasFolds i.parameters n i.proof) is_height shape.0;
      final = subst (λ n. HasLength i.parameters n i.proof) is_height shape.1;
      queries = shape.2;
    }

    pub shape_refused : (error : FriError) → ShapeFits i.parameters k i.proof (Err error) → Refused ops i error
    shape_refused NoClaims fault = absurd fault
    shape_refused (MixedHeights round) fault = absurd fault
    shape_refused TooHigh fault = absurd fault
    shape_refused (Widths round) fault = absurd fault
    shape_refused (PointOnCoset round) fault = absurd fault
    shape_refused CommitPhases fault = (fit, λ holds. fault (subst (λ n. HasFolds i.parameters n i.proof) (sym is_height) holds))
    shape_refused FinalPolynomial fault =
        (fit, subst (λ n. HasFolds i.parameters n i.proof) is_height fault.0, λ holds. fault.1 (subst (λ n. HasLength i.parameters n i.proof) (sym is_height) holds))
    shape_refused Queries fault =
        (fit, subst (λ n. HasFolds i.parameters n i.proof) is_height fault.0, subst (λ n. HasLength i.parameters n i.proof) is_height fault.1, fault.2)
    shape_refused (CommitWork phase) fault = absurd fault
    shape_refused QueryWork fault = absurd fault
    shape_refused (Query query fault) obtained = absurd obtained

  -- ---- the transcript and the queries

  module _ (fits : ProofFits ops i) (bits : ℕ) where
    pub work_refused : (error : FriError) → Replays ops.sponge i bits (Err error) → Refused ops i error
    work_refused NoClaims fault = absurd fault
    work_refused (MixedHeights round) fault = absurd fault
    work_refused TooHigh fault = absurd fault
    work_refused (Widths round) fault = absurd fault
    work_refused (PointOnCoset round) fault = absurd fault
    work_refused CommitPhases fault = absurd fault
    work_refused FinalPolynomial fault = absurd fault
    work_refused Queries fault = absurd fault
    work_refused (CommitWork phase) fault = (fits, fault)
    work_refused QueryWork fault = (fits, fault.0, fault.1)
    work_refused (Query query fault) obtained = absurd obtained

    module _ (is_bits : bits ≡ bits_of ops i) (drawn : Drawn E) (played : Replays ops.sponge i bits (Ok drawn)) where
      same_target : target_by i.rounds bits drawn i.proof ≡ target_of ops i
      same_target =
          ap (λ n. record { rounds = i.rounds; bits = n; alpha = drawn.alpha; betas = drawn.betas.items; trees = map phase_root i.proof.phases; final_polynomial = i.proof.final_polynomial }) is_bits
          ∙ ap (λ a. record { rounds = i.rounds; bits = bits_of ops i; alpha = a; betas = drawn.betas.items; trees = map phase_root i.proof.phases; final_polynomial = i.proof.final_polynomial }) played.2.0
          ∙ ap (λ t. record { rounds = i.rounds; bits = bits_of ops i; alpha = alpha_of ops.sponge i; betas = t; trees = map phase_root i.proof.phases; final_polynomial = i.proof.final_polynomial }) played.2.1

      same_queries : zip drawn.places.items i.proof.queries ≡ all_queries ops i
      same_queries = ap (λ t. zip t i.proof.queries) (played.2.2 ∙ ap (query_places ops.sponge i) is_bits)

      pub all_accepted : FindsFault ops.fields ops.hash (target_by i.rounds bits drawn i.proof) (zip drawn.places.items i.proof.queries) None → Accepted ops i
      all_accepted obtained = record {
        shape = fits;
        folds_work = played.0;
        query_work = played.1;
        queries = subst (λ t. AllByRecursion (QueryHolds ops.fields ops.hash t) (all_queries ops i)) same_target
            (subst (AllByRecursion (QueryHolds ops.fields ops.hash (target_by i.rounds bits drawn i.proof))) same_queries obtained);
      }

      pub query_refused : (query : ℕ) (fault : QueryFault)
          → FindsFault ops.fields ops.hash (target_by i.rounds bits drawn i.proof) (zip drawn.places.items i.proof.queries) (Some (query, fault)) → Refused ops i (Query query fault)
      query_refused query fault obtained = (
        fits,
        played.0,
        played.1,
        subst (λ t. IsFirstFaultWith (QueryHolds ops.fields ops.hash t) (QueryFails ops.fields ops.hash t fault) (all_queries ops i) query) same_target
            (subst (λ t. IsFirstFaultWith (QueryHolds ops.fields ops.hash (target_by i.rounds bits drawn i.proof)) (QueryFails ops.fields ops.hash (target_by i.rounds bits drawn i.proof) fault) t query)
            same_queries obtained),
      )
