-- From what the calls of an opening leave to an opening that was made so.
use Rattle.std.proofs.Common.{◌≡◌, ◌∙◌, ◌⊎◌, ℕ, ◌+◌, ◌^◌, List, ap, map, subst, sym}
use Rattle.std.proofs.lemmas.Simd.{map-map}
use Rattle.std.specs.Borrow.{Bor}
use Rattle.std.specs.List.{AllByRecursion}
use Rattle.std.specs.declared.vec.Vec.{Vec}
use Rattle.stark_support.specs.Claims.{IfRefused, RoundPoints, round_view}
use Rattle.stark_support.specs.PointFacts.{all_mapped, all_unmapped}
use Rattle.stark_support.specs.Sponge.{observed_all}
use Rattle.stark_fri.specs.Accept.{fold_count}
use Rattle.stark_fri.specs.Claims.{ClaimsFit, RoundRead, height_of}
use Rattle.stark_fri.specs.Parts.{FriDataView, FriOps}
use Rattle.stark_fri.specs.Query.{extension_coset, extension_root}
use Rattle.stark_fri.specs.Scheme.{own_rounds}
use Rattle.stark_fri.specs.declared.error.FriProverError.{FriProverError}
use Rattle.stark_support.specs.declared.scheme.SchemeFault.{SchemeFault}
use Rattle.stark_support.specs.declared.scheme.SchemeFault.TheVariants.{OutOfMemory, Refused}
use Rattle.stark_fri.specs.Transcript.{betas_of, observed_claims, observed_extension, observed_parameters, places_from}
use Rattle.stark_fri_proof.specs.Parts.{FriProofView}
use Rattle.stark_fri_proof.specs.declared.parameters.FriParameters.{FriParameters}
use Rattle.stark_fri_prover.specs.Folds.{AreFolds, IsWitness}
use Rattle.stark_fri_prover.specs.Batching.{AreWordsOf, IsBatch}
use Rattle.stark_fri_prover.specs.MadeOpening.{AreOfHeight, HaveDegreesBelow, IsMade, LacksWitness, OpeningFault, own_bits, own_height, seen_round, seen_rounds}
use Rattle.stark_fri_prover.specs.Layers.{AreLayersOf, OpensEach}
use Rattle.stark_fri_prover.specs.Work.{StopsAtFold, StopsAtQueries}
use Rattle.stark_fri_prover.specs.OwnClaims.{RefusesRounds, points_in}
use Rattle.stark_fri_prover.specs.declared.layers.Layer.{Layer}

module _ {C F E T X : Type 0} (ops : FriOps C F E) (bytes_of : F → List ℕ) (coordinates : E → List F) (data_of : T → FriDataView F) (layers_of : T → List (List (List ℕ))) (points_of : X → List (List E))
    (s : FriParameters) (rounds : List (Bor T × X)) (start : C) where
  abbrev seen : List (RoundPoints E (FriDataView F))
  seen = seen_rounds data_of points_of rounds

  -- The claims, and the transcript up to alpha.
  module _ (log_height : ℕ) (height : log_height ≡ height_of (own_rounds ops seen)) (read : List (RoundRead E)) (own : read ≡ own_rounds ops seen) (after_parameters after_claims after_alpha : C) (alpha : E)
      (is_parameters : after_parameters ≡ observed_parameters ops.sponge.observing start s) (is_claims : after_claims ≡ observed_claims ops.sponge.observing after_parameters read)
      (is_alpha : alpha ≡ ops.sponge.draw after_claims) (is_after : after_alpha ≡ ops.sponge.after_draw after_claims) where
    claims_state : after_claims ≡ observed_claims ops.sponge.observing (observed_parameters ops.sponge.observing start s) (own_rounds ops seen)
    claims_state = is_claims ∙ ap (λ state. observed_claims ops.sponge.observing state read) is_parameters ∙ ap (observed_claims ops.sponge.observing (observed_parameters ops.sponge.observing start s)) own

    -- All that is claimed is batched by this alpha.
    batch_here : (batch : List E) → (HaveDegreesBelow (2 ^ log_height) seen → IsBatch ops.fields.ring ops.fields.embed alpha (2 ^ log_height) seen batch)
        → HaveDegreesBelow (2 ^ height_of (own_rounds ops seen)) seen
        → IsBatch ops.fields.ring ops.fields.embed (ops.sponge.draw (observed_claims ops.sponge.observing (observed_parameters ops.sponge.observing start s) (own_rounds ops seen)))
        (2 ^ height_of (own_rounds ops seen)) seen batch
    batch_here batch batched degrees =
        let made = batched (subst (λ k. HaveDegreesBelow (2 ^ k) seen) (sym height) degrees) in
        subst (λ a. IsBatch ops.fields.ring ops.fields.embed a (2 ^ height_of (own_rounds ops seen)) seen batch) (is_alpha ∙ ap ops.sponge.draw claims_state)
        (subst (λ k. IsBatch ops.fields.ring ops.fields.embed alpha (2 ^ k) seen batch) height made)

    -- A fold asks for work that no element passes, or the queries do.
    abbrev Stops : ℕ → ℕ → C → List E → Type 0
    Stops bits count state batch =
        StopsAtFold ops bytes_of s.commit_proof_of_work_bits ops.fields.generator bits count state batch
        ⊎ StopsAtQueries ops bytes_of s.commit_proof_of_work_bits ops.fields.generator bits count s.query_proof_of_work_bits state batch

    pub lacks_witness : (bits count : ℕ) → bits ≡ log_height + s.log_blowup → count ≡ fold_count s log_height → (batch : List E) → ClaimsFit ops.fields s (own_rounds ops seen) → AreOfHeight log_height seen
        → (HaveDegreesBelow (2 ^ log_height) seen → IsBatch ops.fields.ring ops.fields.embed alpha (2 ^ log_height) seen batch)
        → StopsAtFold ops bytes_of s.commit_proof_of_work_bits ops.fields.generator bits count after_alpha batch
        ⊎ StopsAtQueries ops bytes_of s.commit_proof_of_work_bits ops.fields.generator bits count s.query_proof_of_work_bits after_alpha batch
        → LacksWitness ops bytes_of s seen start
    lacks_witness bits count is_bits is_count batch fit heights batched stops =
        let n = height_of (own_rounds ops seen) + s.log_blowup in
        let folds = fold_count s (height_of (own_rounds ops seen)) in
        record {
          claims = fit;
          heights = subst (λ k. AreOfHeight k seen) height heights;
          polynomial = batch;
          batch = batch_here batch batched;
          stops = subst (λ state. Stops n folds state batch) (is_after ∙ ap ops.sponge.after_draw claims_state)
              (subst (λ k. Stops n k after_alpha batch) (is_count ∙ ap (fold_count s) height)
              (subst (λ k. Stops k count after_alpha batch) (is_bits ∙ ap (λ k. k + s.log_blowup) height) stops));
        }

    -- The folds, the work and the places after it.
    module _ (proof : FriProofView F E) (bits count : ℕ) (is_bits : bits ≡ log_height + s.log_blowup) (is_count : count ≡ fold_count s log_height) (batch : List E) (layers : List (Layer E))
        (after_folds after_final after_work : C)
        (is_final : after_final ≡ observed_all (observed_extension ops.sponge.observing) proof.final_polynomial after_folds) (places : List ℕ)
        (is_places : places ≡ places_from ops.sponge bits s.num_queries after_work) where
      bits_here : bits ≡ own_bits ops s seen start proof
      bits_here = is_bits ∙ ap (λ k. k + s.log_blowup) height

      pub is_made : ClaimsFit ops.fields s (own_rounds ops seen) → AreOfHeight log_height seen
          → (HaveDegreesBelow (2 ^ log_height) seen → IsBatch ops.fields.ring ops.fields.embed alpha (2 ^ log_height) seen batch)
          → AreFolds ops.sponge ops.fields.ring s.commit_proof_of_work_bits count after_alpha after_folds batch proof.phases proof.final_polynomial
          → AreWordsOf ops.fields.ring (extension_root ops.fields) (extension_coset ops.fields bits) (betas_of ops.sponge s.commit_proof_of_work_bits after_alpha proof.phases) batch layers
          → AreLayersOf bytes_of coordinates ops.fields.ring.zero ops.hash bits proof.phases layers
          → IsWitness ops.sponge.zero ops.sponge.passes ops.sponge.after_check s.query_proof_of_work_bits after_final after_work proof.query_witness
          → OpensEach (λ stored. (data_of stored).extended) layers_of rounds layers places proof.queries
          → IsMade ops bytes_of coordinates data_of layers_of points_of s rounds start proof
      is_made fit heights batched folds words trees work opens = record {
        claims = fit;
        heights = subst (λ k. AreOfHeight k seen) height heights;
        polynomial = batch;
        batch = batch_here batch batched;
        folding = record {
          after_folds = after_folds;
          folds = subst (λ state. AreFolds ops.sponge ops.fields.ring s.commit_proof_of_work_bits (fold_count s (own_height ops s seen start proof)) state after_folds batch proof.phases proof.final_polynomial)
              (is_after ∙ ap ops.sponge.after_draw claims_state)
              (subst (λ n. AreFolds ops.sponge ops.fields.ring s.commit_proof_of_work_bits n after_alpha after_folds batch proof.phases proof.final_polynomial) (is_count ∙ ap (fold_count s) height) folds);
          layers = layers;
          words = subst (λ state. AreWordsOf ops.fields.ring (extension_root ops.fields) (extension_coset ops.fields (own_bits ops s seen start proof))
              (betas_of ops.sponge s.commit_proof_of_work_bits state proof.phases) batch layers) (is_after ∙ ap ops.sponge.after_draw claims_state)
              (subst (λ n. AreWordsOf ops.fields.ring (extension_root ops.fields) (extension_coset ops.fields n) (betas_of ops.sponge s.commit_proof_of_work_bits after_alpha proof.phases) batch layers) bits_here words);
          trees = subst (λ n. AreLayersOf bytes_of coordinates ops.fields.ring.zero ops.hash n proof.phases layers) bits_here trees;
          after_work = after_work;
          work = subst (λ state. IsWitness ops.sponge.zero ops.sponge.passes ops.sponge.after_check s.query_proof_of_work_bits state after_work proof.query_witness) is_final work;
        };
        queries = subst (λ at. OpensEach (λ stored. (data_of stored).extended) layers_of rounds layers at proof.queries) (is_places ∙ ap (λ n. places_from ops.sponge n s.num_queries after_work) bits_here) opens;
      }

-- Rounds in memory are seen alike through what is read of their points.
pub seen_again : {F E T A B : Type 0} (data_of : T → FriDataView F) (rounds : List (Bor T × Vec (Vec E A) B))
    → map (λ (r : RoundPoints E T). (data_of r.0, r.1)) (map round_view rounds) ≡ seen_rounds data_of points_in rounds
seen_again {F} {E} {T} data_of rounds = map-map {C = RoundPoints E (FriDataView F)} (λ (r : RoundPoints E T). (data_of r.0, r.1)) round_view rounds

-- So are their heights.
module _ {F E T A B : Type 0} (data_of : T → FriDataView F) (k : ℕ) (rounds : List (Bor T × Vec (Vec E A) B)) where
  pub heights_to_seen : AllByRecursion (λ (r : RoundPoints E T). (data_of r.0).log_height ≡ k) (map round_view rounds) → AreOfHeight k (seen_rounds data_of points_in rounds)
  heights_to_seen all = all_mapped (seen_round data_of points_in) (λ (round : RoundPoints E (FriDataView F)). round.0.log_height ≡ k) rounds
      (all_unmapped round_view (λ (r : RoundPoints E T). (data_of r.0).log_height ≡ k) rounds all)

  pub heights_from_seen : AreOfHeight k (seen_rounds data_of points_in rounds) → AllByRecursion (λ (r : RoundPoints E T). (data_of r.0).log_height ≡ k) (map round_view rounds)
  heights_from_seen all = all_mapped round_view (λ (r : RoundPoints E T). (data_of r.0).log_height ≡ k) rounds
      (all_unmapped (seen_round data_of points_in) (λ (round : RoundPoints E (FriDataView F)). round.0.log_height ≡ k) rounds all)

-- And so is what is refused of them.
pub refused_again : {C F E T A B : Type 0} (ops : FriOps C F E) (bytes_of : F → List ℕ) (data_of : T → FriDataView F) (s : FriParameters) (rounds : List (Bor T × Vec (Vec E A) B)) (state : C) (fault : SchemeFault FriProverError)
    → IfRefused fault (RefusesRounds ops bytes_of data_of s rounds state)
    → IfRefused fault (OpeningFault ops bytes_of s (map (λ (r : RoundPoints E T). (data_of r.0, r.1)) (map round_view rounds)) state)
refused_again ops bytes_of data_of s rounds state OutOfMemory refused = tt
refused_again ops bytes_of data_of s rounds state (Refused error) refused = subst (λ some. OpeningFault ops bytes_of s some state error) (sym (seen_again data_of rounds)) refused
