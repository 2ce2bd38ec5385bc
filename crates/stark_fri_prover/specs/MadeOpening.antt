-- What an honest prover opens, and what its proof is made of.
use Rattle.std.specs.Prelude.{◌≡◌, ◌⊎◌, ℕ, ◌+◌, ◌^◌, List, length, map}
use Rattle.std.specs.Borrow.{Bor}
use Rattle.std.specs.List.{AllByRecursion}
use Rattle.stark_support.specs.Claims.{RoundPoints}
use Rattle.stark_support.specs.Embedding.{IsEmbedding}
use Rattle.stark_support.specs.Faults.{PlaceByPlace}
use Rattle.stark_support.specs.Polynomial.{HasDegreeBelow}
use Rattle.stark_support.specs.Ring.{FieldLaws}
use Rattle.stark_support.specs.Scheme.{CommittingCalls, SchemeOps}
use Rattle.stark_support.specs.Sponge.{observed_all}
use Rattle.stark_support.specs.TwoAdic.{TwoAdicLaws}
use Rattle.stark_merkle.specs.Bytes.{pair_bytes_of, row_bytes_of}
use Rattle.stark_merkle.specs.Tree.{LeadsTo, TreeDigests}
use Rattle.stark_merkle.specs.declared.root.Root.{Root}
use Rattle.stark_fri.specs.Accept.{bits_of, fold_count, log_height_of}
use Rattle.stark_fri.specs.Claims.{ClaimsFit, height_of}
use Rattle.stark_fri.specs.Parts.{FriDataView, FriFields, FriOps}
use Rattle.stark_fri.specs.Query.{extension_coset, extension_root}
use Rattle.stark_fri.specs.Scheme.{AreExtended, FriStands, OpeningRefused, extension_of, fri_scheme, instance_of, own_rounds, points_view}
use Rattle.stark_fri.specs.Transcript.{Instance, after_alpha, alpha_of, fold_betas, observed_claims, observed_extension, observed_parameters, places_from}
use Rattle.stark_fri.specs.declared.error.FriError.{FriError}
use Rattle.stark_fri.specs.declared.error.FriProverError.{FriProverError}
use Rattle.stark_fri.specs.declared.error.FriProverError.TheVariants.{Points, Claims, Heights, NoWork}
use Rattle.stark_fri_proof.specs.Parts.{FriProofView, InputOpening, QueryProof}
use Rattle.stark_fri_proof.specs.Paths.{digests_of}
use Rattle.stark_fri_proof.specs.declared.parameters.FriParameters.{FriParameters}
use Rattle.stark_fri_prover.specs.Commit.{AreLayersOver, IsRootOver, row_of}
use Rattle.stark_fri_prover.specs.Folds.{AreFolds, IsWitness}
use Rattle.stark_fri_prover.specs.Layers.{AreLayersOf, OpensEach, OpensWay}
use Rattle.stark_fri_prover.specs.declared.layers.Layer.{Layer}
use Rattle.stark_fri_prover.specs.Batching.{AreWordsOf, IsBatch}
use Rattle.stark_fri_prover.specs.Work.{StopsAtFold, StopsAtQueries}

-- The base field and the extension are fields, the one inside the other, the base has its roots of one, and rows and pairs are
-- written by the numbers of their elements.
pub record AreLawful {F E : Type 0} (fields : FriFields F E) (bytes_of : F → List ℕ) (coordinates : E → List F) : Type 0 where
  pub base : FieldLaws fields.base fields.base_inverse
  pub extension : FieldLaws fields.ring fields.inverse
  pub embeds : IsEmbedding fields.base fields.ring fields.embed
  pub two_adic : TwoAdicLaws fields.base fields.adicity fields.root fields.generator
  pub row_bytes : (rows : List (List F)) → fields.row_bytes rows ≡ row_bytes_of bytes_of rows
  pub pair_bytes : (x y : E) → fields.pair_bytes x y ≡ pair_bytes_of bytes_of coordinates x y

module _ {F E : Type 0} (fields : FriFields F E) (bits : ℕ) where
  -- A round's kept rows are its columns' values at 2 ^ bits points, and each matrix has its list of points.
  pub record IsExtendedRound (round : RoundPoints E (FriDataView F)) : Type 0 where
    pub rows : AreExtended fields.base fields.root (extension_of fields.generator bits) round.0.matrices round.0.extended
    pub points : length round.1 ≡ length round.0.matrices

  module _ (hash : TreeDigests) where
    -- Over the kept rows stands a tree of these layers, with the round's root.
    pub record IsKeptRound (bytes_of : F → List ℕ) (layers : List (List (List ℕ))) (round : RoundPoints E (FriDataView F)) : Type 0 where
      pub extended : IsExtendedRound round
      pub tree : AreLayersOver hash bytes_of bits round.0.extended layers
      pub root : IsRootOver fields.base fields.root hash bytes_of (extension_of fields.generator bits) round.0.matrices round.0.root.bytes

    -- What is opened of a round at a place is the kept row, with a path to the round's root.
    pub record OpensRound (place : ℕ) (round : RoundPoints E (FriDataView F)) (opened : InputOpening F) : Type 0 where
      pub rows : opened.rows ≡ map (row_of place) round.0.extended
      pub path : LeadsTo hash round.0.root.bytes bits place (fields.row_bytes opened.rows) (digests_of opened.path)

    -- A query opens each round at its place, and what the way through the layers opens.
    pub record OpensQuery (rounds : List (RoundPoints E (FriDataView F))) (layers : List (Layer E)) (place : ℕ) (query : QueryProof F E) : Type 0 where
      pub inputs : PlaceByPlace (OpensRound place) rounds query.inputs
      pub way : OpensWay layers place query.layers

module _ {C F E : Type 0} (ops : FriOps C F E) (s : FriParameters) (rounds : List (RoundPoints E (FriDataView F))) (start : C) (proof : FriProofView F E) where
  -- The true claims of the rounds' columns, by this proof, from this state.
  abbrev pub own_instance : Instance C F E
  own_instance = instance_of s (own_rounds ops rounds) proof start

  -- The logarithms of the columns' length and of the number of extended rows.
  abbrev pub own_height : ℕ
  own_height = log_height_of ops own_instance

  abbrev pub own_bits : ℕ
  own_bits = bits_of ops own_instance

  -- All that is claimed is batched into the polynomial, by the alpha that is drawn.
  abbrev pub IsBatched : List E → Type 0
  IsBatched polynomial = IsBatch ops.fields.ring ops.fields.embed (alpha_of ops.sponge own_instance) (2 ^ own_height) rounds polynomial

module _ {C F E : Type 0} (ops : FriOps C F E) (bytes_of : F → List ℕ) (coordinates : E → List F) (s : FriParameters) (rounds : List (RoundPoints E (FriDataView F))) (start : C) (proof : FriProofView F E) where
  abbrev own : Instance C F E
  own = own_instance ops s rounds start proof

  abbrev bits : ℕ
  bits = own_bits ops s rounds start proof

  -- The polynomial is folded to the final one, its words and those that it is folded to are the layers, their trees have the phases'
  -- roots, and the queries' witness passes after all of it.
  pub record IsFolding (polynomial : List E) : Type 0 where
    pub after_folds : C
    pub folds : AreFolds ops.sponge ops.fields.ring s.commit_proof_of_work_bits (fold_count s (own_height ops s rounds start proof)) (after_alpha ops.sponge own) after_folds polynomial
        proof.phases proof.final_polynomial
    pub layers : List (Layer E)
    pub words : AreWordsOf ops.fields.ring (extension_root ops.fields) (extension_coset ops.fields bits) (fold_betas ops.sponge own) polynomial layers
    pub trees : AreLayersOf bytes_of coordinates ops.fields.ring.zero ops.hash bits proof.phases layers
    pub after_work : C
    pub work : IsWitness ops.sponge.zero ops.sponge.passes ops.sponge.after_check s.query_proof_of_work_bits
        (observed_all (observed_extension ops.sponge.observing) proof.final_polynomial after_folds) after_work proof.query_witness

  -- The proof is an honest prover's: it batches the claims, folds the batch, and opens layers and rounds at the places that are drawn
  -- after the work.
  pub record IsOpening : Type 0 where
    pub claims : ClaimsFit ops.fields s (own_rounds ops rounds)
    pub extended : AllByRecursion (IsExtendedRound ops.fields bits) rounds
    pub polynomial : List E
    pub batch : IsBatched ops s rounds start proof polynomial
    pub folding : IsFolding polynomial
    pub queries : PlaceByPlace (OpensQuery ops.fields bits ops.hash rounds folding.layers) (places_from ops.sponge bits s.num_queries folding.after_work) proof.queries

-- ---- an opening in memory

-- The columns of all rounds are polynomials of a degree below this.
abbrev pub HaveDegreesBelow : {F E : Type 0} → ℕ → List (RoundPoints E (FriDataView F)) → Type 0
HaveDegreesBelow {F} {E} size rounds = AllByRecursion (λ (round : RoundPoints E (FriDataView F)). AllByRecursion (AllByRecursion (HasDegreeBelow size)) round.0.matrices) rounds

-- A round in memory, whose data and points are seen so.
abbrev pub seen_round : {F E T X : Type 0} → (T → FriDataView F) → (X → List (List E)) → Bor T × X → RoundPoints E (FriDataView F)
seen_round data_of points_of round = (data_of round.0.now, points_of round.1)

abbrev pub seen_rounds : {F E T X : Type 0} → (T → FriDataView F) → (X → List (List E)) → List (Bor T × X) → List (RoundPoints E (FriDataView F))
seen_rounds data_of points_of rounds = map (seen_round data_of points_of) rounds

-- Each round's height is this.
abbrev pub AreOfHeight : {F E : Type 0} → ℕ → List (RoundPoints E (FriDataView F)) → Type 0
AreOfHeight {F} {E} height rounds = AllByRecursion (λ (round : RoundPoints E (FriDataView F)). round.0.log_height ≡ height) rounds

module _ {C F E T X : Type 0} (ops : FriOps C F E) (bytes_of : F → List ℕ) (coordinates : E → List F) (data_of : T → FriDataView F) (layers_of : T → List (List (List ℕ))) (points_of : X → List (List E))
    (s : FriParameters) (rounds : List (Bor T × X)) (start : C) (proof : FriProofView F E) where
  abbrev seen : List (RoundPoints E (FriDataView F))
  seen = seen_rounds data_of points_of rounds

  -- What the prover makes of rounds in memory: of their data it is known that they are of the claims' height, and the batch is one
  -- where their columns are of a degree below that height.
  pub record IsMade : Type 0 where
    pub claims : ClaimsFit ops.fields s (own_rounds ops seen)
    pub heights : AreOfHeight (own_height ops s seen start proof) seen
    pub polynomial : List E
    pub batch : HaveDegreesBelow (2 ^ own_height ops s seen start proof) seen → IsBatched ops s seen start proof polynomial
    pub folding : IsFolding ops bytes_of coordinates s seen start proof polynomial
    pub queries : OpensEach (λ stored. (data_of stored).extended) layers_of rounds folding.layers (places_from ops.sponge (own_bits ops s seen start proof) s.num_queries folding.after_work) proof.queries

-- ---- why there is no opening

module _ {C F E : Type 0} (ops : FriOps C F E) (bytes_of : F → List ℕ) (s : FriParameters) (rounds : List (RoundPoints E (FriDataView F))) (start : C) where
  -- The state from which alpha is drawn, and the logarithm of the columns' length.
  abbrev claimed : C
  claimed = observed_claims ops.sponge.observing (observed_parameters ops.sponge.observing start s) (own_rounds ops rounds)

  abbrev log_height : ℕ
  log_height = height_of (own_rounds ops rounds)

  abbrev FoldsStop : List E → Type 0
  FoldsStop polynomial = StopsAtFold ops bytes_of s.commit_proof_of_work_bits ops.fields.generator (log_height + s.log_blowup) (fold_count s log_height) (ops.sponge.after_draw claimed) polynomial

  abbrev QueriesStop : List E → Type 0
  QueriesStop polynomial = StopsAtQueries ops bytes_of s.commit_proof_of_work_bits ops.fields.generator (log_height + s.log_blowup) (fold_count s log_height) s.query_proof_of_work_bits
      (ops.sponge.after_draw claimed) polynomial

  -- An honest transcript comes to a check that no element passes: the claims fit and are batched, and of the batch's folds one asks
  -- for such work, or all are made and the queries do.
  pub record LacksWitness : Type 0 where
    pub claims : ClaimsFit ops.fields s (own_rounds ops rounds)
    pub heights : AreOfHeight log_height rounds
    pub polynomial : List E
    pub batch : HaveDegreesBelow (2 ^ log_height) rounds → IsBatch ops.fields.ring ops.fields.embed (ops.sponge.draw claimed) (2 ^ log_height) rounds polynomial
    pub stops : FoldsStop polynomial ⊎ QueriesStop polynomial

  -- Why the prover answers no opening.
  abbrev pub OpeningFault : FriProverError → Type 0
  OpeningFault Points = OpeningRefused ops s rounds Points
  OpeningFault (Claims error) = OpeningRefused ops s rounds (Claims error)
  OpeningFault Heights = OpeningRefused ops s rounds Heights
  OpeningFault NoWork = LacksWitness

-- The FRI scheme, where what stands for matrices also has the tree over their rows, and work is lacking only where no witness passes.
abbrev pub kept_scheme : {C F E S T P : Type 0} → FriOps C F E → (F → List ℕ) → (S → FriParameters) → (T → FriDataView F) → (T → List (List (List ℕ))) → (P → FriProofView F E)
    → CommittingCalls S F Root T → SchemeOps S F E C Root T P FriError FriProverError
kept_scheme ops bytes_of parameters_of data_of layers_of proof_of calls = record (fri_scheme ops parameters_of data_of proof_of calls) {
  Stands = λ s root stored matrices. FriStands ops (parameters_of s) root (data_of stored) matrices
      × AreLayersOver ops.hash bytes_of ((data_of stored).log_height + (parameters_of s).log_blowup) (data_of stored).extended (layers_of stored);
  RefusesOpening = λ s rounds state index error. OpeningFault ops bytes_of (parameters_of s) (map (points_view ops parameters_of data_of proof_of) rounds) state error;
}
