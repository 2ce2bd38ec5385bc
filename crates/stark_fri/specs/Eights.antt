-- Queries taken eight at a time: what the tests of eight find.
use Rattle.std.specs.Prelude.{◌≡◌, ℕ, ◌<◌, Bool, IsTrue, List, [], length, map, slice_index, slice_index_or}
use Rattle.std.specs.List.{AllByRecursion, zip}
use Rattle.std.specs.Borrow.{Bor}
use Rattle.std.specs.declared.vec.Vec.{Vec}
use Rattle.stark_support.specs.Coset.{TwoAdicCoset}
use Rattle.stark_support.specs.Polynomial.{value}
use Rattle.stark_merkle.specs.Eight.{path_at}
use Rattle.stark_merkle.specs.Tree.{LeadsTo, TreeDigests}
use Rattle.stark_merkle.specs.declared.root.Root.{Root}
use Rattle.stark_fri_proof.specs.Parts.{FriProofView, InputOpening, QueryProof}
use Rattle.stark_fri_proof.specs.Paths.{digests_of}
use Rattle.stark_fri_proof.specs.declared.proof.LayerOpening.{LayerOpening}
use Rattle.stark_fri_proof.specs.declared.proof.Phase.{Phase}
use Rattle.stark_fri.specs.Claims.{RoundRead, rounds_in}
use Rattle.stark_fri.specs.Parts.{FriFields}
use Rattle.stark_fri.specs.Query.{InputLeads, PairLeads, QueryFits, Target, batched_at, extension_coset, last_point, phase_root}
use Rattle.stark_fri.specs.Walks.{IsWalk, opening_of, openings_of}
use Rattle.stark_fri.specs.declared.folds.FoldWalk.{FoldWalk}
use Rattle.stark_fri.specs.declared.folds.Pair.{Pair}

-- What holds of each of eight elements, and of those at the same place of two lists.
module _ {A : Type 0} (P : A → Type 0) (xs : List A) where
  abbrev pub InEight : Type 0
  InEight = (j : ℕ) (x : A) → j < 8 → x ≡ slice_index_or xs j x → P x

module _ {A B : Type 0} (P : A → B → Type 0) (xs : List A) (ys : List B) where
  abbrev pub InBothEight : Type 0
  InBothEight = (j : ℕ) (x : A) (y : B) → j < 8 → x ≡ slice_index_or xs j x → y ≡ slice_index_or ys j y → P x y

-- What is read of entry i of the list that element k has.
abbrev pub IsReadAt : {A B C : Type 0} → (A → List B) → (B → C) → ℕ → List A → ℕ → C → Type 0
IsReadAt {A} {B} list read i xs k c = (x : A) (entry : B) → x ≡ slice_index_or xs k x → entry ≡ slice_index_or (list x) i entry → c ≡ read entry

-- Each opens `count` rounds.
abbrev pub OpenRounds : {F E : Type 0} → ℕ → List (QueryProof F E) → Type 0
OpenRounds count queries = InEight (λ query. length query.inputs ≡ count) queries

-- Each opens `count` layers.
abbrev pub OpenLayers : {F E : Type 0} → ℕ → List (QueryProof F E) → Type 0
OpenLayers count queries = InEight (λ query. length query.layers ≡ count) queries

abbrev pub HavePairs : {E : Type 0} → ℕ → List (FoldWalk E) → Type 0
HavePairs count walks = InEight (λ walk. length walk.pairs.items ≡ count) walks

abbrev pub EightFit : {F E : Type 0} → List (RoundRead E) → ℕ → List (QueryProof F E) → Type 0
EightFit rounds folds queries = InEight (QueryFits rounds folds) queries

-- The bytes that each opens of a round, and its path.
abbrev pub AreRowTexts : {F E : Type 0} → FriFields F E → ℕ → List (QueryProof F E) → List (List ℕ) → Type 0
AreRowTexts fields round queries texts =
    (k : ℕ) → k < 8 → IsReadAt (λ query. query.inputs) (λ input. fields.row_bytes input.rows) round queries k (slice_index_or texts k [])

abbrev pub AreRowPaths : {F E : Type 0} → ℕ → List (QueryProof F E) → List (Bor (List (List ℕ))) → Type 0
AreRowPaths round queries paths = (k : ℕ) → k < 8 → IsReadAt (λ query. query.inputs) (λ input. digests_of input.path) round queries k (path_at paths k)

-- The bytes of each one's pair of a layer, its place, and its path.
abbrev pub ArePairTexts : {F E : Type 0} → FriFields F E → ℕ → List (FoldWalk E) → List (List ℕ) → Type 0
ArePairTexts fields layer walks texts =
    (k : ℕ) → k < 8 → IsReadAt (λ walk. walk.pairs.items) (λ pair. fields.pair_bytes pair.low pair.high) layer walks k (slice_index_or texts k [])

abbrev pub ArePairPlaces : {E : Type 0} → ℕ → List (FoldWalk E) → List ℕ → Type 0
ArePairPlaces layer walks places = (k : ℕ) → k < 8 → IsReadAt (λ walk. walk.pairs.items) (λ pair. pair.place) layer walks k (slice_index places k)

abbrev pub AreLayerPaths : {F E : Type 0} → ℕ → List (QueryProof F E) → List (Bor (List (List ℕ))) → Type 0
AreLayerPaths layer queries paths = (k : ℕ) → k < 8 → IsReadAt (λ query. query.layers) (λ opened. digests_of opened.path) layer queries k (path_at paths k)

module _ {F E : Type 0} (fields : FriFields F E) (hash : TreeDigests) where
  -- What each opens of a round leads to its root.
  abbrev pub RowsLead : List ℕ → ℕ → ℕ → List ℕ → List (QueryProof F E) → Type 0
  RowsLead root bits round places queries =
      InBothEight (λ place query. (input : InputOpening F) → input ≡ slice_index_or query.inputs round input
      → LeadsTo hash root bits place (fields.row_bytes input.rows) (digests_of input.path)) places queries

  -- What each opens of all rounds.
  abbrev pub EightInputsLead : ℕ → List (RoundRead E) → List ℕ → List (QueryProof F E) → Type 0
  EightInputsLead bits rounds places queries = InBothEight (λ place query. AllByRecursion (InputLeads fields hash bits place) (zip rounds query.inputs)) places queries

  -- Each one's pair of a layer leads to its root.
  abbrev pub PairsLead : List ℕ → ℕ → ℕ → List (QueryProof F E) → List (FoldWalk E) → Type 0
  PairsLead root depth i queries walks =
      InBothEight (λ query walk. (layer : LayerOpening E) (pair : Pair E) → layer ≡ slice_index_or query.layers i layer → pair ≡ slice_index_or walk.pairs.items i pair
      → PairLeads hash (opening_of fields depth root layer pair)) queries walks

  -- Each one's pairs of all layers.
  abbrev pub EightLayersLead : ℕ → List (Phase F) → List (QueryProof F E) → List (FoldWalk E) → Type 0
  EightLayersLead bits phases queries walks =
      InBothEight (λ query walk. AllByRecursion (PairLeads hash) (openings_of fields bits (map phase_root phases) query.layers walk.pairs.items)) queries walks

module _ {F E : Type 0} (fields : FriFields F E) (target : Target E) where
  -- A query's rows, batched and folded.
  abbrev pub IsQueryWalk : ℕ → QueryProof F E → FoldWalk E → Type 0
  IsQueryWalk place query walk =
      IsWalk fields target.bits place (batched_at fields target.alpha target.bits target.rounds place query.inputs) target.betas query.layers walk

  abbrev pub AreWalks : List ℕ → List (QueryProof F E) → List (FoldWalk E) → Type 0
  AreWalks places queries walks = (length walks ≡ 8) × ((walk : FoldWalk E) (j : ℕ) → j < 8 → walk ≡ slice_index_or walks j walk
      → (place : ℕ) (query : QueryProof F E) → place ≡ slice_index_or places j place → query ≡ slice_index_or queries j query → IsQueryWalk place query walk)

-- The folds lead to the final polynomial's value.
abbrev pub EndsAt : {F E : Type 0} → FriFields F E → FriProofView F E → ℕ → ℕ → FoldWalk E → Type 0
EndsAt fields proof bits place walk = walk.reached ≡ value fields.ring proof.final_polynomial (last_point fields (length proof.phases) (extension_coset fields bits) place)

abbrev pub EightEnd : {F E : Type 0} → FriFields F E → FriProofView F E → ℕ → List ℕ → List (FoldWalk E) → Type 0
EightEnd fields proof bits places walks = InBothEight (EndsAt fields proof bits) places walks

-- ---- of claims as they stand in memory

module _ {F E D A B : Type 0} (fields : FriFields F E) where
  -- Where it is true, all that the eight open of the rounds leads to the roots.
  abbrev pub EightLeadIf : TreeDigests → (D → TwoAdicCoset F) → List (Bor Root × Vec (D × Vec (E × Bor (List E)) A) B) → ℕ → List ℕ → List (QueryProof F E) → Bool → Type 0
  EightLeadIf hash coset_of claims bits places queries lead = IsTrue lead → EightInputsLead fields hash bits (rounds_in coset_of claims) places queries
