-- The trees over the pairs of a word, and what a query opens of them.
use Rattle.std.specs.Prelude.{◌≡◌, ℕ, ◌+◌, ◌-◌, ◌*◌, ◌/◌, cond, ltb, ◌<◌, ◌≤◌, ⊤, List, [], ◌∷◌, length, map, get_or, slice_index_or, Some}
use Rattle.std.specs.List.{range_with_len, slice_get}
use Rattle.stark_fri_proof.specs.Paths.{digests_of}
use Rattle.stark_fri_proof.specs.declared.proof.LayerOpening.{LayerOpening}
use Rattle.stark_fri_proof.specs.declared.proof.Phase.{Phase}
use Rattle.stark_fri_prover.specs.declared.layers.Layer.{Layer}
use Rattle.std.specs.Borrow.{Bor}
use Rattle.stark_fri_proof.specs.Parts.{InputOpening, QueryProof}
use Rattle.stark_support.specs.Faults.{PlaceByPlace}
use Rattle.stark_support.specs.declared.matrix.RowMajorMatrix.{RowMajorMatrix}
use Rattle.stark_fri_prover.specs.Commit.{HaveRow, IsPathOrNone, row_of}
use Rattle.stark_merkle.specs.Bytes.{pair_bytes_of}
use Rattle.stark_merkle.specs.declared.root.Root.{Root}
use Rattle.stark_merkle.specs.Tree.{TreeDigests, digests_in, layers_from, top_of}

module _ {F E : Type 0} (bytes_of : F → List ℕ) (coordinates : E → List F) (zero : E) where
  -- The bytes of the values at a place and half the word further.
  abbrev pub pair_of : List E → ℕ → ℕ → List ℕ
  pair_of values half i = pair_bytes_of bytes_of coordinates (get_or values i zero) (get_or values (half + i) zero)

  -- The bytes of eight pairs.
  abbrev pub AreEightPairs : List E → ℕ → ℕ → List (List ℕ) → Type 0
  AreEightPairs values half place texts = (j : ℕ) → j < 8 → slice_index_or texts j [] ≡ pair_of values half (place + j)

  module _ (hash : TreeDigests) where
    abbrev pub pair_leaf : List E → ℕ → ℕ → List ℕ
    pair_leaf values half i = hash.leaf (pair_of values half i)

    -- The leaves of the first pairs, and of all of them.
    abbrev pub pair_leaves_to : List E → ℕ → List (List ℕ)
    pair_leaves_to values count = map (pair_leaf values (length values / 2)) (range_with_len 0 count)

    abbrev pub pair_leaves_of : List E → List (List ℕ)
    pair_leaves_of values = pair_leaves_to values (length values / 2)

    -- Those of eight pairs.
    abbrev pub AreEightLeaves : List E → ℕ → ℕ → List (List ℕ) → Type 0
    AreEightLeaves values half place leaves = (j : ℕ) → j < 8 → slice_index_or leaves j [] ≡ pair_leaf values half (place + j)

    -- The layers of the tree over the pairs of a word of 2 ^ log_size values, and its root.
    pub record IsPairTree (log_size : ℕ) (values : List E) (layers : List (List (List ℕ))) (root : Root) : Type 0 where
      pub levels : layers ≡ layers_from hash.node (log_size - 1) (pair_leaves_of values)
      pub top : top_of layers ≡ Some root.bytes

-- The value at another place, with the path of a pair.
pub record OpensPair {E : Type 0} (values : List E) (layers : List (List (List ℕ))) (other pair : ℕ) (opened : LayerOpening E) : Type 0 where
  pub sibling : slice_get values other ≡ Some opened.sibling
  pub path : IsPathOrNone layers pair (digests_of opened.path)

-- Of a place in the first half the value half the word further is opened, and of one in the second half that before it; the
-- path is that of the pair, which has the place in the first half.
pub record OpensPlace {E : Type 0} (values : List E) (layers : List (List (List ℕ))) (place : ℕ) (opened : LayerOpening E) : Type 0 where
  pub lower : place < length values / 2 → OpensPair values layers (place + length values / 2) place opened
  pub upper : length values / 2 ≤ place → OpensPair values layers (place - length values / 2) (place - length values / 2) opened

module _ {F E : Type 0} (bytes_of : F → List ℕ) (coordinates : E → List F) (zero : E) (hash : TreeDigests) where
  -- The tree of a layer of 2 ^ log_size values has this root.
  abbrev pub IsLayerOf : ℕ → Root → Layer E → Type 0
  IsLayerOf log_size root layer = IsPairTree bytes_of coordinates zero hash log_size layer.values.items (digests_in layer.tree.items) root

  -- The trees of layers, each of half as many values as the one before, have the phases' roots.
  unfoldable pub AreLayersOf : ℕ → List (Phase F) → List (Layer E) → Type 0
  AreLayersOf log_size [] [] = ⊤
  AreLayersOf log_size [] (layer ∷ layers) = ⊥
  AreLayersOf log_size (phase ∷ phases) [] = ⊥
  AreLayersOf log_size (phase ∷ phases) (layer ∷ layers) = IsLayerOf log_size phase.root layer × AreLayersOf (log_size - 1) phases layers

-- Where a place of a word of `half` pairs leads: the pair's place.
abbrev pub pair_place : ℕ → ℕ → ℕ
pair_place half place = cond (ltb place half) place (place - half)

module _ {E : Type 0} where
  abbrev pub half_of : Layer E → ℕ
  half_of layer = length layer.values.items / 2

  -- Each layer has the place that the way from this one comes to.
  unfoldable pub HavePlaces : List (Layer E) → ℕ → Type 0
  HavePlaces [] place = ⊤
  HavePlaces (layer ∷ layers) place = (place < half_of layer * 2) × HavePlaces layers (pair_place (half_of layer) place)

  -- On the way through the layers these are opened.
  unfoldable pub OpenWay : List (Layer E) → ℕ → List (LayerOpening E) → Type 0
  OpenWay [] place [] = ⊤
  OpenWay [] place (opening ∷ opened) = ⊥
  OpenWay (layer ∷ layers) place [] = ⊥
  OpenWay (layer ∷ layers) place (opening ∷ opened) =
      OpensPlace layer.values.items (digests_in layer.tree.items) place opening × OpenWay layers (pair_place (half_of layer) place) opened

  abbrev pub OpensWay : List (Layer E) → ℕ → List (LayerOpening E) → Type 0
  OpensWay layers place opened = HavePlaces layers place → OpenWay layers place opened

-- ---- rows

-- Where each matrix has the row it is opened, with the path of its place.
pub record OpensRow {F : Type 0} (place : ℕ) (extended : List (RowMajorMatrix F)) (layers : List (List (List ℕ))) (opened : InputOpening F) : Type 0 where
  pub rows : HaveRow place extended → opened.rows ≡ map (row_of place) extended
  pub path : HaveRow place extended → IsPathOrNone layers place (digests_of opened.path)

-- The rows are opened of each round's data in memory.
abbrev pub OpensRows : {F T X : Type 0} → (T → List (RowMajorMatrix F)) → (T → List (List (List ℕ))) → ℕ → List (Bor T × X) → List (InputOpening F) → Type 0
OpensRows extended_of layers_of place rounds opened = PlaceByPlace (λ round input. OpensRow place (extended_of round.0.now) (layers_of round.0.now) input) rounds opened

-- At each place a row of each round, and what the way through the layers opens.
module _ {F E T X : Type 0} (extended_of : T → List (RowMajorMatrix F)) (layers_of : T → List (List (List ℕ))) (rounds : List (Bor T × X)) (layers : List (Layer E)) where
  abbrev pub OpensAt : ℕ → QueryProof F E → Type 0
  OpensAt place query = OpensRows extended_of layers_of place rounds query.inputs × OpensWay layers place query.layers

  abbrev pub OpensEach : List ℕ → List (QueryProof F E) → Type 0
  OpensEach places queries = PlaceByPlace OpensAt places queries
