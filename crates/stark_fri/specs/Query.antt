-- The checks of one query: what it opens at a place leads to the roots, and by the folds to the final polynomial.
use Rattle.std.specs.Prelude.{◌≡◌, ℕ, ◌-◌, ◌%◌, ltb, cond, List, [], ◌∷◌, length, map}
use Rattle.std.specs.List.{AllByRecursion, flat_map, zip}
use Rattle.stark_support.specs.Coset.{TwoAdicCoset, coset_point}
use Rattle.stark_support.specs.Polynomial.{value}
use Rattle.stark_merkle.specs.Tree.{LeadsTo, TreeDigests}
use Rattle.stark_folding.specs.Fold.{squared_coset}
use Rattle.stark_folding.specs.Reduce.{Seen, reduced_at}
use Rattle.stark_folding.specs.Walk.{half_size, last_coset, last_place, next_value, walked}
use Rattle.stark_fri_proof.specs.Parts.{InputOpening, QueryProof}
use Rattle.stark_fri_proof.specs.Paths.{digests_of}
use Rattle.stark_fri_proof.specs.declared.proof.LayerOpening.{LayerOpening}
use Rattle.stark_fri_proof.specs.declared.proof.Phase.{Phase}
use Rattle.stark_fri.specs.Claims.{MatrixRead, RoundRead}
use Rattle.stark_support.specs.Faults.{IsFirstFault, PlaceByPlace}
use Rattle.stark_merkle.specs.Bytes.{row_bytes_of}
use Rattle.stark_merkle.specs.declared.root.Root.{Root}
use Rattle.stark_fri.specs.Parts.{FriFields}
use Rattle.stark_fri.specs.declared.error.QueryFault.{QueryFault}
use Rattle.stark_fri.specs.declared.error.QueryFault.TheVariants.{Shape, Input, Layer, Final}

-- What the queries of a proof are checked against: what is read of the claims, the logarithm of the number of extended rows,
-- what was drawn, the folds' roots and the final polynomial.
pub record Target (E : Type 0) : Type 0 where
  pub rounds : List (RoundRead E)
  pub bits : ℕ
  pub alpha : E
  pub betas : List E
  pub trees : List (List ℕ)
  pub final_polynomial : List E

abbrev pub phase_root : {F : Type 0} → Phase F → List ℕ
phase_root phase = phase.root.bytes

-- A drawn place, and what the proof opens there.
abbrev pub QueryAt : Type 0 → Type 0 → Type 0
QueryAt F E = ℕ × QueryProof F E

-- ---- shapes

-- A row has as many elements as there are values at each point.
abbrev pub RowFits : {F E : Type 0} → MatrixRead E → List F → Type 0
RowFits m row = AllByRecursion (λ p. length p.1 ≡ length row) m.1

abbrev pub InputFits : {F E : Type 0} → RoundRead E → InputOpening F → Type 0
InputFits round input = PlaceByPlace RowFits round.1 input.rows

abbrev pub QueryFits : {F E : Type 0} → List (RoundRead E) → ℕ → QueryProof F E → Type 0
QueryFits rounds folds query = PlaceByPlace InputFits rounds query.inputs × (length query.layers ≡ folds)

-- ---- trees

-- A pair on the way: its tree's root and depth, its place, its bytes and its path.
pub record PairOpening : Type 0 where
  pub tree : List ℕ
  pub depth : ℕ
  pub place : ℕ
  pub bytes : List ℕ
  pub path : List (List ℕ)

abbrev pub PairLeads : TreeDigests → PairOpening → Type 0
PairLeads hash pair = LeadsTo hash pair.tree pair.depth pair.place pair.bytes pair.path

-- Opened rows stand at a place of the tree of 2 ^ bits leaves that has the root.
abbrev pub OpenedRowsLead : {F : Type 0} → TreeDigests → (F → List ℕ) → Root → ℕ → ℕ → InputOpening F → Type 0
OpenedRowsLead hash bytes_of root bits place input = LeadsTo hash root.bytes bits place (row_bytes_of bytes_of input.rows) (digests_of input.path)

module _ {F E : Type 0} (fields : FriFields F E) where
  -- A round's rows lead to its root.
  abbrev pub InputLeads : TreeDigests → ℕ → ℕ → RoundRead E × InputOpening F → Type 0
  InputLeads hash bits place both = LeadsTo hash both.0.0.bytes bits place (fields.row_bytes both.1.rows) (digests_of both.1.path)

  -- ---- claims and opened rows

  -- An element of a row, and the value that is claimed of its column at a point.
  abbrev pub seen_at : E → F × E → Seen E
  seen_at z both = (fields.embed both.0, both.1, z)

  abbrev pub seen_at_point : List F → E × List E → List (Seen E)
  seen_at_point row p = map (seen_at p.0) (zip row p.1)

  abbrev pub seen_at_points : List F → List (E × List E) → List (Seen E)
  seen_at_points row points = flat_map (seen_at_point row) points

  abbrev pub seen_in_matrix : MatrixRead E × List F → List (Seen E)
  seen_in_matrix both = seen_at_points both.1 both.0.1

  abbrev pub rows_seen : List (MatrixRead E) → List (List F) → List (Seen E)
  rows_seen matrices rows = flat_map seen_in_matrix (zip matrices rows)

  abbrev pub seen_in_round : RoundRead E × InputOpening F → List (Seen E)
  seen_in_round both = rows_seen both.0.1 both.1.rows

  -- All claims with the values of the opened rows.
  abbrev pub seen_of : List (RoundRead E) → List (InputOpening F) → List (Seen E)
  seen_of rounds inputs = flat_map seen_in_round (zip rounds inputs)

  -- ---- the way through the folds

  -- The coset of 2 ^ bits extended rows, in the extension.
  abbrev pub extension_coset : ℕ → TwoAdicCoset E
  extension_coset bits = record { shift = fields.embed fields.generator; log_size = bits }

  abbrev pub extension_root : ℕ → E
  extension_root k = fields.embed (fields.root k)

  abbrev pub next_at : TwoAdicCoset E → E → ℕ → E → E → E
  next_at c beta i v sibling = next_value fields.ring fields.inverse extension_root c beta i v sibling

  -- The value of the lower place comes first.
  abbrev pub pair_bytes_at : TwoAdicCoset E → ℕ → E → E → List ℕ
  pair_bytes_at c i v sibling = cond (ltb i (half_size c)) (fields.pair_bytes v sibling) (fields.pair_bytes sibling v)

  -- The pair at a place.
  abbrev pub pair_at : TwoAdicCoset E → ℕ → E → List ℕ → LayerOpening E → PairOpening
  pair_at c i v tree layer = record { tree = tree; depth = c.log_size - 1; place = i % half_size c; bytes = pair_bytes_at c i v layer.sibling; path = digests_of layer.path }

  -- The pairs on the way of value v at place i, one a fold.
  unfoldable pub pairs_of : TwoAdicCoset E → ℕ → E → List (List ℕ) → List E → List (LayerOpening E) → List PairOpening
  pairs_of c i v [] betas layers = []
  pairs_of c i v (tree ∷ trees) [] layers = []
  pairs_of c i v (tree ∷ trees) (beta ∷ betas) [] = []
  pairs_of c i v (tree ∷ trees) (beta ∷ betas) (layer ∷ layers) =
      pair_at c i v tree layer
      ∷ pairs_of (squared_coset fields.ring c) (i % half_size c) (next_at c beta i v layer.sibling) trees betas layers

  -- Where the folds lead.
  abbrev pub walked_by : TwoAdicCoset E → ℕ → E → List E → List (LayerOpening E) → E
  walked_by c i v betas layers = walked fields.ring fields.inverse extension_root c i v (zip betas (map (λ layer. layer.sibling) layers))

  -- Point i of the last of so many folds' cosets, counted on the first.
  abbrev pub last_point : ℕ → TwoAdicCoset E → ℕ → E
  last_point folds c i = coset_point fields.ring extension_root (last_coset fields.ring folds c) (last_place fields.ring folds c i)

  -- The value at a place of the polynomial that the claims are batched into, by the opened rows.
  abbrev pub batched_at : E → ℕ → List (RoundRead E) → ℕ → List (InputOpening F) → E
  batched_at alpha bits rounds place inputs =
      reduced_at fields.ring fields.inverse alpha (coset_point fields.ring extension_root (extension_coset bits) place) (seen_of rounds inputs)

  -- ---- a query

  module _ (hash : TreeDigests) (target : Target E) where
    abbrev pub first_coset : TwoAdicCoset E
    first_coset = extension_coset target.bits

    abbrev pub Fits : QueryAt F E → Type 0
    Fits q = QueryFits target.rounds (length target.trees) q.1

    abbrev pub InputsLead : QueryAt F E → Type 0
    InputsLead q = AllByRecursion (InputLeads hash target.bits q.0) (zip target.rounds q.1.inputs)

    -- The batched value at the place, by the opened rows.
    abbrev pub batched_value : QueryAt F E → E
    batched_value q = batched_at target.alpha target.bits target.rounds q.0 q.1.inputs

    abbrev pub query_pairs : QueryAt F E → List PairOpening
    query_pairs q = pairs_of first_coset q.0 (batched_value q) target.trees target.betas q.1.layers

    abbrev pub LayersLead : QueryAt F E → Type 0
    LayersLead q = AllByRecursion (PairLeads hash) (query_pairs q)

    -- The folds lead to the final polynomial's value.
    abbrev pub FinalHolds : QueryAt F E → Type 0
    FinalHolds q = walked_by first_coset q.0 (batched_value q) target.betas q.1.layers
        ≡ value fields.ring target.final_polynomial (last_point (length target.trees) first_coset q.0)

    pub record QueryHolds (q : QueryAt F E) : Type 0 where
      pub fits : Fits q
      pub inputs : InputsLead q
      pub layers : LayersLead q
      pub final : FinalHolds q

    -- The first fault of a query.
    abbrev pub QueryFails : QueryFault → QueryAt F E → Type 0
    QueryFails Shape q = Fits q → ⊥
    QueryFails (Input round) q = Fits q × IsFirstFault (InputLeads hash target.bits q.0) (zip target.rounds q.1.inputs) round
    QueryFails (Layer layer) q = Fits q × InputsLead q × IsFirstFault (PairLeads hash) (query_pairs q) layer
    QueryFails Final q = Fits q × InputsLead q × LayersLead q × (FinalHolds q → ⊥)
