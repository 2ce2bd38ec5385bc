-- Values' ways through the folds as they stand in memory, whether or not their pairs lead to the layers' roots.
use Rattle.std.specs.Prelude.{◌≡◌, ℕ, ◌-◌, ◌%◌, ltb, cond, List, [], ◌∷◌, Option, map}
use Rattle.stark_support.specs.Coset.{TwoAdicCoset}
use Rattle.stark_support.specs.Faults.{FindsFirstFault}
use Rattle.stark_merkle.specs.Tree.{TreeDigests}
use Rattle.stark_folding.specs.Fold.{squared_coset}
use Rattle.stark_folding.specs.Walk.{half_size}
use Rattle.stark_fri_proof.specs.Paths.{digests_of}
use Rattle.stark_fri_proof.specs.declared.proof.LayerOpening.{LayerOpening}
use Rattle.stark_fri_proof.specs.declared.proof.Phase.{Phase}
use Rattle.stark_fri.specs.Parts.{FriFields}
use Rattle.stark_fri.specs.Query.{PairLeads, PairOpening, extension_coset, next_at, phase_root, walked_by}
use Rattle.stark_fri.specs.declared.folds.FoldWalk.{FoldWalk}
use Rattle.stark_fri.specs.declared.folds.Pair.{Pair}

-- The pair at a place: the value of the lower place comes first.
abbrev pub pair_on : {E : Type 0} → TwoAdicCoset E → ℕ → E → E → Pair E
pair_on c i v sibling = record { place = i % half_size c; low = cond (ltb i (half_size c)) v sibling; high = cond (ltb i (half_size c)) sibling v }

module _ {F E : Type 0} (fields : FriFields F E) where
  -- The pairs on the way of value v at place i, one a fold.
  unfoldable pub pairs_on : TwoAdicCoset E → ℕ → E → List E → List (LayerOpening E) → List (Pair E)
  pairs_on c i v [] layers = []
  pairs_on c i v (beta ∷ betas) [] = []
  pairs_on c i v (beta ∷ betas) (layer ∷ layers) =
      pair_on c i v layer.sibling ∷ pairs_on (squared_coset fields.ring c) (i % half_size c) (next_at fields c beta i v layer.sibling) betas layers

  -- A pair in memory, with its tree and its path.
  abbrev pub opening_of : ℕ → List ℕ → LayerOpening E → Pair E → PairOpening
  opening_of depth tree layer pair = record { tree = tree; depth = depth; place = pair.place; bytes = fields.pair_bytes pair.low pair.high; path = digests_of layer.path }

  -- The pairs of layers whose first has 2 ^ k values.
  unfoldable pub openings_of : ℕ → List (List ℕ) → List (LayerOpening E) → List (Pair E) → List PairOpening
  openings_of k [] layers pairs = []
  openings_of k (tree ∷ trees) [] pairs = []
  openings_of k (tree ∷ trees) (layer ∷ layers) [] = []
  openings_of k (tree ∷ trees) (layer ∷ layers) (pair ∷ pairs) = opening_of (k - 1) tree layer pair ∷ openings_of (k - 1) trees layers pairs

  -- The way of a value through the folds, from a place of 2 ^ bits extended rows.
  abbrev pub IsWalk : ℕ → ℕ → E → List E → List (LayerOpening E) → FoldWalk E → Type 0
  IsWalk bits place v betas layers walk =
      (walk.pairs.items ≡ pairs_on (extension_coset fields bits) place v betas layers) × (walk.reached ≡ walked_by fields (extension_coset fields bits) place v betas layers)

  -- The pair at a place, and what it folds to.
  abbrev pub FoldsTo : TwoAdicCoset E → E → ℕ → E → E → Pair E × E → Type 0
  FoldsTo c beta place v sibling folded = folded ≡ (pair_on c place v sibling, next_at fields c beta place v sibling)

  -- The first fold whose pair doesn't lead to its root; none where all do.
  abbrev pub FindsLayerFault : TreeDigests → ℕ → List (Phase F) → List (LayerOpening E) → List (Pair E) → Option ℕ → Type 0
  FindsLayerFault hash bits phases layers pairs fault = FindsFirstFault (PairLeads hash) (openings_of bits (map phase_root phases) layers pairs) fault
