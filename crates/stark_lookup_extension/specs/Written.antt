-- Trees that are written as nodes of a list, at whatever places they stand.
use Rattle.std.specs.Prelude.{◌≡◌, ℕ, Bool, true, false, List, [], ◌∷◌, map, slice_get, Option, Some, None, MatchOption}
use Rattle.std.specs.declared.vec.Vec.{Vec}
use Rattle.stark_support.specs.Faults.{PlaceByPlace}
use Rattle.stark_support.specs.Polynomial.{polynomial_opposite, polynomial_ring, polynomial_sum, scaled}
use Rattle.stark_support.specs.Ring.{RingOps, difference}
use Rattle.stark_air.specs.Layout.{Layout}
use Rattle.stark_air.specs.Tree.{Tree, constant}
use Rattle.stark_logup.specs.Coordinates.{combination, product_coordinates}
use Rattle.stark_logup.specs.Fractions.{Decides}
use Rattle.stark_lookup_air.specs.LookupConstraints.{light_opposite, light_product, light_sum, light_trees}
use Rattle.stark_tree_air.specs.Writing.{Holds}
use Rattle.stark_tree_air.specs.declared.list.TreeList.{TreeList}
use Rattle.stark_tree_air.specs.declared.node.TreeNode.{TreeNode}
use Rattle.stark_tree_air.specs.declared.node.TreeNode.TheVariants.{Constant}

-- a tree stands at a place
abbrev pub StandsAt : {F : Type 0} → List (Tree F) → ℕ → Tree F → Type 0
StandsAt ts p t = slice_get ts p ≡ Some t

-- each of these trees at its place
abbrev pub Stand : {F : Type 0} → List (Tree F) → List ℕ → List (Tree F) → Type 0
Stand ts ps us = PlaceByPlace (StandsAt ts) ps us

abbrev pub RowsStand : {F A : Type 0} → List (Tree F) → List (Vec ℕ A) → List (List (Tree F)) → Type 0
RowsStand ts rows uss = PlaceByPlace (λ row us. Stand ts row.items us) rows uss

abbrev pub TableStands : {F A B : Type 0} → List (Tree F) → List (Vec (Vec ℕ A) B) → List (List (List (Tree F))) → Type 0
TableStands ts table usss = PlaceByPlace (λ rows uss. RowsStand ts rows.items uss) table usss

-- both factors
abbrev pub FactorsStand : {F : Type 0} → List (Tree F) → List ℕ × List ℕ → List (Tree F) × List (Tree F) → Type 0
FactorsStand ts ps us = Stand ts ps.0 us.0 × Stand ts ps.1 us.1

-- by a table the product of two factors
abbrev pub product_of : {F : Type 0} → RingOps (Tree F) → List (List (List (Tree F))) → List (Tree F) × List (Tree F) → List (Tree F)
product_of expressions table us = product_coordinates expressions table us.0 us.1

-- What stood at a place still does.
abbrev pub KeepPlaces : {F : Type 0} → List (Tree F) → List (Tree F) → Type 0
KeepPlaces {F} ts us = (p : ℕ) (t : Tree F) → StandsAt ts p t → StandsAt us p t

-- The list spells these trees, and fits the layout.
abbrev pub Spelling : {F : Type 0} → Layout → TreeList F → List (Tree F) → Type 0
Spelling l list ts = Holds l list.constants.items list.nodes.items ts

-- The list has more trees, by which this holds, and its constraints are as before.
pub record Written {F : Type 0} (l : Layout) (ts : List (Tree F)) (old new : TreeList F) (Made : List (Tree F) → Type 0) : Type 0 where
  pub trees : List (Tree F)
  pub kept : KeepPlaces ts trees
  pub spelling : Spelling l new trees
  pub constraints : new.constraints.items ≡ old.constraints.items
  pub made : Made trees

-- Of what is given at these places something was made, which stands at those.
abbrev pub WritesOne : {F X P U W : Type 0} → (List (Tree F) → X → U → Type 0) → (List (Tree F) → P → W → Type 0) → (U → W) → TreeList F → X → P → TreeList F → Type 0
WritesOne {F} {U = U} R Q f old x p new = (l : Layout) (ts : List (Tree F)) (u : U) → Spelling l old ts → R ts x u → Written l ts old new (λ us. Q us p (f u))

-- the same of two that are given
abbrev pub WritesTwo : {F X Y P U V W : Type 0} → (List (Tree F) → X → U → Type 0) → (List (Tree F) → Y → V → Type 0) → (List (Tree F) → P → W → Type 0)
    → (U → V → W) → TreeList F → X → Y → P → TreeList F → Type 0
WritesTwo {F} {U = U} {V = V} R S Q f old x y p new =
    (l : Layout) (ts : List (Tree F)) (u : U) (v : V) → Spelling l old ts → R ts x u → S ts y v → Written l ts old new (λ us. Q us p (f u v))

-- What needs nothing was written.
abbrev pub WritesKnown : {F P W : Type 0} → (List (Tree F) → P → W → Type 0) → W → TreeList F → P → TreeList F → Type 0
WritesKnown {F} Q w old p new = (l : Layout) (ts : List (Tree F)) → Spelling l old ts → Written l ts old new (λ us. Q us p w)

-- A fact holds, or it doesn't.
abbrev pub Whether : Bool → Type 0 → Type 0
Whether true P = P
Whether false P = P → ⊥

-- the place of a node's constant
abbrev pub constant_index : TreeNode → Option ℕ
constant_index (Constant i) = Some i
constant_index _ = None

-- The answer is the constant that a node's tree is, wherever the node is, and none where it is no constant.
abbrev pub ShowsNode : {F : Type 0} → TreeList F → TreeNode → Option F → Type 0
ShowsNode {F} list n answer = (l : Layout) (ts : List (Tree F)) (p : ℕ) (t : Tree F) → Spelling l list ts → StandsAt ts p t → slice_get list.nodes.items p ≡ Some n → MatchOption answer ((k : F) → t ≡ constant k → ⊥) (λ k. t ≡ constant k)

-- The answer is the constant that the tree at a place is, and none where it is no constant.
abbrev pub ShowsConstant : {F : Type 0} → TreeList F → ℕ → Option F → Type 0
ShowsConstant {F} list p answer = (l : Layout) (ts : List (Tree F)) (t : Tree F) → Spelling l list ts → StandsAt ts p t → MatchOption answer ((k : F) → t ≡ constant k → ⊥) (λ k. t ≡ constant k)

-- It is whether it is this one.
abbrev pub DecidesConstant : {F : Type 0} → TreeList F → ℕ → F → Bool → Type 0
DecidesConstant {F} list p k answer = (l : Layout) (ts : List (Tree F)) (t : Tree F) → Spelling l list ts → StandsAt ts p t → Whether answer (t ≡ constant k)

-- By trees with zeros and ones folded, whatever the decision of equality.
abbrev pub ByTrees : {F : Type 0} → RingOps F → (RingOps (Tree F) → Type 0) → Type 0
ByTrees {F} ring P = (same : Decides F) → P (light_trees same ring)

module _ {F : Type 0} (ring : RingOps F) where
  abbrev pub WritesSum : TreeList F → ℕ → ℕ → ℕ → TreeList F → Type 0
  WritesSum old x y p new = (same : Decides F) → WritesTwo StandsAt StandsAt StandsAt (light_sum same ring) old x y p new

  abbrev pub WritesProduct : TreeList F → ℕ → ℕ → ℕ → TreeList F → Type 0
  WritesProduct old x y p new = (same : Decides F) → WritesTwo StandsAt StandsAt StandsAt (light_product same ring) old x y p new

  abbrev pub WritesOpposite : TreeList F → ℕ → ℕ → TreeList F → Type 0
  WritesOpposite old x p new = (same : Decides F) → WritesOne StandsAt StandsAt (light_opposite same ring) old x p new

  -- sums place by place
  abbrev pub WritesSums : TreeList F → List ℕ → List ℕ → List ℕ → TreeList F → Type 0
  WritesSums old xs ys ps new = ByTrees ring (λ trees. WritesTwo Stand Stand Stand (polynomial_sum trees) old xs ys ps new)

  abbrev pub WritesScaled : TreeList F → ℕ → List ℕ → List ℕ → TreeList F → Type 0
  WritesScaled old x ys ps new = ByTrees ring (λ trees. WritesTwo StandsAt Stand Stand (scaled trees) old x ys ps new)

  abbrev pub WritesOpposites : TreeList F → List ℕ → List ℕ → TreeList F → Type 0
  WritesOpposites old xs ps new = ByTrees ring (λ trees. WritesOne Stand Stand (polynomial_opposite trees) old xs ps new)

  abbrev pub WritesDifference : TreeList F → List ℕ → List ℕ → List ℕ → TreeList F → Type 0
  WritesDifference old xs ys ps new = ByTrees ring (λ trees. WritesTwo Stand Stand Stand (difference (polynomial_ring trees)) old xs ys ps new)

  -- the sum of lists, each times its node
  abbrev pub WritesCombination : {A : Type 0} → TreeList F → List ℕ → List (Vec ℕ A) → List ℕ → TreeList F → Type 0
  WritesCombination old xs rows ps new = ByTrees ring (λ trees. WritesTwo Stand RowsStand Stand (combination trees) old xs rows ps new)

  -- that of each row of a table
  abbrev pub WritesCombinations : {A B C : Type 0} → TreeList F → List ℕ → List (Vec (Vec ℕ A) B) → List (Vec ℕ C) → TreeList F → Type 0
  WritesCombinations old xs table all new = ByTrees ring (λ trees. WritesTwo Stand TableStands RowsStand (λ us. map (combination trees us)) old xs table all new)

  -- the product of two elements, by their coordinates
  abbrev pub WritesCoordinates : {A B : Type 0} → TreeList F → List (Vec (Vec ℕ A) B) → List ℕ → List ℕ → List ℕ → TreeList F → Type 0
  WritesCoordinates old table xs ys ps new = ByTrees ring (λ trees. WritesTwo TableStands FactorsStand Stand (product_of trees) old table (xs, ys) ps new)
