-- Binary trees of digests, their paths, and collisions.
use Rattle.std.specs.Prelude.{◌≡◌, ◌≢◌, ◌⊎◌, ℕ, zero, suc, ◌+◌, ◌*◌, ◌-◌, ◌/◌, ◌%◌, ◌^◌, ◌<◌, eqb, cond, ⊤, List, [], ◌∷◌, length, map, slice_index_or, IsSome, None, Option, Some}
use Rattle.std.specs.List.{AllByRecursion, slice_get}
use Rattle.std.specs.declared.vec.Vec.{Vec}
use Rattle.hex.specs.Hex.{IsBytes}

abbrev pub items_of : {T A : Type 0} → Vec T A → List T
items_of v = v.items

-- The digests of layers in memory.
abbrev pub digests_in : {T A : Type 0} → List (Vec T A) → List (List T)
digests_in layers = map items_of layers

-- ---- digests

-- What a tree hashes with: the digest of a leaf's bytes, and that of two digests.
pub record TreeDigests : Type 0 where
  pub leaf : List ℕ → List ℕ
  pub node : List ℕ → List ℕ → List ℕ

-- Nodes first to first + 7 of the layer above, side by side.
abbrev pub AreNodesOf : TreeDigests → List (List ℕ) → ℕ → List (List ℕ) → Type 0
AreNodesOf hash layer first nodes = (i : ℕ) → i < 8
    → slice_index_or nodes i [] ≡ hash.node (slice_index_or layer (2 * (first + i)) []) (slice_index_or layer (2 * (first + i) + 1) [])

abbrev pub IsDigest : List ℕ → Type 0
IsDigest x = length x ≡ 32

-- Leaves and nodes have 32 bytes.
pub record AreDigests (hash : TreeDigests) : Type 0 where
  pub leaf_size : (row : List ℕ) → IsDigest (hash.leaf row)
  pub node_size : (left right : List ℕ) → IsDigest (hash.node left right)
  pub leaf_bytes : (row : List ℕ) → IsBytes (hash.leaf row)
  pub node_bytes : (left right : List ℕ) → IsBytes (hash.node left right)

-- Two different texts with one leaf.
pub record LeafCollision (hash : TreeDigests) : Type 0 where
  pub first : List ℕ
  pub second : List ℕ
  pub differ : first ≢ second
  pub collide : hash.leaf first ≡ hash.leaf second

-- Two different pairs of digests with one node.
pub record NodeCollision (hash : TreeDigests) : Type 0 where
  pub left : List ℕ
  pub right : List ℕ
  pub other_left : List ℕ
  pub other_right : List ℕ
  pub sized : AllByRecursion IsDigest (left ∷ right ∷ other_left ∷ other_right ∷ [])
  pub differ : left ≡ other_left → right ≡ other_right → ⊥
  pub collide : hash.node left right ≡ hash.node other_left other_right

abbrev pub HashCollision : TreeDigests → Type 0
HashCollision hash = LeafCollision hash ⊎ NodeCollision hash

-- ---- layers

-- Each two neighbours are joined; a last one without a neighbour is left out.
unfoldable pub paired : {H : Type 0} → (H → H → H) → List H → List H
paired node [] = []
paired node (x ∷ []) = []
paired node (x ∷ (y ∷ xs)) = node x y ∷ paired node xs

-- The layer that lies d layers above.
unfoldable pub layer_above : {H : Type 0} → (H → H → H) → ℕ → List H → List H
layer_above node zero xs = xs
layer_above node (suc d) xs = layer_above node d (paired node xs)

-- A layer and the d layers above it.
unfoldable pub layers_from : {H : Type 0} → (H → H → H) → ℕ → List H → List (List H)
layers_from node zero xs = xs ∷ []
layers_from node (suc d) xs = xs ∷ layers_from node d (paired node xs)

-- The one digest of a layer.
unfoldable pub sole : {H : Type 0} → List H → Option H
sole [] = None
sole (x ∷ []) = Some x
sole (x ∷ (y ∷ xs)) = None

-- The one digest of the last layer.
unfoldable pub top_of : {H : Type 0} → List (List H) → Option H
top_of [] = None
top_of (xs ∷ []) = sole xs
top_of (xs ∷ (ys ∷ layers)) = top_of (ys ∷ layers)

-- ---- paths

-- The place beside a place.
abbrev pub neighbour : ℕ → ℕ
neighbour i = cond (eqb (i % 2) 0) (i + 1) (i - 1)

-- The neighbours on the way up from place i.
unfoldable pub IsPath : {H : Type 0} → (H → H → H) → ℕ → List H → ℕ → List H → Type 0
IsPath node zero xs i [] = ⊤
IsPath node zero xs i (s ∷ path) = ⊥
IsPath node (suc d) xs i [] = ⊥
IsPath node (suc d) xs i (s ∷ path) = (slice_get xs (neighbour i) ≡ Some s) × IsPath node d (paired node xs) (i / 2) path

-- A path of that place in layers that are given.
unfoldable pub IsPathIn : {H : Type 0} → List (List H) → ℕ → List H → Type 0
IsPathIn [] i [] = ⊤
IsPathIn [] i (s ∷ path) = ⊥
IsPathIn (xs ∷ []) i [] = ⊤
IsPathIn (xs ∷ []) i (s ∷ path) = ⊥
IsPathIn (xs ∷ (ys ∷ layers)) i [] = ⊥
IsPathIn (xs ∷ (ys ∷ layers)) i (s ∷ path) = (slice_get xs (neighbour i) ≡ Some s) × IsPathIn (ys ∷ layers) (i / 2) path

-- Each layer has a digest at the place, and each below the last one beside it.
unfoldable pub HasPath : {H : Type 0} → List (List H) → ℕ → Type 0
HasPath [] i = ⊥
HasPath (xs ∷ []) i = i < length xs
HasPath (xs ∷ (ys ∷ layers)) i = (i < length xs) × (neighbour i < length xs) × HasPath (ys ∷ layers) (i / 2)

-- The node over place i and the one beside it: that of the even place comes first.
abbrev pub joined : {H : Type 0} → (H → H → H) → ℕ → H → H → H
joined node i x s = cond (eqb (i % 2) 0) (node x s) (node s x)

-- Where a path leads from x at place i.
unfoldable pub led : {H : Type 0} → (H → H → H) → ℕ → H → List H → H
led node i x [] = x
led node i x (s ∷ path) = led node (i / 2) (joined node i x s) path

-- The path of a row at place i, one of 2^depth, has one digest a layer and leads to the root.
abbrev pub LeadsTo : TreeDigests → List ℕ → ℕ → ℕ → List ℕ → List (List ℕ) → Type 0
LeadsTo hash root depth i row path = (length path ≡ depth) × (i < 2 ^ depth) × (led hash.node i (hash.leaf row) path ≡ root)

-- ---- laws

-- In the layers of a tree each leaf's path leads to the root.
abbrev pub TreesLeadToRoots : TreeDigests → ℕ → Type 0
TreesLeadToRoots hash depth = (leaves : List (List ℕ)) (root : List ℕ) (i : ℕ) (x : List ℕ) (path : List (List ℕ)) → layer_above hash.node depth leaves ≡ root ∷ []
    → slice_get leaves i ≡ Some x → IsPathIn (layers_from hash.node depth leaves) i path → led hash.node i x path ≡ root

-- The digest that the last of a tree's layers has is its root.
abbrev pub TopsAreRoots : TreeDigests → ℕ → Type 0
TopsAreRoots hash depth = (leaves : List (List ℕ)) (root : List ℕ) → top_of (layers_from hash.node depth leaves) ≡ Some root
    → layer_above hash.node depth leaves ≡ root ∷ []

-- Over 2^depth leaves the last layer has one digest.
abbrev pub FullTreesHaveRoots : TreeDigests → ℕ → Type 0
FullTreesHaveRoots hash depth = (leaves : List (List ℕ)) → length leaves ≡ 2 ^ depth → IsSome (top_of (layers_from hash.node depth leaves))

-- Over 2^depth leaves each place has a path.
abbrev pub FullTreesHavePaths : TreeDigests → ℕ → Type 0
FullTreesHavePaths hash depth = (leaves : List (List ℕ)) (i : ℕ) → length leaves ≡ 2 ^ depth → i < 2 ^ depth → HasPath (layers_from hash.node depth leaves) i

-- Of each row of a tree over 2^depth leaves, the path in its layers leads to the root on top of them.
abbrev pub OwnRowsLeadToRoots : TreeDigests → ℕ → Type 0
OwnRowsLeadToRoots hash depth = (leaves : List (List ℕ)) (root row : List ℕ) (i : ℕ) (path : List (List ℕ)) → length leaves ≡ 2 ^ depth
    → top_of (layers_from hash.node depth leaves) ≡ Some root → slice_get leaves i ≡ Some (hash.leaf row)
    → IsPathIn (layers_from hash.node depth leaves) i path → LeadsTo hash root depth i row path

-- Paths of one length that lead from different digests at one place to one root show a collision.
abbrev pub PathsBind : TreeDigests → ℕ → Type 0
PathsBind hash i = (x y : List ℕ) (p q : List (List ℕ)) → IsDigest x → IsDigest y → AllByRecursion IsDigest p → AllByRecursion IsDigest q
    → length p ≡ length q → x ≢ y → led hash.node i x p ≡ led hash.node i y q → HashCollision hash

-- Two different rows that lead to one root from one place show a collision.
abbrev pub RowsBind : TreeDigests → ℕ → ℕ → Type 0
RowsBind hash depth i = (root a b : List ℕ) (p q : List (List ℕ)) → AllByRecursion IsDigest p → AllByRecursion IsDigest q → a ≢ b
    → LeadsTo hash root depth i a p → LeadsTo hash root depth i b q → HashCollision hash
