-- What the sum over chunks is made of: differences of nodes, where a chunk's node is what x ^ n is on its domain of n points.
use Rattle.std.specs.Prelude.{◌≡◌, ℕ, ◌+◌, ◌%◌, ◌<◌, List, [], ◌∷◌, ◌++◌, length, take, drop, slice_index_or}
use Rattle.stark_support.specs.Ring.{RingOps, difference}

-- The product of x - a over the elements a of a list.
abbrev pub difference_product : {K : Type 0} → RingOps K → K → List K → K
difference_product ring x [] = ring.one
difference_product ring x (a ∷ others) = ring.mul (difference ring x a) (difference_product ring x others)

-- The product of the differences of the node at a place from all others.
abbrev pub node_weight : {K : Type 0} → RingOps K → List K → ℕ → K
node_weight ring nodes i = difference_product ring (slice_index_or nodes i ring.zero) (take i nodes ++ drop (i + 1) nodes)

-- Each node is the one before it times the second over the first, and the first so comes after the last: a geometric progression that closes.
abbrev pub IsCycle : {K : Type 0} → RingOps K → List K → Type 0
IsCycle ring nodes = (i : ℕ) → i < length nodes
    → ring.mul (slice_index_or nodes ((i + 1) % length nodes) ring.zero) (slice_index_or nodes 0 ring.zero)
    ≡ ring.mul (slice_index_or nodes i ring.zero) (slice_index_or nodes (1 % length nodes) ring.zero)
