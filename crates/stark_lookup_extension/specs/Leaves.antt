-- Leaves that are written one after the other.
use Rattle.std.specs.Prelude.{ℕ, ◌<◌, ◌+◌, ◌*◌, List, map}
use Rattle.std.specs.declared.vec.Vec.{Vec}
use Rattle.stark_support.specs.Ring.{RingOps}
use Rattle.stark_air.specs.Layout.{Layout, TreeWithin}
use Rattle.stark_air.specs.Tree.{Tree, constant, main_current, main_next, public_value}
use Rattle.stark_lookup_air.specs.LookupConstraints.{blocks_from}
use Rattle.stark_tree_air.specs.declared.list.TreeList.{TreeList}
use Rattle.stark_tree_air.specs.declared.node.TreeNode.{TreeNode}
use Rattle.stark_tree_air.specs.declared.node.TreeNode.TheVariants.{MainCurrent, MainNext, PublicValue}
use Rattle.stark_lookup_extension.specs.Written.{RowsStand, Spelling, Written}
use Rattle.stark_lookup_extension.specs.declared.leaves.Leaf.{Leaf}
use Rattle.stark_lookup_extension.specs.declared.leaves.Leaf.TheVariants.{Main, Next, Public}

abbrev pub leaf_node : Leaf → ℕ → TreeNode
leaf_node Main c = MainCurrent c
leaf_node Next c = MainNext c
leaf_node Public c = PublicValue c

abbrev pub leaf_tree : {F : Type 0} → Leaf → ℕ → Tree F
leaf_tree Main c = main_current c
leaf_tree Next c = main_next c
leaf_tree Public c = public_value c

-- The leaves are written, over a layout that has those up to the end.
abbrev pub WritesLeaves : {F P W : Type 0} → Leaf → ℕ → (List (Tree F) → P → W → Type 0) → W → TreeList F → P → TreeList F → Type 0
WritesLeaves {F} leaf end Q w old p new = (l : Layout) (ts : List (Tree F)) → Spelling l old ts
    → ((c : ℕ) → c < end → TreeWithin {F = F} l (leaf_tree leaf c)) → Written l ts old new (λ us. Q us p w)

-- a number of blocks, one after the other
abbrev pub WritesBlocks : {F A : Type 0} → Leaf → ℕ → ℕ → ℕ → TreeList F → List (Vec ℕ A) → TreeList F → Type 0
WritesBlocks leaf first size count old rows new = WritesLeaves leaf (first + count * size) RowsStand (blocks_from (leaf_tree leaf) first size count) old rows new

-- the products of an element with each of the basis, by their coordinates
abbrev pub product_row : {F E : Type 0} → RingOps E → List E → (E → List F) → E → List (List (Tree F))
product_row ring basis coordinates x = map (λ y. map constant (coordinates (ring.mul x y))) basis
