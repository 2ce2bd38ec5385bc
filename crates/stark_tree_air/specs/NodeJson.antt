-- Nodes and constraints in JSON.
use Rattle.std.specs.Prelude.{ℕ, List, [], ◌∷◌, if◌then◌else◌, Option, None, Some, is_some, option_map, codes}
use Rattle.std.specs.Str.{bytes_eq}
use Rattle.serde_json.specs.Data.{Data, number, string, array, object, unsigned, Items, no_items, item, member, no_members}
use Rattle.serde_json.specs.Find.{get, as_array, as_object, as_str}
use Rattle.stark_json.specs.Names.{first_unknown}
use Rattle.stark_support.specs.Json.{◌>>=◌, whole_at}
use Rattle.stark_tree_air.specs.declared.node.TreeNode.{TreeNode}
use Rattle.stark_tree_air.specs.declared.node.TreeNode.TheVariants.{Constant, MainCurrent, MainNext, PreprocessedCurrent, PreprocessedNext, PublicValue, PeriodicValue, FirstRow, LastRow, Transition, Sum, Difference, Product, Negation}
use Rattle.stark_tree_air.specs.declared.node.TreeConstraint.{TreeConstraint}
use Rattle.stark_tree_air.specs.declared.node.TreeConstraint.TheVariants.{Base, Extension}

-- the selector of a name
unfoldable pub selector_named : List ℕ → Option TreeNode
selector_named name =
    if bytes_eq name (codes "first") then Some FirstRow
    else if bytes_eq name (codes "last") then Some LastRow
    else if bytes_eq name (codes "transition") then Some Transition
    else None

-- the node of a name and one place
unfoldable pub single_named : List ℕ → ℕ → Option TreeNode
single_named name i =
    if bytes_eq name (codes "constant") then Some (Constant i)
    else if bytes_eq name (codes "main") then Some (MainCurrent i)
    else if bytes_eq name (codes "next") then Some (MainNext i)
    else if bytes_eq name (codes "preprocessed") then Some (PreprocessedCurrent i)
    else if bytes_eq name (codes "preprocessed_next") then Some (PreprocessedNext i)
    else if bytes_eq name (codes "public") then Some (PublicValue i)
    else if bytes_eq name (codes "periodic") then Some (PeriodicValue i)
    else if bytes_eq name (codes "neg") then Some (Negation i)
    else None

-- the node of a name and two places
unfoldable pub pair_named : List ℕ → ℕ → ℕ → Option TreeNode
pair_named name i j =
    if bytes_eq name (codes "add") then Some (Sum i j)
    else if bytes_eq name (codes "sub") then Some (Difference i j)
    else if bytes_eq name (codes "mul") then Some (Product i j)
    else None

abbrev pub node_at : Items → Option TreeNode
node_at no_items = None
node_at (item tag no_items) = as_str tag >>= selector_named
node_at (item tag (item a no_items)) = as_str tag >>= λ name. whole_at a >>= λ i. single_named name i
node_at (item tag (item a (item b no_items))) = as_str tag >>= λ name. whole_at a >>= λ i. whole_at b >>= λ j. pair_named name i j
node_at (item tag (item a (item b (item d ds)))) = None

-- an array of the name and the places
abbrev pub node_reading : Data → Option TreeNode
node_reading d = as_array d >>= node_at

abbrev pub selector_json : List ℕ → Data
selector_json name = array (item (string name) no_items)

abbrev pub single_json : List ℕ → ℕ → Data
single_json name i = array (item (string name) (item (number (unsigned i)) no_items))

abbrev pub pair_json : List ℕ → ℕ → ℕ → Data
pair_json name i j = array (item (string name) (item (number (unsigned i)) (item (number (unsigned j)) no_items)))

abbrev pub node_writing : TreeNode → Data
node_writing (Constant i) = single_json (codes "constant") i
node_writing (MainCurrent i) = single_json (codes "main") i
node_writing (MainNext i) = single_json (codes "next") i
node_writing (PreprocessedCurrent i) = single_json (codes "preprocessed") i
node_writing (PreprocessedNext i) = single_json (codes "preprocessed_next") i
node_writing (PublicValue i) = single_json (codes "public") i
node_writing (PeriodicValue i) = single_json (codes "periodic") i
node_writing FirstRow = selector_json (codes "first")
node_writing LastRow = selector_json (codes "last")
node_writing Transition = selector_json (codes "transition")
node_writing (Sum i j) = pair_json (codes "add") i j
node_writing (Difference i j) = pair_json (codes "sub") i j
node_writing (Product i j) = pair_json (codes "mul") i j
node_writing (Negation i) = single_json (codes "neg") i

-- how many operands the nodes of a name have
abbrev pub operands_of : List ℕ → Option ℕ
operands_of name =
    if is_some (selector_named name) then Some 0
    else if is_some (single_named name 0) then Some 1
    else if is_some (pair_named name 0 0) then Some 2
    else None

-- the names of a constraint's members
abbrev pub marks : List (List ℕ)
marks = codes "base" ∷ codes "ext" ∷ []

-- one of the two marks, and not both
abbrev pub constraint_of : Option Data → Option Data → Option TreeConstraint
constraint_of None None = None
constraint_of None (Some d) = option_map Extension (whole_at d)
constraint_of (Some d) None = option_map Base (whole_at d)
constraint_of (Some d) (Some e) = None

abbrev pub constraint_unless : Data → Option (List ℕ) → Option TreeConstraint
constraint_unless d None = constraint_of (get (codes "base") d) (get (codes "ext") d)
constraint_unless d (Some unknown) = None

-- an object of the mark and the place, and of nothing else
abbrev pub constraint_reading : Data → Option TreeConstraint
constraint_reading d = as_object d >>= λ ms. constraint_unless d (first_unknown marks ms)

abbrev pub marked_json : List ℕ → ℕ → Data
marked_json mark i = object (member mark (number (unsigned i)) no_members)

abbrev pub constraint_writing : TreeConstraint → Data
constraint_writing (Base i) = marked_json (codes "base") i
constraint_writing (Extension i) = marked_json (codes "ext") i
