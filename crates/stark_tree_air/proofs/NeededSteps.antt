-- Marks of nodes: each step keeps them, and in the end what is needed has them.
use Rattle.std.proofs.Common.{◌≡◌, ◌∙◌, ℕ, zero, suc, ◌+◌, ◌<◌, ◌≤◌, Bool, true, false, List, [], ◌∷◌, length, replicate, drop, get_or, set, if◌then◌else◌, refl, sym, ap, subst, arith}
use Rattle.std.proofs.lemmas.Bool.{false≢true}
use Rattle.std.proofs.lemmas.List.{length-set, length-replicate}
use Rattle.stark_support.proofs.Places.{from_place}
use Rattle.stark_air.specs.Layout.{Layout}
use Rattle.stark_tree_air.specs.Needed.{Marked, OperandsMarked, NodesMarked, constraint_place, ConstraintsMarked, OperandsBelow, NodesBelow, mark_both, mark_operands, mark_constraints, mark_nodes, needed}
use Rattle.stark_tree_air.specs.Nodes.{NodeFits, NodesFit, ConstraintFits, ConstraintsFit}
use Rattle.stark_tree_air.proofs.Steps.{at_place, next_place}
use Rattle.stark_tree_air.specs.declared.node.TreeNode.{TreeNode}
use Rattle.stark_tree_air.specs.declared.node.TreeNode.TheVariants.{Constant, Sum, Difference, Product, Negation}
use Rattle.stark_tree_air.specs.declared.node.TreeConstraint.{TreeConstraint}
use Rattle.stark_tree_air.specs.declared.node.TreeConstraint.TheVariants.{Base, Extension}

set_keeps : (ms : List Bool) (o i : ℕ) → Marked ms i → Marked (set ms o true) i
set_keeps [] o i h = h
set_keeps (m ∷ ms) zero zero h = refl
set_keeps (m ∷ ms) zero (suc i) h = h
set_keeps (m ∷ ms) (suc o) zero h = h
set_keeps (m ∷ ms) (suc o) (suc i) h = set_keeps ms o i h

set_makes : (ms : List Bool) (o : ℕ) → o < length ms → Marked (set ms o true) o
set_makes [] o below = absurd (omega arith)
set_makes (m ∷ ms) zero below = refl
set_makes (m ∷ ms) (suc o) below = set_makes ms o (omega arith)

-- No mark is new but that one.
set_adds : (ms : List Bool) (o i : ℕ) → o < i → Marked (set ms o true) i → Marked ms i
set_adds [] o i below h = h
set_adds (m ∷ ms) zero zero below h = absurd (omega arith)
set_adds (m ∷ ms) zero (suc i) below h = h
set_adds (m ∷ ms) (suc o) zero below h = h
set_adds (m ∷ ms) (suc o) (suc i) below h = set_adds ms o i (omega arith) h

both_keep : (ms : List Bool) (a b i : ℕ) → Marked ms i → Marked (mark_both ms a b) i
both_keep ms a b i h = set_keeps (set ms a true) b i (set_keeps ms a i h)

both_make : (ms : List Bool) (k a b : ℕ) → (a < k) × (b < k) → k ≤ length ms → Marked (mark_both ms a b) a × Marked (mark_both ms a b) b
both_make ms k a b f w =
    let long : length (set ms a true) ≡ length ms = length-set ms a true in
    let left : a < length ms = omega (arith, f.0) in
    let right : b < length (set ms a true) = omega (arith, f.1, long) in
    (set_keeps (set ms a true) b a (set_makes ms a left), set_makes (set ms a true) b right)

both_add : (ms : List Bool) (k a b i : ℕ) → (a < k) × (b < k) → k ≤ i → Marked (mark_both ms a b) i → Marked ms i
both_add ms k a b i f w h = set_adds ms a i (omega (arith, f.0)) (set_adds (set ms a true) b i (omega (arith, f.1)) h)

both_length : (ms : List Bool) (a b : ℕ) → length (mark_both ms a b) ≡ length ms
both_length ms a b = length-set (set ms a true) b true ∙ length-set ms a true

operands_keep : (ms : List Bool) (n : TreeNode) (i : ℕ) → Marked ms i → Marked (mark_operands ms n) i
operands_keep ms (Sum a b) i h = both_keep ms a b i h
operands_keep ms (Difference a b) i h = both_keep ms a b i h
operands_keep ms (Product a b) i h = both_keep ms a b i h
operands_keep ms (Negation a) i h = set_keeps ms a i h
operands_keep ms n i h = h

operands_make : (ms : List Bool) (k : ℕ) (n : TreeNode) → OperandsBelow k n → k ≤ length ms → OperandsMarked (mark_operands ms n) n
operands_make ms k (Sum a b) f w = both_make ms k a b f w
operands_make ms k (Difference a b) f w = both_make ms k a b f w
operands_make ms k (Product a b) f w = both_make ms k a b f w
operands_make ms k (Negation a) f w = set_makes ms a (omega (arith, f))
operands_make ms k n f w = tt

operands_add : (ms : List Bool) (k : ℕ) (n : TreeNode) (i : ℕ) → OperandsBelow k n → k ≤ i → Marked (mark_operands ms n) i → Marked ms i
operands_add ms k (Sum a b) i f w h = both_add ms k a b i f w h
operands_add ms k (Difference a b) i f w h = both_add ms k a b i f w h
operands_add ms k (Product a b) i f w h = both_add ms k a b i f w h
operands_add ms k (Negation a) i f w h = set_adds ms a i (omega (arith, f)) h
operands_add ms k n i f w h = h

operands_length : (ms : List Bool) (n : TreeNode) → length (mark_operands ms n) ≡ length ms
operands_length ms (Sum a b) = both_length ms a b
operands_length ms (Difference a b) = both_length ms a b
operands_length ms (Product a b) = both_length ms a b
operands_length ms (Negation a) = length-set ms a true
operands_length ms n = refl

-- The marks of a node's operands, if it has one.
abbrev one_back : Bool → List Bool → TreeNode → List Bool
one_back b ms n = (if b then mark_operands ms n else ms)

one_keep : (b : Bool) (ms : List Bool) (n : TreeNode) (i : ℕ) → Marked ms i → Marked (one_back b ms n) i
one_keep true ms n i h = operands_keep ms n i h
one_keep false ms n i h = h

one_length : (b : Bool) (ms : List Bool) (n : TreeNode) → length (one_back b ms n) ≡ length ms
one_length true ms n = operands_length ms n
one_length false ms n = refl

nodes_keep : (ms : List Bool) (k : ℕ) (ns : List TreeNode) (i : ℕ) → Marked ms i → Marked (mark_nodes ms k ns) i
nodes_keep ms k [] i h = h
nodes_keep ms k (n ∷ ns) i h = one_keep (get_or (mark_nodes ms (k + 1) ns) k false) (mark_nodes ms (k + 1) ns) n i (nodes_keep ms (k + 1) ns i h)

pub nodes_length : (ms : List Bool) (k : ℕ) (ns : List TreeNode) → length (mark_nodes ms k ns) ≡ length ms
nodes_length ms k [] = refl
nodes_length ms k (n ∷ ns) = one_length (get_or (mark_nodes ms (k + 1) ns) k false) (mark_nodes ms (k + 1) ns) n ∙ nodes_length ms (k + 1) ns

operands_carried : (ms more : List Bool) (n : TreeNode) → ((i : ℕ) → Marked ms i → Marked more i) → OperandsMarked ms n → OperandsMarked more n
operands_carried ms more (Sum a b) keep h = (keep a h.0, keep b h.1)
operands_carried ms more (Difference a b) keep h = (keep a h.0, keep b h.1)
operands_carried ms more (Product a b) keep h = (keep a h.0, keep b h.1)
operands_carried ms more (Negation a) keep h = keep a h
operands_carried ms more n keep h = tt

-- More marks, of which none is new from the place k on.
carried : (ms more : List Bool) (k : ℕ) (ns : List TreeNode) → ((i : ℕ) → Marked ms i → Marked more i) → ((i : ℕ) → k ≤ i → Marked more i → Marked ms i) → NodesMarked ms k ns → NodesMarked more k ns
carried ms more k [] keep add h = tt
carried ms more k (n ∷ ns) keep add h =
    (λ m. operands_carried ms more n keep (h.0 (add k (omega arith) m)), carried ms more (k + 1) ns keep (λ i above. add i (omega arith)) h.1)

one_closed : (b : Bool) (ms : List Bool) (k : ℕ) (n : TreeNode) (ns : List TreeNode) → get_or ms k false ≡ b → OperandsBelow k n → k ≤ length ms → NodesMarked ms (k + 1) ns → NodesMarked (one_back b ms n) k (n ∷ ns)
one_closed true ms k n ns is f w h =
    (λ m. operands_make ms k n f w, carried ms (mark_operands ms n) (k + 1) ns (operands_keep ms n) (λ i above. operands_add ms k n i f (omega arith)) h)
one_closed false ms k n ns is f w h = (λ m. absurd (false≢true (sym is ∙ m)), h)

nodes_closed : (ms : List Bool) (k : ℕ) (ns : List TreeNode) → NodesBelow k ns → k + length ns ≤ length ms → NodesMarked (mark_nodes ms k ns) k ns
nodes_closed ms k [] f w = tt
nodes_closed ms k (n ∷ ns) f w =
    let later = mark_nodes ms (k + 1) ns in
    let long : length later ≡ length ms = nodes_length ms (k + 1) ns in
    one_closed (get_or later k false) later k n ns refl f.0 (omega arith) (nodes_closed ms (k + 1) ns f.1 (omega arith))

pub place_fits : (count : ℕ) (c : TreeConstraint) → ConstraintFits count c → constraint_place c < count
place_fits count (Base i) f = f
place_fits count (Extension i) f = f

constraints_keep : (ms : List Bool) (cs : List TreeConstraint) (i : ℕ) → Marked ms i → Marked (mark_constraints ms cs) i
constraints_keep ms [] i h = h
constraints_keep ms (c ∷ cs) i h = constraints_keep (set ms (constraint_place c) true) cs i (set_keeps ms (constraint_place c) i h)

pub constraints_length : (ms : List Bool) (cs : List TreeConstraint) → length (mark_constraints ms cs) ≡ length ms
constraints_length ms [] = refl
constraints_length ms (c ∷ cs) = constraints_length (set ms (constraint_place c) true) cs ∙ length-set ms (constraint_place c) true

constraints_make : (ms more : List Bool) (cs : List TreeConstraint) → ConstraintsFit (length ms) cs → ((i : ℕ) → Marked (mark_constraints ms cs) i → Marked more i) → ConstraintsMarked more cs
constraints_make ms more [] f keep = tt
constraints_make ms more (c ∷ cs) f keep =
    let p = constraint_place c in
    let one = set ms p true in
    (keep p (constraints_keep one cs p (set_makes ms p (place_fits (length ms) c f.0))), constraints_make one more cs (subst (λ n. ConstraintsFit n cs) (sym (length-set ms p true)) f.1) keep)

-- None of so many is marked.
abbrev unmarked : List TreeNode → List Bool
unmarked ns = replicate (length ns) false

begun_length : (ns : List TreeNode) (cs : List TreeConstraint) → length (mark_constraints (unmarked ns) cs) ≡ length ns
begun_length ns cs = constraints_length (unmarked ns) cs ∙ length-replicate (length ns) false

pub needed_length : (ns : List TreeNode) (cs : List TreeConstraint) → length (needed ns cs) ≡ length ns
needed_length ns cs = nodes_length (mark_constraints (unmarked ns) cs) 0 ns ∙ begun_length ns cs

pub needed_closed : (ns : List TreeNode) (cs : List TreeConstraint) → NodesBelow 0 ns → NodesMarked (needed ns cs) 0 ns
needed_closed ns cs f = let long = begun_length ns cs in nodes_closed (mark_constraints (unmarked ns) cs) 0 ns f (omega (arith, long))

pub needed_asserted : (ns : List TreeNode) (cs : List TreeConstraint) → ConstraintsFit (length ns) cs → ConstraintsMarked (needed ns cs) cs
needed_asserted ns cs f =
    constraints_make (unmarked ns) (needed ns cs) cs (subst (λ n. ConstraintsFit n cs) (sym (length-replicate (length ns) false)) f) (nodes_keep (mark_constraints (unmarked ns) cs) 0 ns)

operands_below : (l : Layout) (m k : ℕ) (n : TreeNode) → NodeFits l m k n → OperandsBelow k n
operands_below l m k (Sum i j) f = f
operands_below l m k (Difference i j) f = f
operands_below l m k (Product i j) f = f
operands_below l m k (Negation i) f = f
operands_below l m k n f = tt

pub nodes_below : (l : Layout) (m k : ℕ) (ns : List TreeNode) → NodesFit l m k ns → NodesBelow k ns
nodes_below l m k [] f = tt
nodes_below l m k (n ∷ ns) f = (operands_below l m k n f.0, subst (λ j. NodesBelow j ns) (next_place k) (nodes_below l m (suc k) ns f.1))

below_more : (j k : ℕ) (n : TreeNode) → j ≤ k → OperandsBelow j n → OperandsBelow k n
below_more j k (Sum a b) w f = (omega (arith, f.0), omega (arith, f.1))
below_more j k (Difference a b) w f = (omega (arith, f.0), omega (arith, f.1))
below_more j k (Product a b) w f = (omega (arith, f.0), omega (arith, f.1))
below_more j k (Negation a) w f = omega (arith, f)
below_more j k n w f = tt

pub below_at : (k : ℕ) (ns : List TreeNode) (i : ℕ) (d : TreeNode) (m : ℕ) → NodesBelow k ns → i < length ns → k + i ≤ m → OperandsBelow m (get_or ns i d)
below_at k [] i d m f w top = absurd (omega arith)
below_at k (n ∷ ns) zero d m f w top = below_more k m n (omega arith) f.0
below_at k (n ∷ ns) (suc i) d m f w top = below_at (k + 1) ns i d m f.1 (omega arith) (omega arith)

passed_by : (later : List Bool) (i : ℕ) (n : TreeNode) → get_or later i false ≡ false → later ≡ one_back (get_or later i false) later n
passed_by later i n e = rw e refl

-- One place further back, at a node without a mark.
pub passed : (ms marks : List Bool) (ns : List TreeNode) (j i : ℕ) → j ≡ i + 1 → i < length ns → marks ≡ mark_nodes ms j (drop j ns) → get_or marks i false ≡ false → marks ≡ mark_nodes ms i (drop i ns)
passed ms marks ns j i next within is none =
    let n = get_or ns i (Constant 0) in
    let here : drop i ns ≡ n ∷ drop (i + 1) ns = from_place ns i (i + 1) n refl within (at_place ns i (Constant 0) n within) in
    let later : marks ≡ mark_nodes ms (i + 1) (drop (i + 1) ns) = subst (λ p. marks ≡ mark_nodes ms p (drop p ns)) next is in
    let same : mark_nodes ms i (n ∷ drop (i + 1) ns) ≡ marks = sym (subst (λ ks. marks ≡ one_back (get_or ks i false) ks n) later (passed_by marks i n none)) in
    sym (ap (mark_nodes ms i) here ∙ same)

-- Lists that are equal to such that fit do so.
pub both_fit : (l : Layout) (m : ℕ) (ns ms : List TreeNode) (cs ds : List TreeConstraint) → ns ≡ ms → cs ≡ ds → NodesFit l m 0 ms × ConstraintsFit (length ms) ds → NodesBelow 0 ns × ConstraintsFit (length ns) cs
both_fit l m ns ms cs ds e f h =
    (subst (λ js. NodesBelow 0 js) (sym e) (nodes_below l m 0 ms h.0), subst (λ js. ConstraintsFit (length js) cs) (sym e) (subst (λ js. ConstraintsFit (length ms) js) (sym f) h.1))
