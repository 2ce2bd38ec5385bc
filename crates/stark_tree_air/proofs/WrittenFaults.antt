-- What was written within the columns has no fault, and spells the expressions.
use Rattle.std.proofs.Common.{◌≡◌, ◌∙◌, ℕ, suc, ◌+◌, ◌<◌, ◌≤◌, nat_lt, ◌&&◌, Bool, List, [], ◌∷◌, Option, Some, None, length, map, refl, sym, ap, subst, arith, true, false, if◌then◌else◌}
use Rattle.std.specs.Option.{option_or}
use Rattle.std.proofs.lemmas.Bool.{lt-ltb}
use Rattle.std.proofs.lemmas.List.{length-map}
use Rattle.stark_support.specs.Ring.{RingOps}
use Rattle.stark_symbolic.specs.ConstantFolding.{constants_folded, constant_in, both_constants, pair_or_constant, single_or_constant}
use Rattle.stark_air.specs.Declaration.{Trace, IsDeclared, trace_width}
use Rattle.stark_air.specs.Layout.{Layout, Covers, TreeWithin, LeavesWithin}
use Rattle.stark_air.specs.SymbolicLayout.{symbolic_layout}
use Rattle.stark_symbolic.specs.SymbolicTrees as trees
use Rattle.stark_air.specs.Tree.{Tree, Constraint, base, extension, constant, main_current, main_next, preprocessed_current, preprocessed_next, public_value, periodic_value, first_row, last_row, transition, sum, difference, product, negation}
use Rattle.stark_air.specs.declared.layout.AirLayout.{AirLayout}
use Rattle.stark_symbolic.specs.declared.builder.SymbolicConstraint.{SymbolicConstraint}
use Rattle.stark_tree_air.specs.Faults.{node_fault, operand_fault, first_node_fault, constraint_fault, first_constraint_fault, tree_air_fault, tree_layout, is_main_next, is_preprocessed_next, reads_main_next, reads_preprocessed_next}
use Rattle.stark_tree_air.specs.Named.{columns_layout, first_outside}
use Rattle.stark_tree_air.specs.Nodes.{marked_tree, spelled, NodeFits, NodesFit, ConstraintFits, ConstraintsFit}
use Rattle.stark_tree_air.specs.Traces.{declared_trace}
use Rattle.stark_tree_air.specs.Writing.{Spells, SpellsAll, expressed, folded, tree_within, constraint_within, all_within}
use Rattle.stark_tree_air.specs.declared.columns.TreeColumns.{TreeColumns}
use Rattle.stark_tree_air.specs.declared.expression.NamedConstraint.{NamedConstraint}
use Rattle.stark_tree_air.specs.declared.list.TreeList.{TreeList}
use Rattle.stark_tree_air.specs.declared.node.TreeConstraint.{TreeConstraint}
use Rattle.stark_tree_air.specs.declared.node.TreeConstraint.TheVariants.{Base, Extension}
use Rattle.stark_tree_air.specs.declared.node.TreeNode.{TreeNode}
use Rattle.stark_tree_air.specs.declared.node.TreeNode.TheVariants.{Constant, MainCurrent, MainNext, PreprocessedCurrent, PreprocessedNext, PublicValue, PeriodicValue, FirstRow, LastRow, Transition, Sum, Difference, Product, Negation}
use Rattle.stark_tree_air.proofs.WrittenTrees.{as_many_trees}

-- ---- no fault

tested : {A : Type 0} (i n : ℕ) (x : A) → i < n → (if nat_lt i n then None else Some x) ≡ None
tested i n x below = let e : nat_lt i n ≡ true = lt-ltb i n below in rw e refl

operands_tested : (k i j : ℕ) → i < k → j < k → option_or (operand_fault k i) (operand_fault k j) ≡ None
operands_tested k i j p q = ap (λ o. option_or o (operand_fault k j)) (tested i k _ p) ∙ tested j k _ q

node_none : (l : Layout) (m k : ℕ) (n : TreeNode) → NodeFits l m k n → node_fault l m k n ≡ None
node_none l m k (Constant i) f = tested i m _ f
node_none l m k (MainCurrent c) f = tested c l.main _ f
node_none l m k (MainNext c) f = tested c l.main_next _ f
node_none l m k (PreprocessedCurrent c) f = tested c l.preprocessed _ f
node_none l m k (PreprocessedNext c) f = tested c l.preprocessed_next _ f
node_none l m k (PublicValue i) f = tested i l.public_values _ f
node_none l m k (PeriodicValue c) f = tested c l.periodics _ f
node_none l m k FirstRow f = refl
node_none l m k LastRow f = refl
node_none l m k Transition f = refl
node_none l m k (Sum i j) f = operands_tested k i j f.0 f.1
node_none l m k (Difference i j) f = operands_tested k i j f.0 f.1
node_none l m k (Product i j) f = operands_tested k i j f.0 f.1
node_none l m k (Negation i) f = tested i k _ f

next_place : (k : ℕ) → suc k ≡ k + 1
next_place k = omega arith

nodes_none : (l : Layout) (m k : ℕ) (ns : List TreeNode) → NodesFit l m k ns → first_node_fault l m k ns ≡ None
nodes_none l m k [] f = refl
nodes_none l m k (n ∷ ns) f = ap (λ o. option_or o (first_node_fault l m (k + 1) ns)) (node_none l m k n f.0) ∙ nodes_none l m (k + 1) ns (subst (λ j. NodesFit l m j ns) (next_place k) f.1)

constraint_none : (count k : ℕ) (c : TreeConstraint) → ConstraintFits count c → constraint_fault count k c ≡ None
constraint_none count k (Base i) f = tested i count _ f
constraint_none count k (Extension i) f = tested i count _ f

constraints_none : (count k : ℕ) (cs : List TreeConstraint) → ConstraintsFit count cs → first_constraint_fault count k cs ≡ None
constraints_none count k [] f = refl
constraints_none count k (c ∷ cs) f = ap (λ o. option_or o (first_constraint_fault count (k + 1) cs)) (constraint_none count k c f.0) ∙ constraints_none count (k + 1) cs f.1

first_true : (b c : Bool) → b ≡ true → (if b then true else c) ≡ true
first_true true c e = refl
first_true false c e = absurd (cc)

later_true : (b c : Bool) → c ≡ true → (if b then true else c) ≡ true
later_true true c e = refl
later_true false c e = e

-- A next row is declared where a node reads one.
module _ {F : Type 0} (columns : TreeColumns F) (every : List TreeNode) where
  declared_node : (m k : ℕ) (n : TreeNode) → (is_main_next n ≡ true → reads_main_next every ≡ true) → (is_preprocessed_next n ≡ true → reads_preprocessed_next every ≡ true) → NodeFits (columns_layout columns) m k n → NodeFits (tree_layout columns every) m k n
  declared_node m k (Constant i) p q f = f
  declared_node m k (MainCurrent c) p q f = f
  declared_node m k (MainNext c) p q f = subst (λ b. c < (if b then columns.width else 0)) (sym (p refl)) f
  declared_node m k (PreprocessedCurrent c) p q f = f
  declared_node m k (PreprocessedNext c) p q f = subst (λ b. c < (if b then trace_width (declared_trace columns.preprocessed_trace) else 0)) (sym (q refl)) f
  declared_node m k (PublicValue i) p q f = f
  declared_node m k (PeriodicValue c) p q f = f
  declared_node m k FirstRow p q f = f
  declared_node m k LastRow p q f = f
  declared_node m k Transition p q f = f
  declared_node m k (Sum i j) p q f = f
  declared_node m k (Difference i j) p q f = f
  declared_node m k (Product i j) p q f = f
  declared_node m k (Negation i) p q f = f

  declared_nodes : (m k : ℕ) (ns : List TreeNode) → (reads_main_next ns ≡ true → reads_main_next every ≡ true) → (reads_preprocessed_next ns ≡ true → reads_preprocessed_next every ≡ true) → NodesFit (columns_layout columns) m k ns → NodesFit (tree_layout columns every) m k ns
  declared_nodes m k [] p q f = tt
  declared_nodes m k (n ∷ ns) p q f = (
    declared_node m k n (λ e. p (first_true (is_main_next n) (reads_main_next ns) e)) (λ e. q (first_true (is_preprocessed_next n) (reads_preprocessed_next ns) e)) f.0,
    declared_nodes m (suc k) ns (λ e. p (later_true (is_main_next n) (reads_main_next ns) e)) (λ e. q (later_true (is_preprocessed_next n) (reads_preprocessed_next ns) e)) f.1,
  )

pub no_fault : {F : Type 0} (columns : TreeColumns F) (list : TreeList F) (xs : List (SymbolicConstraint F)) → SpellsAll (columns_layout columns) list xs → tree_air_fault columns list.constants.items list.nodes.items list.constraints.items ≡ None
no_fault columns list xs h =
    let l = columns_layout columns in
    let ks = list.constants.items in
    let ns = list.nodes.items in
    let s = h.spells in
    ap (λ o. option_or o (first_constraint_fault (length ns) 0 list.constraints.items)) (nodes_none (tree_layout columns ns) (length ks) 0 ns (declared_nodes columns ns (length ks) 0 ns (λ e. e) (λ e. e) s.holds.fit)) ∙
    constraints_none (length ns) 0 list.constraints.items (subst (λ n. ConstraintsFit n list.constraints.items) (as_many_trees l ks ns s.trees s.holds) s.fit)

-- ---- what is spelled

spelled_is : {F : Type 0} (l : Layout) (list : TreeList F) (cs : List (Constraint F)) → Spells l list cs → spelled list.constants.items list.nodes.items list.constraints.items ≡ cs
spelled_is l list cs h = ap (λ ts. map (marked_tree ts) list.constraints.items) h.holds.trees ∙ h.spelled

pub spelled_all : {F : Type 0} (l : Layout) (list : TreeList F) (xs : List (SymbolicConstraint F)) → SpellsAll l list xs → map expressed (spelled list.constants.items list.nodes.items list.constraints.items) ≡ xs
spelled_all l list xs h = ap (map expressed) (spelled_is l list h.constraints h.spells) ∙ h.expressed

unless_outside : {A : Type 0} (b : Bool) (later : Option A) (x : A) (rest : Bool) → (if b then later else Some x) ≡ None → (later ≡ None → rest ≡ true) → b && rest ≡ true
unless_outside true later x rest e f = f e
unless_outside false later x rest e f = absurd (cc)

pub none_outside : {F : Type 0} (l : Layout) (cs : List (NamedConstraint F)) → first_outside l cs ≡ None → all_within l (map (λ c. c.constraint) cs) ≡ true
none_outside l [] e = refl
none_outside l (c ∷ cs) e = unless_outside (constraint_within l c.constraint) (first_outside l cs) c.name.now (all_within l (map (λ c. c.constraint) cs)) e (none_outside l cs)

-- ---- an AIR's own constraints

both_hold : (a b : Bool) → a ≡ true → b ≡ true → a && b ≡ true
both_hold a b p q = ap (λ c. c && b) p ∙ q

module _ {F : Type 0} (l : Layout) where
  pair_within : (node : Tree F → Tree F → Tree F) (operation : F → F → F) (known : Option (F × F)) (t u : Tree F) → tree_within l (node t u) ≡ true → tree_within l (pair_or_constant node operation known t u) ≡ true
  pair_within node operation (Some p) t u e = refl
  pair_within node operation None t u e = e

  single_within : (node : Tree F → Tree F) (operation : F → F) (known : Option F) (t : Tree F) → tree_within l (node t) ≡ true → tree_within l (single_or_constant node operation known t) ≡ true
  single_within node operation (Some k) t e = refl
  single_within node operation None t e = e

covered_below : (i want have : ℕ) → want ≤ have → i < want → nat_lt i have ≡ true
covered_below i want have le h = lt-ltb i have (omega arith)

folded_within : {F : Type 0} (ring : RingOps F) (have want : Layout) (t : Tree F) → Covers have want → TreeWithin want t → tree_within have (constants_folded ring t) ≡ true
folded_within ring have want (constant k) c h = refl
folded_within ring have want (main_current i) c h = covered_below i want.main have.main c.main h
folded_within ring have want (main_next i) c h = covered_below i want.main_next have.main_next c.main_next h
folded_within ring have want (preprocessed_current i) c h = covered_below i want.preprocessed have.preprocessed c.preprocessed h
folded_within ring have want (preprocessed_next i) c h = covered_below i want.preprocessed_next have.preprocessed_next c.preprocessed_next h
folded_within ring have want (public_value i) c h = covered_below i want.public_values have.public_values c.public_values h
folded_within ring have want (periodic_value i) c h = covered_below i want.periodics have.periodics c.periodics h
folded_within ring have want first_row c h = refl
folded_within ring have want last_row c h = refl
folded_within ring have want transition c h = refl
folded_within ring have want (sum t u) c h =
    let a = constants_folded ring t in let b = constants_folded ring u in
    pair_within have sum _ (both_constants (constant_in a) (constant_in b)) a b (both_hold (tree_within have a) (tree_within have b) (folded_within ring have want t c h.0) (folded_within ring have want u c h.1))
folded_within ring have want (difference t u) c h =
    let a = constants_folded ring t in let b = constants_folded ring u in
    pair_within have difference _ (both_constants (constant_in a) (constant_in b)) a b (both_hold (tree_within have a) (tree_within have b) (folded_within ring have want t c h.0) (folded_within ring have want u c h.1))
folded_within ring have want (product t u) c h =
    let a = constants_folded ring t in let b = constants_folded ring u in
    pair_within have product _ (both_constants (constant_in a) (constant_in b)) a b (both_hold (tree_within have a) (tree_within have b) (folded_within ring have want t c h.0) (folded_within ring have want u c h.1))
folded_within ring have want (negation t) c h = let a = constants_folded ring t in single_within have negation _ (constant_in a) a (folded_within ring have want t c h)

air_within : {F : Type 0} (ring : RingOps F) (have want : Layout) (cs : List (Constraint F)) → Covers have want → LeavesWithin want cs → all_within have (map (trees.marked_tree ring) cs) ≡ true
air_within ring have want [] c h = refl
air_within ring have want (base t ∷ cs) c h = both_hold (tree_within have (constants_folded ring t)) (all_within have (map (trees.marked_tree ring) cs)) (folded_within ring have want t c h.0) (air_within ring have want cs c h.1)
air_within ring have want (extension t ∷ cs) c h = both_hold (tree_within have (constants_folded ring t)) (all_within have (map (trees.marked_tree ring) cs)) (folded_within ring have want t c h.0) (air_within ring have want cs c h.1)

-- Columns that were copied have all that the AIR reads.
copied_cover : {F : Type 0} (columns : TreeColumns F) (l : AirLayout) (want : Layout) (trace : Option (Trace F)) (periodic : List (List F)) (mains others : List ℕ) → IsDeclared want trace periodic mains others → Covers (symbolic_layout l) want →
    l.main_width ≡ want.main → l.preprocessed_width ≡ want.preprocessed → columns.width ≡ want.main → columns.num_public_values ≡ want.public_values → map (λ column. column.items) columns.periodic_columns.items ≡ periodic → declared_trace columns.preprocessed_trace ≡ trace → Covers (columns_layout columns) want
copied_cover {F} columns l want trace periodic mains others declared covers main preprocessed width public_values periodics traces =
    let wide : want.preprocessed ≡ trace_width (declared_trace columns.preprocessed_trace) = declared.preprocessed_width ∙ sym (ap trace_width traces) in
    let many : want.periodics ≡ length columns.periodic_columns.items = declared.periodic_columns ∙ sym (ap length periodics) ∙ length-map columns.periodic_columns.items (λ column. column.items) in
    let main_next = covers.main_next in
    let preprocessed_next = covers.preprocessed_next in
    record {
      main = omega (arith, width);
      main_next = omega (arith, width, main, main_next);
      preprocessed = omega (arith, wide);
      preprocessed_next = omega (arith, wide, preprocessed, preprocessed_next);
      public_values = omega (arith, public_values);
      periodics = omega (arith, many);
    }

-- So they have what the AIR's constraints read, as these are spelled.
pub copied_within : {F : Type 0} (ring : RingOps F) (columns : TreeColumns F) (l : AirLayout) (want : Layout) (trace : Option (Trace F)) (periodic : List (List F)) (mains others : List ℕ) (cs : List (Constraint F)) (spelled_cs : List (SymbolicConstraint F)) →
    IsDeclared want trace periodic mains others → LeavesWithin want cs → Covers (symbolic_layout l) want → l.main_width ≡ want.main → l.preprocessed_width ≡ want.preprocessed → columns.width ≡ want.main → columns.num_public_values ≡ want.public_values →
    map (λ column. column.items) columns.periodic_columns.items ≡ periodic → declared_trace columns.preprocessed_trace ≡ trace → spelled_cs ≡ map (trees.marked_tree ring) cs → all_within (columns_layout columns) spelled_cs ≡ true
copied_within ring columns l want trace periodic mains others cs spelled_cs declared within covers main preprocessed width public_values periodics traces same =
    ap (all_within (columns_layout columns)) same ∙ air_within ring (columns_layout columns) want cs (copied_cover columns l want trace periodic mains others declared covers main preprocessed width public_values periodics traces) within

one_folded : {F : Type 0} (ring : RingOps F) (c d : Constraint F) → expressed c ≡ trees.marked_tree ring d → c ≡ folded ring d
one_folded ring (base t) (base u) e = let h : t ≡ constants_folded ring u = cc in ap base h
one_folded ring (base t) (extension u) e = absurd (cc)
one_folded ring (extension t) (base u) e = absurd (cc)
one_folded ring (extension t) (extension u) e = let h : t ≡ constants_folded ring u = cc in ap extension h

all_folded : {F : Type 0} (ring : RingOps F) (cs ds : List (Constraint F)) → map expressed cs ≡ map (trees.marked_tree ring) ds → cs ≡ map (folded ring) ds
all_folded ring [] [] e = refl
all_folded ring [] (d ∷ ds) e = absurd (cc)
all_folded ring (c ∷ cs) [] e = absurd (cc)
all_folded ring (c ∷ cs) (d ∷ ds) e =
    let first : expressed c ≡ trees.marked_tree ring d = cc in
    let rest : map expressed cs ≡ map (trees.marked_tree ring) ds = cc in
    ap (λ b. b ∷ cs) (one_folded ring c d first) ∙ ap (λ bs. folded ring d ∷ bs) (all_folded ring cs ds rest)

pub spelled_folded : {F : Type 0} (ring : RingOps F) (l : Layout) (list : TreeList F) (xs : List (SymbolicConstraint F)) (cs : List (Constraint F)) → SpellsAll l list xs → xs ≡ map (trees.marked_tree ring) cs → spelled list.constants.items list.nodes.items list.constraints.items ≡ map (folded ring) cs
spelled_folded ring l list xs cs h e = all_folded ring (spelled list.constants.items list.nodes.items list.constraints.items) cs (spelled_all l list xs h ∙ e)
