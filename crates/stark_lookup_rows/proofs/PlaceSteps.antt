-- The AIR whose constraints are the places that interactions name.
use Rattle.std.proofs.Common.{◌≡◌, ◌∙◌, ℕ, ◌+◌, ◌<◌, ◌≤◌, List, [], ◌∷◌, ◌++◌, None, Some, append_assoc, ap, length, map, refl, slice_get, sym, take, if◌then◌else◌}
use Rattle.std.specs.List.{AllByRecursion, flat_map}
use Rattle.std.specs.Option.{option_or}
use Rattle.std.specs.declared.vec.Vec.{Vec}
use Rattle.std.proofs.lemmas.Bool.{lt-ltb}
use Rattle.std.proofs.lemmas.Grind.{flat_map-append}
use Rattle.std.proofs.lemmas.List.{append-nil, length-map, map-append, take_all}
use Rattle.std.proofs.Math.Seq.{take-add}
use Rattle.stark_support.specs.OptionFacts.{both_none}
use Rattle.stark_air.specs.Declaration.{trace_width}
use Rattle.stark_air.specs.Layout.{Layout}
use Rattle.stark_tree_air.specs.Faults.{constraint_fault, first_constraint_fault, first_node_fault, reads_main_next, reads_preprocessed_next, tree_air_fault, tree_layout}
use Rattle.stark_tree_air.specs.Traces.{declared_trace}
use Rattle.stark_tree_air.specs.declared.air.TreeAir.{TreeAir}
use Rattle.stark_tree_air.specs.declared.columns.TreeColumns.{TreeColumns}
use Rattle.stark_tree_air.specs.declared.error.TreeAirError.TheVariants.{NoSuchNode}
use Rattle.stark_tree_air.specs.declared.node.TreeConstraint.{TreeConstraint}
use Rattle.stark_tree_air.specs.declared.node.TreeConstraint.TheVariants.{Base}
use Rattle.stark_tree_air.specs.declared.node.TreeNode.{TreeNode}
use Rattle.stark_lookup_extension.proofs.FaultSteps.{lookups_name}
use Rattle.stark_lookup_extension.proofs.Loops.{from_there}
use Rattle.stark_lookup_extension.specs.WrittenGroups.{NamesNodes}
use Rattle.stark_lookup_extension.specs.declared.lookup.Lookup.{Lookup}
use Rattle.stark_lookup_extension.specs.declared.lookup.LookupInteraction.{LookupInteraction}
use Rattle.stark_lookup_extension.specs.declared.lookup.LookupList.{LookupList}
use Rattle.stark_lookup_rows.specs.Places.{HaveColumnsOf, fault_over, group_places, groups_places, interaction_places, lookups_places}

-- ---- loops

one_more_taken : {X : Type 0} (xs : List X) (i : ℕ) (x : X) → slice_get xs i ≡ Some x → take (i + 1) xs ≡ take i xs ++ x ∷ []
one_more_taken xs i x at = take-add i 1 xs ∙ ap (λ ys. take i xs ++ take 1 ys) (from_there xs i x at)

module _ {X : Type 0} (places : X → List ℕ) (before : List TreeConstraint) (xs : List X) where
  pub places_grow : (i : ℕ) (x : X) (all more : List TreeConstraint) → slice_get xs i ≡ Some x → all ≡ before ++ map Base (flat_map places (take i xs)) → more ≡ all ++ map Base (places x)
      → more ≡ before ++ map Base (flat_map places (take (i + 1) xs))
  places_grow i x all more at so_far is =
      let listed : flat_map places (take (i + 1) xs) ≡ flat_map places (take i xs) ++ places x
      = ap (flat_map places) (one_more_taken xs i x at) ∙ flat_map-append places (take i xs) (x ∷ []) ∙ ap (λ ys. flat_map places (take i xs) ++ ys) (append-nil (places x)) in
      is ∙ ap (λ ys. ys ++ map Base (places x)) so_far ∙ append_assoc before (map Base (flat_map places (take i xs))) (map Base (places x))
      ∙ ap (λ ys. before ++ ys) (sym (map-append Base (flat_map places (take i xs)) (places x)) ∙ ap (map Base) (sym listed))

  pub all_placed : (i : ℕ) (all : List TreeConstraint) → length xs ≤ i → all ≡ before ++ map Base (flat_map places (take i xs)) → all ≡ before ++ map Base (flat_map places xs)
  all_placed i all past so_far = so_far ∙ ap (λ ys. before ++ map Base (flat_map places ys)) (take_all i xs past)

-- The places of a tuple, and after them that of its multiplicity.
pub times_placed : (before all more : List TreeConstraint) (tuple : List ℕ) (i times : ℕ) → length tuple ≤ i → all ≡ before ++ map Base (take i tuple) → more ≡ all ++ Base times ∷ []
    → more ≡ before ++ map Base (tuple ++ times ∷ [])
times_placed before all more tuple i times past so_far is =
    is ∙ ap (λ ys. ys ++ Base times ∷ []) (so_far ∙ ap (λ ys. before ++ map Base ys) (take_all i tuple past)) ∙ append_assoc before (map Base tuple) (Base times ∷ []) ∙ ap (λ ys. before ++ ys) (sym (map-append Base tuple (times ∷ [])))

-- ---- no fault

no_fault : (count k : ℕ) (ps : List ℕ) → AllByRecursion (λ p. p < count) ps → first_constraint_fault count k (map Base ps) ≡ None
no_fault count k [] all = refl
no_fault count k (p ∷ ps) all =
    let here : constraint_fault count k (Base p) ≡ None = ap (λ b. if b then None else Some (NoSuchNode k)) (lt-ltb p count all.0) in
    ap (λ o. option_or o (first_constraint_fault count (k + 1) (map Base ps))) here ∙ no_fault count (k + 1) ps all.1

module _ (P : ℕ → Type 0) where
  both_all : (ps qs : List ℕ) → AllByRecursion P ps → AllByRecursion P qs → AllByRecursion P (ps ++ qs)
  both_all [] qs all others = others
  both_all (p ∷ ps) qs all others = (all.0, both_all ps qs all.1 others)

  all_listed : {X : Type 0} (R : X → Type 0) (places : X → List ℕ) → ((x : X) → R x → AllByRecursion P (places x)) → (xs : List X) → AllByRecursion R xs → AllByRecursion P (flat_map places xs)
  all_listed R places each [] all = tt
  all_listed R places each (x ∷ xs) all = both_all (places x) (flat_map places xs) (each x all.0) (all_listed R places each xs all.1)

module _ (nodes : ℕ) where
  abbrev IsNode : ℕ → Type 0
  IsNode p = p < nodes

  interaction_there : (e : LookupInteraction) → NamesNodes nodes e → AllByRecursion IsNode (interaction_places e)
  interaction_there e names = both_all IsNode e.tuple.items (e.times ∷ []) names.tuple (names.times, tt)

  group_there : (es : List LookupInteraction) → AllByRecursion (NamesNodes nodes) es → AllByRecursion IsNode (group_places es)
  group_there es all = all_listed IsNode (NamesNodes nodes) interaction_places interaction_there es all

  groups_there : {A : Type 0} (gs : List (Vec LookupInteraction A)) → AllByRecursion (λ g. AllByRecursion (NamesNodes nodes) g.items) gs → AllByRecursion IsNode (groups_places gs)
  groups_there gs all = all_listed IsNode (λ g. AllByRecursion (NamesNodes nodes) g.items) (λ g. group_places g.items) (λ g named. group_there g.items named) gs all

  lookups_there : (xs : List Lookup) → AllByRecursion (λ x. AllByRecursion (λ g. AllByRecursion (NamesNodes nodes) g.items) x.groups.items) xs → AllByRecursion IsNode (lookups_places xs)
  lookups_there xs all = all_listed IsNode (λ x. AllByRecursion (λ g. AllByRecursion (NamesNodes nodes) g.items) x.groups.items) (λ x. groups_places x.groups.items) (λ x named. groups_there x.groups.items named) xs all

abbrev layout_with : List TreeNode → ℕ → ℕ → ℕ → ℕ → Layout
layout_with ns width preprocessed public_values periodics = record {
  main = width;
  main_next = (if reads_main_next ns then width else 0);
  preprocessed = preprocessed;
  preprocessed_next = (if reads_preprocessed_next ns then preprocessed else 0);
  public_values = public_values;
  periodics = periodics;
}

module _ {F : Type 0} where
  -- The layout is the same.
  pub same_layout : (own columns : TreeColumns F) (ns ms : List TreeNode) → HaveColumnsOf own columns → ms ≡ ns → tree_layout columns ms ≡ tree_layout own ns
  same_layout own columns ns ms have same =
      let periodics : length columns.periodic_columns.items ≡ length own.periodic_columns.items
      = sym (length-map columns.periodic_columns.items (λ c. c.items)) ∙ ap length have.periodic ∙ length-map own.periodic_columns.items (λ c. c.items) in
      ap (tree_layout columns) same ∙ ap (λ n. layout_with ns n (trace_width (declared_trace columns.preprocessed_trace)) columns.num_public_values (length columns.periodic_columns.items)) have.width
      ∙ ap (λ t. layout_with ns own.width (trace_width t) columns.num_public_values (length columns.periodic_columns.items)) have.preprocessed
      ∙ ap (λ n. layout_with ns own.width (trace_width (declared_trace own.preprocessed_trace)) n (length columns.periodic_columns.items)) have.values
      ∙ ap (λ n. layout_with ns own.width (trace_width (declared_trace own.preprocessed_trace)) own.num_public_values n) periodics

  pub places_without_fault : (own : TreeAir F) (given : LookupList) (columns : TreeColumns F) (ks : List F) (ns : List TreeNode) (cs : List TreeConstraint) → HaveColumnsOf own.declaration.columns columns → ks ≡ own.list.constants.items → ns ≡ own.list.nodes.items
      → cs ≡ map Base (lookups_places given.lookups.items) → fault_over own given ≡ None → tree_air_fault columns ks ns cs ≡ None
  places_without_fault own given columns ks ns cs have same_constants same_nodes listed clear =
      let nodes = own.list.nodes.items in
      let own_nodes = (both_none (first_node_fault (tree_layout own.declaration.columns nodes) (length own.list.constants.items) 0 nodes) (first_constraint_fault (length nodes) 0 own.list.constraints.items) own.without_fault).0 in
      let fit : first_node_fault (tree_layout columns ns) (length ks) 0 ns ≡ None
      = ap (λ l. first_node_fault l (length ks) 0 ns) (same_layout own.declaration.columns columns nodes ns have same_nodes) ∙ ap (λ m. first_node_fault (tree_layout own.declaration.columns nodes) m 0 ns) (ap length same_constants)
      ∙ ap (first_node_fault (tree_layout own.declaration.columns nodes) (length own.list.constants.items) 0) same_nodes ∙ own_nodes in
      let there : first_constraint_fault (length ns) 0 cs ≡ None
      = ap (λ n. first_constraint_fault n 0 cs) (ap length same_nodes) ∙ ap (first_constraint_fault (length nodes) 0) listed
      ∙ no_fault (length nodes) 0 (lookups_places given.lookups.items) (lookups_there (length nodes) given.lookups.items (lookups_name (record { nodes = length nodes; width = given.width }) 0 given.lookups.items clear)) in
      ap (λ o. option_or o (first_constraint_fault (length ns) 0 cs)) fit ∙ there
