-- An AIR with its lookups, call by call.
use Rattle.std.proofs.Common.{◌≡◌, ◌∙◌, ℕ, zero, suc, ◌+◌, ◌-◌, ◌*◌, ◌^◌, ◌<◌, ◌≤◌, Bool, true, false, List, [], ◌∷◌, ◌++◌, None, Global, length, map, max, refl, sym, ap, subst, arith, append_assoc, if◌then◌else◌}
use Rattle.std.proofs.Math.Nat.{mul-le-mul_right, suc-mul}
use Rattle.std.proofs.lemmas.List.{length-map, map-append}
use Rattle.std.proofs.lemmas.Option.{slice_get-get_or, slice_get_within}
use Rattle.std.specs.declared.vec.Vec.{Vec}
use Rattle.stark_support.specs.Faults.{PlaceByPlace}
use Rattle.stark_support.specs.Ring.{RingOps}
use Rattle.stark_air.specs.Declaration.{trace_width}
use Rattle.stark_air.specs.Layout.{Covers, Layout, TreeWithin}
use Rattle.stark_air.specs.Tree.{Constraint, Tree, base, extension, constant, first_row, main_current, main_next, public_value}
use Rattle.stark_logup.specs.Coordinates.{own_table}
use Rattle.stark_logup.specs.Fractions.{Decides}
use Rattle.stark_logup.specs.RowConstraints.{AuxiliaryExpressions, CoordinatesOf}
use Rattle.stark_lookup_air.specs.LookupConstraints.{Lookups, auxiliary, blocks_from, drawn, from_place, light_trees, lookup_constraints, sum_column}
use Rattle.stark_tree_air.specs.FaultFacts.{all_fit, covered_nodes}
use Rattle.stark_tree_air.specs.Faults.{reads_main_next, reads_preprocessed_next, tree_air_fault, tree_layout}
use Rattle.stark_tree_air.specs.Named.{columns_layout}
use Rattle.stark_tree_air.specs.Nodes.{ConstraintsFit, NodesFit, marked_tree, nodes_trees, spelled, tree_at}
use Rattle.stark_tree_air.specs.Traces.{declared_trace}
use Rattle.stark_tree_air.specs.Writing.{Holds, Spells, SpellsAll, expressed, spelled_in}
use Rattle.stark_tree_air.specs.declared.air.TreeAir.{TreeAir}
use Rattle.stark_tree_air.specs.declared.columns.TreeColumns.{TreeColumns}
use Rattle.stark_tree_air.specs.declared.list.TreeList.{TreeList}
use Rattle.stark_tree_air.specs.declared.node.TreeConstraint.{TreeConstraint}
use Rattle.stark_tree_air.specs.declared.node.TreeConstraint.TheVariants.{Base, Extension}
use Rattle.stark_tree_air.proofs.WrittenFaults.{no_fault}
use Rattle.stark_tree_air.proofs.WrittenTrees.{as_many_trees}
use Rattle.stark_lookup_extension.specs.ExtendedAir.{WritesAuxiliary, WritesDraws, WritesEquations, own_drawn, own_equations}
use Rattle.stark_lookup_extension.specs.ExtendedSizes.{columns_with, key_width, values_with}
use Rattle.stark_lookup_extension.specs.ExtensionFaults.{lookups_fault}
use Rattle.stark_lookup_extension.specs.Interactions.{is_numbered, lookups_over}
use Rattle.stark_lookup_extension.specs.Leaves.{WritesBlocks, WritesLeaves, leaf_tree, product_row}
use Rattle.stark_lookup_extension.specs.Written.{KeepPlaces, RowsStand, Spelling, Stand, StandsAt, TableStands, Written, WritesKnown}
use Rattle.stark_lookup_extension.specs.WrittenGroups.{WritesLookups}
use Rattle.stark_lookup_extension.specs.declared.lookup.LookupList.{LookupList}
use Rattle.stark_lookup_extension.specs.WrittenEquations.{AuxiliaryStands, DrawsStand, GroupStands, GroupsStand, WritesRow}
use Rattle.stark_lookup_extension.specs.declared.equations.WrittenAuxiliary.{WrittenAuxiliary}
use Rattle.stark_lookup_extension.specs.declared.equations.WrittenDraws.{WrittenDraws}
use Rattle.stark_lookup_extension.specs.declared.equations.WrittenEntry.{WrittenEntry}
use Rattle.stark_lookup_extension.specs.declared.sizes.OwnCounts.{OwnCounts}
use Rattle.stark_lookup_extension.specs.declared.leaves.Leaf.TheVariants.{Main, Next, Public}
use Rattle.stark_lookup_extension.proofs.EquationSteps.{draws_kept, groups_kept}
use Rattle.stark_lookup_extension.proofs.FaultSteps.{lookups_name}
use Rattle.stark_lookup_extension.proofs.GroupSteps.{AllName}
use Rattle.stark_lookup_extension.proofs.Loops.{as_many}
use Rattle.stark_lookup_extension.proofs.Steps.{after_it, rows_kept, so_made, stand_kept, tree_there}

place_first : {A B : Type 0} (R : A → B → Type 0) (x : A) (xs : List A) (y : B) (ys : List B) → R x y → PlaceByPlace R xs ys → PlaceByPlace R (x ∷ xs) (y ∷ ys)
unfolding PlaceByPlace
place_first R x xs y ys h r = (h, r)

-- ---- draws

-- one block more than there are powers after the first
pub drawn_room : (first dimension width : ℕ) → (first + dimension) + (width - 1) * dimension ≡ values_with dimension first width
drawn_room first dimension width =
    let some : max width 1 ≡ suc (width - 1) = omega arith in
    let more : max width 1 * dimension ≡ (width - 1) * dimension + dimension = ap (λ n. n * dimension) some ∙ suc-mul (width - 1) dimension in
    omega (arith, more)

pub gamma_room : (first dimension width : ℕ) → first + dimension ≤ values_with dimension first width
gamma_room first dimension width = let same = drawn_room first dimension width in omega (arith, same)

module _ {F E : Type 0} (dimension : ℕ) (ring : RingOps E) (basis : List E) (coordinates : E → List F) (first width : ℕ) where
  public_there : (l : Layout) (end : ℕ) → values_with dimension first width ≤ l.public_values → end ≤ values_with dimension first width → (c : ℕ) → c < end → TreeWithin {F = F} l (public_value c)
  public_there l end room below c h = omega (arith, room, below, h)

  module _ (a b c d e f : TreeList F) (again : Vec ℕ Global) (others : List (Vec ℕ Global)) (draws : WrittenDraws) where
    -- in the order of the calls: one twice, beta's powers, gamma, the table
    pub draws_steps : WritesKnown Stand (map constant (coordinates ring.one)) a draws.one.items b → WritesKnown Stand (map constant (coordinates ring.one)) b again.items c
        → WritesBlocks Public (first + dimension) dimension (width - 1) c others d → draws.powers.items ≡ again ∷ others
        → WritesLeaves Public (first + dimension) Stand (from_place (leaf_tree Public) first dimension) d draws.gamma.items e
        → WritesKnown TableStands (map (map (map constant)) (own_table ring basis coordinates)) e draws.table.items f → WritesDraws dimension ring basis coordinates first width a draws f
    draws_steps one_call again_call blocks joined gamma_call table_call l ts x at wide h room =
        let one = map constant (coordinates ring.one) in
        let w1 = one_call l ts h in
        let w2 = again_call l w1.trees w1.spelling in
        let w3 = blocks l w2.trees w2.spelling (public_there l ((first + dimension) + (width - 1) * dimension) room (let same = drawn_room first dimension width in omega (arith, same))) in
        let w4 = gamma_call l w3.trees w3.spelling (public_there l (first + dimension) room (gamma_room first dimension width)) in
        let w5 = table_call l w4.trees w4.spelling in
        let k5 : KeepPlaces w4.trees w5.trees = w5.kept in
        let k4 : KeepPlaces w3.trees w5.trees = λ p t z. k5 p t (w4.kept p t z) in
        let k3 : KeepPlaces w2.trees w5.trees = λ p t z. k4 p t (w3.kept p t z) in
        let k2 : KeepPlaces w1.trees w5.trees = λ p t z. k3 p t (w2.kept p t z) in
        let others_there = rows_kept w3.trees w5.trees k4 others (blocks_from (leaf_tree Public) (first + dimension) dimension (width - 1)) w3.made in
        let later = blocks_from (leaf_tree Public) (first + dimension) dimension (width - 1) in
        let powers_there = subst (λ rows. RowsStand w5.trees rows (one ∷ later)) (sym joined)
        (place_first (λ row us. Stand w5.trees row.items us) again others one later (stand_kept w2.trees w5.trees k3 again.items one w2.made) others_there) in
        let gamma_there = stand_kept w4.trees w5.trees k5 draws.gamma.items (from_place (leaf_tree Public) first dimension) w4.made in
        after_it a b f w1 (after_it b c f w2 (after_it c d f w3 (after_it d e f w4 (so_made e f w5 (record {
          gamma = subst (λ n. Stand w5.trees draws.gamma.items (from_place public_value n dimension)) (sym at) gamma_there;
          one = stand_kept w1.trees w5.trees k2 draws.one.items one w1.made;
          powers =
              subst (λ n. RowsStand w5.trees draws.powers.items (one ∷ blocks_from public_value (n + dimension) dimension (x.width - 1))) (sym at)
              (subst (λ n. RowsStand w5.trees draws.powers.items (one ∷ blocks_from public_value (first + dimension) dimension (n - 1))) (sym wide) powers_there);
          table = w5.made;
        })))))

-- ---- auxiliary columns

pub sum_room : (first dimension groups : ℕ) → (first + groups * dimension) + dimension ≡ columns_with dimension first groups
sum_room first dimension groups = omega arith

module _ {F : Type 0} (dimension first groups : ℕ) (a b c d : TreeList F) (written : WrittenAuxiliary) where
  pub auxiliary_steps : WritesBlocks Main first dimension groups a written.helpers.items b
      → WritesLeaves Main ((first + groups * dimension) + dimension) Stand (from_place (leaf_tree Main) (first + groups * dimension) dimension) b written.sum.items c
      → WritesLeaves Next ((first + groups * dimension) + dimension) Stand (from_place (leaf_tree Next) (first + groups * dimension) dimension) c written.next.items d → WritesAuxiliary dimension first groups a written d
  auxiliary_steps helpers_call sum_call next_call l ts one table x at many h room next_room =
      let same = sum_room first dimension groups in
      let start = first + groups * dimension in
      let w1 = helpers_call l ts h (λ c below. omega (arith, same, room, below)) in
      let w2 = sum_call l w1.trees w1.spelling (λ c below. omega (arith, same, room, below)) in
      let w3 = next_call l w2.trees w2.spelling (λ c below. omega (arith, same, next_room, below)) in
      let k2 : KeepPlaces w1.trees w3.trees = λ p t z. w3.kept p t (w2.kept p t z) in
      let column : start ≡ sum_column dimension one table x = ap (λ n. n + groups * dimension) (sym at) ∙ ap (λ n. x.main + n * dimension) (sym many) in
      after_it a b d w1 (after_it b c d w2 (so_made c d w3 (record {
        helpers =
            subst (λ n. RowsStand w3.trees written.helpers.items (blocks_from main_current n dimension (length x.groups))) (sym at)
            (subst (λ n. RowsStand w3.trees written.helpers.items (blocks_from main_current first dimension n)) (sym many) (rows_kept w1.trees w3.trees k2 written.helpers.items (blocks_from (leaf_tree Main) first dimension groups) w1.made));
        sum = subst (λ n. Stand w3.trees written.sum.items (from_place main_current n dimension)) column (stand_kept w2.trees w3.trees w3.kept written.sum.items (from_place (leaf_tree Main) start dimension) w2.made);
        next = subst (λ n. Stand w3.trees written.next.items (from_place main_next n dimension)) column w3.made;
      })))

-- ---- the equations

module _ {F E : Type 0} (dimension : ℕ) (ring : RingOps E) (basis : List E) (coordinates : E → List F) (base : RingOps F) {A : Type 0} (a b c d : TreeList F) (own : OwnCounts) (groups : List (Vec WrittenEntry A)) (draws : WrittenDraws) (written : WrittenAuxiliary) (ps : List ℕ) where
  pub equations_steps : WritesDraws dimension ring basis coordinates own.public_values own.key_width a draws b → WritesAuxiliary dimension own.main (length groups) b written c → WritesRow base c draws groups written ps d
      → WritesEquations dimension ring basis coordinates base own a groups ps d
  equations_steps draws_call auxiliary_call row_call same l ts x main values width h stood columns next_columns room =
      let one = coordinates ring.one in
      let table = own_table ring basis coordinates in
      let w1 = draws_call l ts x values width h room in
      let groups1 = groups_kept ts w1.trees w1.kept groups x.groups stood in
      let many : length x.groups ≡ length groups = sym (as_many (λ group es. GroupStands ts group.items es) groups x.groups stood) in
      let w2 = auxiliary_call l w1.trees one table x main many w1.spelling columns next_columns in
      let k = own_drawn dimension ring basis coordinates x in
      let w3 = row_call same l w2.trees k (x.groups, auxiliary dimension one table x) w2.spelling (draws_kept w1.trees w2.trees w2.kept draws k w1.made) (groups_kept w1.trees w2.trees w2.kept groups x.groups groups1, w2.made) in
      after_it a b d w1 (after_it b c d w2 (so_made c d w3 w3.made))

-- ---- constraints

same_there : {F : Type 0} (ts us : List (Tree F)) (p : ℕ) → KeepPlaces ts us → p < length ts → tree_at us p ≡ tree_at ts p
same_there ts us p kept below = tree_there us p (tree_at ts p) (kept p (tree_at ts p) (slice_get-get_or ts p first_row below))

same_constraints : {F : Type 0} (ts us : List (Tree F)) (cs : List TreeConstraint) → KeepPlaces ts us → ConstraintsFit (length ts) cs → map (marked_tree us) cs ≡ map (marked_tree ts) cs
same_constraints ts us [] kept fit = refl
same_constraints ts us (Base p ∷ cs) kept fit = ap (λ t. base t ∷ map (marked_tree us) cs) (same_there ts us p kept fit.0) ∙ ap (λ ds. base (tree_at ts p) ∷ ds) (same_constraints ts us cs kept fit.1)
same_constraints ts us (Extension p ∷ cs) kept fit = ap (λ t. extension t ∷ map (marked_tree us) cs) (same_there ts us p kept fit.0) ∙ ap (λ ds. extension (tree_at ts p) ∷ ds) (same_constraints ts us cs kept fit.1)

new_constraints : {F : Type 0} (us : List (Tree F)) (ps : List ℕ) (vs : List (Tree F)) → Stand us ps vs → map (marked_tree us) (map Base ps) ≡ map base vs
unfolding PlaceByPlace
new_constraints us [] [] h = refl
new_constraints us [] (v ∷ vs) h = absurd h
new_constraints us (p ∷ ps) [] h = absurd h
new_constraints us (p ∷ ps) (v ∷ vs) h = ap (λ t. base t ∷ map (marked_tree us) (map Base ps)) (tree_there us p v h.0) ∙ ap (λ ds. base v ∷ ds) (new_constraints us ps vs h.1)

fit_kept : {F : Type 0} (ts us : List (Tree F)) (cs : List TreeConstraint) → KeepPlaces ts us → ConstraintsFit (length ts) cs → ConstraintsFit (length us) cs
fit_kept ts us [] kept fit = tt
fit_kept ts us (Base p ∷ cs) kept fit = (slice_get_within us p (tree_at ts p) (kept p (tree_at ts p) (slice_get-get_or ts p first_row fit.0)), fit_kept ts us cs kept fit.1)
fit_kept ts us (Extension p ∷ cs) kept fit = (slice_get_within us p (tree_at ts p) (kept p (tree_at ts p) (slice_get-get_or ts p first_row fit.0)), fit_kept ts us cs kept fit.1)

new_fit : {F : Type 0} (us : List (Tree F)) (ps : List ℕ) (vs : List (Tree F)) → Stand us ps vs → ConstraintsFit (length us) (map Base ps)
unfolding PlaceByPlace
new_fit us [] [] h = tt
new_fit us [] (v ∷ vs) h = absurd h
new_fit us (p ∷ ps) [] h = absurd h
new_fit us (p ∷ ps) (v ∷ vs) h = (slice_get_within us p v h.0, new_fit us ps vs h.1)

fit_both : (n : ℕ) (cs ds : List TreeConstraint) → ConstraintsFit n cs → ConstraintsFit n ds → ConstraintsFit n (cs ++ ds)
fit_both n [] ds f g = g
fit_both n (Base p ∷ cs) ds f g = (f.0, fit_both n cs ds f.1 g)
fit_both n (Extension p ∷ cs) ds f g = (f.0, fit_both n cs ds f.1 g)

-- ---- the whole

-- A list with more nodes, of which some were made constraints.
module _ {F : Type 0} (l : Layout) (own old written new : TreeList F) (ts : List (Tree F)) (ps : List ℕ) (vs : List (Tree F)) (fit : ConstraintsFit (length ts) own.constraints.items) (w : Written l ts old written (λ us. Stand us ps vs))
    (same : old.constraints.items ≡ own.constraints.items) (constants : new.constants.items ≡ written.constants.items) (nodes : new.nodes.items ≡ written.nodes.items) (constraints : new.constraints.items ≡ written.constraints.items ++ map Base ps) where
  marked : map (marked_tree w.trees) new.constraints.items ≡ map (marked_tree ts) own.constraints.items ++ map base vs
  marked =
      ap (map (marked_tree w.trees)) (constraints ∙ ap (λ cs. cs ++ map Base ps) (w.constraints ∙ same)) ∙ map-append (marked_tree w.trees) own.constraints.items (map Base ps)
      ∙ ap (λ cs. cs ++ map (marked_tree w.trees) (map Base ps)) (same_constraints ts w.trees own.constraints.items w.kept fit) ∙ ap (λ cs. map (marked_tree ts) own.constraints.items ++ cs) (new_constraints w.trees ps vs w.made)

  spelling : Spelling l new w.trees
  spelling = subst (λ ks. Holds l ks new.nodes.items w.trees) (sym constants) (subst (λ ns. Holds l written.constants.items ns w.trees) (sym nodes) w.spelling)

  spells : Spells l new (map (marked_tree ts) own.constraints.items ++ map base vs)
  spells = record {
    trees = w.trees;
    holds = spelling;
    spelled = marked;
    fit =
        subst (λ cs. ConstraintsFit (length w.trees) cs) (sym (constraints ∙ ap (λ cs. cs ++ map Base ps) (w.constraints ∙ same)))
        (fit_both (length w.trees) own.constraints.items (map Base ps) (fit_kept ts w.trees own.constraints.items w.kept fit) (new_fit w.trees ps vs w.made));
  }

  pub spelled_with : spelled new.constants.items new.nodes.items new.constraints.items ≡ map (marked_tree ts) own.constraints.items ++ map base vs
  spelled_with = ap (λ us. map (marked_tree us) new.constraints.items) spelling.trees ∙ marked

  pub without_fault : (columns : TreeColumns F) → l ≡ columns_layout columns → tree_air_fault columns new.constants.items new.nodes.items new.constraints.items ≡ None
  without_fault columns is =
      let cs = map (marked_tree ts) own.constraints.items ++ map base vs in
      no_fault columns new (map expressed cs) (record { constraints = cs; expressed = refl; spells = subst (λ m. Spells m new cs) is spells })

-- The AIR's own nodes fit the wider layout.
pub own_fits : {F : Type 0} (columns wider : TreeColumns F) (list copy : TreeList F) → tree_air_fault columns list.constants.items list.nodes.items list.constraints.items ≡ None
    → copy.constants.items ≡ list.constants.items → copy.nodes.items ≡ list.nodes.items → columns.width ≤ wider.width → columns.num_public_values ≤ wider.num_public_values
    → trace_width (declared_trace columns.preprocessed_trace) ≡ trace_width (declared_trace wider.preprocessed_trace) → length columns.periodic_columns.items ≡ length wider.periodic_columns.items
    → Spelling (columns_layout wider) copy (nodes_trees list.constants.items list.nodes.items)
own_fits columns wider list copy none constants nodes width values trace periodic =
    let ks = list.constants.items in
    let ns = list.nodes.items in
    let fit = (all_fit columns ks ns list.constraints.items none).0 in
    let next : (if reads_main_next ns then columns.width else 0) ≤ wider.width = no_more (reads_main_next ns) columns.width wider.width width in
    let before : (if reads_preprocessed_next ns then trace_width (declared_trace columns.preprocessed_trace) else 0) ≤ trace_width (declared_trace wider.preprocessed_trace) =
    no_more (reads_preprocessed_next ns) (trace_width (declared_trace columns.preprocessed_trace)) (trace_width (declared_trace wider.preprocessed_trace)) (omega (arith, trace)) in
    let covers : Covers (columns_layout wider) (tree_layout columns ns) = record {
      main = width;
      main_next = next;
      preprocessed = omega (arith, trace);
      preprocessed_next = before;
      public_values = values;
      periodics = omega (arith, periodic);
    } in
    subst (λ js. Holds (columns_layout wider) js copy.nodes.items (nodes_trees ks ns)) (sym constants)
    (subst (λ ms. Holds (columns_layout wider) ks ms (nodes_trees ks ns)) (sym nodes) (record { trees = refl; fit = covered_nodes (columns_layout wider) (tree_layout columns ns) (length ks) 0 ns covers fit }))
  where
    no_more : (b : Bool) (m n : ℕ) → m ≤ n → (if b then m else 0) ≤ n
    no_more true m n le = le
    no_more false m n le = omega arith

pub constraints_there : {F : Type 0} (columns : TreeColumns F) (list : TreeList F) → tree_air_fault columns list.constants.items list.nodes.items list.constraints.items ≡ None
    → ConstraintsFit (length (nodes_trees list.constants.items list.nodes.items)) list.constraints.items
constraints_there columns list none =
    let ks = list.constants.items in
    let ns = list.nodes.items in
    let both = all_fit columns ks ns list.constraints.items none in
    let many = as_many_trees (tree_layout columns ns) ks ns (nodes_trees ks ns) (record { trees = refl; fit = both.0 }) in
    subst (λ n. ConstraintsFit n list.constraints.items) (sym many) both.1

-- ---- from the first call to the last

pub record Extended {F E : Type 0} (dimension : ℕ) (ring : RingOps E) (basis : List E) (coordinates : E → List F) (base : RingOps F) (air : TreeAir F) (given : LookupList) (all : TreeList F) (columns : TreeColumns F) : Type 0 where
  pub constraints : (same : Decides F) → spelled_in all ≡ spelled_in air.list ++ lookup_constraints dimension (coordinates ring.one) (own_table ring basis coordinates) (lookups_over base air given) (light_trees same base)
  pub without_fault : tree_air_fault columns all.constants.items all.nodes.items all.constraints.items ≡ None

module _ {F E : Type 0} (dimension : ℕ) (ring : RingOps E) (basis : List E) (coordinates : E → List F) (base : RingOps F) (same : Decides F) (air : TreeAir F) (given : LookupList) {A : Type 0} (copy with_groups with_equations all : TreeList F) (groups : List (Vec WrittenEntry A))
    (own : OwnCounts) (ps : List ℕ) (wider : TreeColumns F) where
  abbrev ours : List (Tree F)
  ours = nodes_trees air.list.constants.items air.list.nodes.items

  abbrev x : Lookups F
  x = lookups_over base air given

  pub extended_steps : (copy.constants.items ≡ air.list.constants.items) → (copy.nodes.items ≡ air.list.nodes.items) → (copy.constraints.items ≡ air.list.constraints.items)
      → lookups_fault (record { nodes = length air.list.nodes.items; width = given.width }) 0 given.lookups.items ≡ None
      → WritesLookups base given copy groups with_groups → WritesEquations dimension ring basis coordinates base own with_groups groups ps with_equations
      → all.constants.items ≡ with_equations.constants.items → all.nodes.items ≡ with_equations.nodes.items → all.constraints.items ≡ with_equations.constraints.items ++ map Base ps
      → own.main ≡ air.declaration.columns.width → own.public_values ≡ air.declaration.columns.num_public_values → own.key_width ≡ key_width (is_numbered given) given.width
      → wider.width ≡ columns_with dimension own.main (length groups) → wider.num_public_values ≡ values_with dimension own.public_values own.key_width
      → declared_trace wider.preprocessed_trace ≡ declared_trace air.declaration.columns.preprocessed_trace
      → map (λ c. c.items) wider.periodic_columns.items ≡ map (λ c. c.items) air.declaration.columns.periodic_columns.items
      → Extended dimension ring basis coordinates base air given all wider
  extended_steps constants nodes constraints none groups_call equations_call same_constants same_nodes added main values width columns public trace periodic =
      let l = columns_layout wider in
      let list = air.list in
      let fit = constraints_there air.declaration.columns list air.without_fault in
      let start = own_fits air.declaration.columns wider list copy air.without_fault constants nodes (omega (arith, main, columns)) (omega (arith, values, public)) (sym (ap trace_width trace)) as_many_periodic in
      let many = as_many_trees l copy.constants.items copy.nodes.items ours start in
      let number : length list.nodes.items ≡ length ours = sym (many ∙ ap length nodes) in
      let named = subst (λ n. AllName n given.lookups.items) number (lookups_name (record { nodes = length list.nodes.items; width = given.width }) 0 given.lookups.items none) in
      let w = groups_call l ours ours start (λ p t e. e) named in
      let chain = λ (decides : Decides F). equations_call decides l w.trees x (sym main) (sym values) (sym width) w.spelling w.made (omega (arith, columns)) (omega (arith, columns)) (omega (arith, public)) in
      let made = λ (decides : Decides F). after_it copy with_groups with_equations w (so_made with_groups with_equations (chain decides) (chain decides).made) in
      let equations = λ (decides : Decides F). own_equations dimension ring basis coordinates (light_trees decides base) x in
      record {
        constraints = λ decides. spelled_with l list copy with_equations all ours ps (equations decides) fit (made decides) constraints same_constants same_nodes added;
        without_fault = without_fault l list copy with_equations all ours ps (equations same) fit (made same) constraints same_constants same_nodes added wider refl;
      }
    where
      as_many_periodic : length air.declaration.columns.periodic_columns.items ≡ length wider.periodic_columns.items
      as_many_periodic = sym (length-map air.declaration.columns.periodic_columns.items (λ c. c.items)) ∙ ap length (sym periodic) ∙ length-map wider.periodic_columns.items (λ c. c.items)

-- There are as many written groups as the lookups have.
module _ {F : Type 0} (base : RingOps F) (air : TreeAir F) (given : LookupList) {A : Type 0} (copy with_groups : TreeList F) (groups : List (Vec WrittenEntry A)) where
  pub groups_number : (copy.constants.items ≡ air.list.constants.items) → (copy.nodes.items ≡ air.list.nodes.items) → lookups_fault (record { nodes = length air.list.nodes.items; width = given.width }) 0 given.lookups.items ≡ None
      → WritesLookups base given copy groups with_groups → length groups ≡ length (lookups_over base air given).groups
  groups_number constants nodes none groups_call =
      let ks = air.list.constants.items in
      let ns = air.list.nodes.items in
      let own = nodes_trees ks ns in
      let l = tree_layout air.declaration.columns ns in
      let fit = (all_fit air.declaration.columns ks ns air.list.constraints.items air.without_fault).0 in
      let start : Spelling l copy own = subst (λ js. Holds l js copy.nodes.items own) (sym constants) (subst (λ ms. Holds l ks ms own) (sym nodes) (record { trees = refl; fit = fit })) in
      let number : length ns ≡ length own = sym (as_many_trees l ks ns own (record { trees = refl; fit = fit })) in
      let named = subst (λ n. AllName n given.lookups.items) number (lookups_name (record { nodes = length ns; width = given.width }) 0 given.lookups.items none) in
      let w = groups_call l own own start (λ p t e. e) named in
      as_many (λ group es. GroupStands w.trees group.items es) groups (lookups_over base air given).groups w.made
