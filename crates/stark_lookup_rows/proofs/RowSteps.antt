-- The entries of a trace's rows, by the values of the AIR whose constraints they are.
use Rattle.std.proofs.Common.{◌≡◌, ◌∙◌, ℕ, ◌*◌, ◌^◌, List, ◌++◌, ap, drop, length, map, refl}
use Rattle.std.proofs.lemmas.List.{length-map}
use Rattle.std.proofs.lemmas.Simd.{map-map}
use Rattle.stark_support.specs.Operations.{ring_operations}
use Rattle.stark_support.specs.Ring.{RingOps}
use Rattle.stark_air.specs.Declaration.{Trace}
use Rattle.stark_air.specs.Tree.{Tree}
use Rattle.stark_air.specs.Value.{Environment, constraint_value, value}
use Rattle.stark_logup.specs.Fractions.{rows_below}
use Rattle.stark_security.specs.ConstraintPolynomial.{AirInstance}
use Rattle.stark_tree_air.specs.Nodes.{marked_tree, nodes_trees, spelled, tree_at}
use Rattle.stark_tree_air.specs.Traces.{declared_trace}
use Rattle.stark_tree_air.specs.Writing.{spelled_in}
use Rattle.stark_tree_air.specs.declared.air.TreeAir.{TreeAir}
use Rattle.stark_tree_air.specs.declared.node.TreeConstraint.TheVariants.{Base}
use Rattle.stark_completeness.specs.RowCheck.{base_air, trace_rows, values_in}
use Rattle.stark_completeness.specs.RowSatisfaction.{TraceRows, leaves_in_row}
use Rattle.stark_completeness.specs.RowValues.{AreRowValues}
use Rattle.stark_lookup_extension.specs.declared.lookup.LookupList.{LookupList}
use Rattle.stark_lookup_rows.specs.Cut.{cut_lookups, cut_row, lookups_size}
use Rattle.stark_lookup_rows.specs.Places.{IsAirOf, lookups_places}
use Rattle.stark_lookup_rows.specs.RowEntries.{entries_there, worth_there}
use Rattle.stark_lookup_rows.proofs.EntrySteps.{lookups_cut, size_of_lookups}
use Rattle.stark_lookup_rows.proofs.RowsInTurn.{row_and_rest, same_rows}

module _ {F : Type 0} (own : TreeAir F) (given : LookupList) (air : TreeAir F) (is : IsAirOf own given air) where
  abbrev own_trees : List (Tree F)
  own_trees = nodes_trees own.list.constants.items own.list.nodes.items

  spelled_places : spelled_in air.list ≡ spelled own.list.constants.items own.list.nodes.items (map Base (lookups_places given.lookups.items))
  spelled_places =
      ap (λ ks. spelled ks air.list.nodes.items air.list.constraints.items) is.constants ∙ ap (λ ns. spelled own.list.constants.items ns air.list.constraints.items) is.nodes
      ∙ ap (spelled own.list.constants.items own.list.nodes.items) is.constraints

  pub places_counted : length (spelled_in air.list) ≡ lookups_size given.lookups.items
  places_counted = ap length spelled_places ∙ length-map (map Base (lookups_places given.lookups.items)) (marked_tree own_trees) ∙ length-map (lookups_places given.lookups.items) Base ∙ size_of_lookups given.lookups.items

  module _ (ring : RingOps F) (inverse : F → F) (root : ℕ → F) (trace : Trace F) (public_values : List F) (log_size : ℕ) where
    abbrev worth_here : ℕ → Tree F → F
    worth_here r t = worth_there ring inverse root own given trace public_values log_size r t

    abbrev of_air : AirInstance F F
    of_air = base_air ring inverse root (spelled_in air.list) (map (λ c. c.items) air.declaration.columns.periodic_columns.items) log_size

    abbrev rows_there : TraceRows F
    rows_there = trace_rows trace (declared_trace own.declaration.columns.preprocessed_trace) public_values

    values_of_places : (e : Environment F) (ts : List (Tree F)) (ps : List ℕ) → map (constraint_value (ring_operations ring (λ k. k)) e) (map (marked_tree ts) (map Base ps)) ≡ map (λ p. value (ring_operations ring (λ k. k)) e (tree_at ts p)) ps
    values_of_places e ts ps = map-map (constraint_value (ring_operations ring (λ k. k)) e) (marked_tree ts) (map Base ps) ∙ map-map (λ c. constraint_value (ring_operations ring (λ k. k)) e (marked_tree ts c)) Base ps

    -- The values of the AIR's constraints in a row are what the places are worth there,
    values_there : (r : ℕ) → values_in of_air rows_there r ≡ map (λ p. worth_here r (tree_at own_trees p)) (lookups_places given.lookups.items)
    values_there r =
        ap (λ cs. values_in (base_air ring inverse root cs (map (λ c. c.items) air.declaration.columns.periodic_columns.items) log_size) rows_there r) spelled_places
        ∙ ap (λ p. values_in (base_air ring inverse root (spelled own.list.constants.items own.list.nodes.items (map Base (lookups_places given.lookups.items))) p log_size) rows_there r) is.columns.periodic
        ∙ values_of_places (leaves_in_row (base_air ring inverse root (spelled_in own.list) (map (λ c. c.items) own.declaration.columns.periodic_columns.items) log_size) rows_there r) own_trees (lookups_places given.lookups.items)

    -- and they are cut into the row's entries.
    row_cut : (r : ℕ) (values others : List F) → values ≡ values_in of_air rows_there r ++ others → cut_lookups ring given.width given.lookups.items values ≡ entries_there ring inverse root own given trace public_values log_size r
    row_cut r values others are =
        ap (cut_lookups ring given.width given.lookups.items) (are ∙ ap (λ xs. xs ++ others) (values_there r)) ∙ lookups_cut ring own_trees given.width (worth_here r) (λ k. refl) (λ t. refl) given.lookups.items others

    -- Values of all rows are cut into the entries of all rows.
    pub rows_cut : (size : ℕ) (values : List F) → size ≡ length (spelled_in air.list) → AreRowValues of_air rows_there values
        → rows_below (cut_row ring given.width given.lookups.items size values) (2 ^ log_size) ≡ rows_below (entries_there ring inverse root own given trace public_values log_size) (2 ^ log_size)
    rows_cut size values same are =
        ap (λ n. rows_below (cut_row ring given.width given.lookups.items n values) (2 ^ log_size)) same
        ∙ same_rows (cut_row ring given.width given.lookups.items (length (spelled_in air.list)) values) (entries_there ring inverse root own given trace public_values log_size) (2 ^ log_size)
        (λ r below. row_cut r _ (drop (length (spelled_in air.list)) (drop (r * length (spelled_in air.list)) values)) (row_and_rest (length (spelled_in air.list)) r values _ (are.in_row r below)))
