-- A trace that fits an AIR fits the one of its interactions' places, and what that one's values are.
use Rattle.std.proofs.Common.{◌≡◌, ◌∙◌, ℕ, ◌*◌, ◌/◌, ◌^◌, ◌<◌, List, [], ◌++◌, Option, ap, length, map, subst, sym}
use Rattle.std.proofs.lemmas.List.{length-map}
use Rattle.stark_support.specs.Ring.{RingOps}
use Rattle.stark_air.specs.Declaration.{Trace}
use Rattle.stark_protocol.proofs.SetUpSteps.{height_is}
use Rattle.stark_logup.specs.Fractions.{Entry, rows_below}
use Rattle.stark_tree_air.specs.Faults.{tree_layout}
use Rattle.stark_tree_air.specs.Nodes.{marked_tree, nodes_trees}
use Rattle.stark_tree_air.specs.Traces.{declared_trace}
use Rattle.stark_tree_air.specs.Writing.{spelled_in}
use Rattle.stark_tree_air.specs.declared.air.TreeAir.{TreeAir}
use Rattle.stark_completeness.specs.RowCheck.{AreLaidOut}
use Rattle.stark_completeness.specs.RowValues.{AreValuesOfTrace}
use Rattle.stark_lookup_extension.specs.declared.lookup.LookupList.{LookupList}
use Rattle.stark_lookup_rows.specs.Cut.{cut_row, lookups_size}
use Rattle.stark_lookup_rows.specs.Places.{IsAirOf}
use Rattle.stark_lookup_rows.specs.RowEntries.{FitsAir, entries_there}
use Rattle.stark_lookup_rows.proofs.PlaceSteps.{same_layout}
use Rattle.stark_lookup_rows.proofs.RowSteps.{places_counted, rows_cut}

module _ {F : Type 0} (own : TreeAir F) (given : LookupList) (air : TreeAir F) (is : IsAirOf own given air) (trace : Trace F) (preprocessed : Option (Trace F)) (public_values : List F) (same : preprocessed ≡ declared_trace own.declaration.columns.preprocessed_trace) where
  pub laid_out_too : (adicity : ℕ) → FitsAir adicity own trace public_values → (height : ℕ) × AreLaidOut (tree_layout air.declaration.columns air.list.nodes.items) adicity height trace preprocessed public_values
  laid_out_too adicity fits = (
    fits.0,
    subst (λ l. AreLaidOut l adicity fits.0 trace preprocessed public_values) (sym (same_layout own.declaration.columns air.declaration.columns own.list.nodes.items air.list.nodes.items is.columns is.nodes))
        (subst (λ p. AreLaidOut (tree_layout own.declaration.columns own.list.nodes.items) adicity fits.0 trace p public_values) (sym same) fits.1),
  )

  constraints_counted : length (spelled_in air.list) ≡ length air.list.constraints.items
  constraints_counted = length-map air.list.constraints.items (marked_tree (nodes_trees air.list.constants.items air.list.nodes.items))

  pub enough_places : lookups_size given.lookups.items ≡ length air.list.constraints.items
  enough_places = sym (places_counted own given air is) ∙ constraints_counted

  module _ (ring : RingOps F) (inverse : F → F) (root : ℕ → F) (values : List F) (are : AreValuesOfTrace ring inverse root (spelled_in air.list) (map (λ c. c.items) air.declaration.columns.periodic_columns.items) trace preprocessed public_values values)
      (some : 0 < trace.width) where
    pub values_counted : (adicity : ℕ) → FitsAir adicity own trace public_values → length values ≡ (length trace.values / trace.width) * length air.list.constraints.items
    values_counted adicity fits =
        let number = fits.1.main.number in
        (are fits.0 number).number ∙ ap (λ n. 2 ^ fits.0 * n) constraints_counted ∙ ap (λ n. n * length air.list.constraints.items) (sym (height_is (length trace.values) trace.width (2 ^ fits.0) some number))

    entries_cut : (log_size : ℕ) → length trace.values ≡ 2 ^ log_size * trace.width
        → rows_below (cut_row ring given.width given.lookups.items (length air.list.constraints.items) values) (length trace.values / trace.width) ≡ rows_below (entries_there ring inverse root own given trace public_values log_size) (2 ^ log_size)
    entries_cut log_size number =
        ap (rows_below (cut_row ring given.width given.lookups.items (length air.list.constraints.items) values)) (height_is (length trace.values) trace.width (2 ^ log_size) some number)
        ∙ rows_cut own given air is ring inverse root trace public_values log_size (length air.list.constraints.items) values (sym constraints_counted)
        (subst (λ p. AreValuesOfTrace ring inverse root (spelled_in air.list) (map (λ c. c.items) air.declaration.columns.periodic_columns.items) trace p public_values values) same are log_size number)

    pub all_made : (all before : List (List (Entry (List F) F))) (listed : List F) (size rows : ℕ) → before ≡ [] → listed ≡ values → size ≡ length air.list.constraints.items → rows ≡ length trace.values / trace.width
        → all ≡ before ++ rows_below (cut_row ring given.width given.lookups.items size listed) rows → (log_size : ℕ) → length trace.values ≡ 2 ^ log_size * trace.width → all ≡ rows_below (entries_there ring inverse root own given trace public_values log_size) (2 ^ log_size)
    all_made all before listed size rows none same_values same_size same_rows made log_size number =
        made ∙ ap (λ xs. xs ++ rows_below (cut_row ring given.width given.lookups.items size listed) rows) none ∙ ap (λ xs. rows_below (cut_row ring given.width given.lookups.items size xs) rows) same_values
        ∙ ap (λ n. rows_below (cut_row ring given.width given.lookups.items n values) rows) same_size ∙ ap (rows_below (cut_row ring given.width given.lookups.items (length air.list.constraints.items) values)) same_rows ∙ entries_cut log_size number
