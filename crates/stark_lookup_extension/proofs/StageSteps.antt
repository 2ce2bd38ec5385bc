-- The fault of an AIR with lookups, and how much it has, from what the calls answer.
use Rattle.std.proofs.Common.{◌≡◌, ◌∙◌, ℕ, ◌+◌, ◌^◌, ◌<◌, ◌&&◌, nat_lt, Bool, true, false, List, length, map, Option, Some, None, if◌then◌else◌, refl, sym, ap, subst}
use Rattle.stark_support.specs.Ring.{RingOps}
use Rattle.stark_tree_air.specs.Traces.{declared_trace}
use Rattle.stark_tree_air.specs.declared.air.TreeAir.{TreeAir}
use Rattle.stark_lookup_extension.specs.ExtendedAir.{HasRoom, extension_fault, own_counts}
use Rattle.stark_lookup_extension.specs.ExtendedSizes.{columns_with, key_width, sizes_fit, values_with}
use Rattle.stark_lookup_extension.specs.ExtensionFaults.{lookups_fault}
use Rattle.stark_lookup_extension.specs.Interactions.{is_numbered, lookups_over}
use Rattle.stark_lookup_extension.specs.declared.error.ExtensionError.{ExtensionError}
use Rattle.stark_lookup_extension.specs.declared.error.ExtensionError.TheVariants.{NoMainColumns, TooLarge}
use Rattle.stark_lookup_extension.specs.declared.fault.Limits.{Limits}
use Rattle.stark_lookup_extension.specs.declared.lookup.LookupList.{LookupList}
use Rattle.stark_lookup_extension.specs.declared.sizes.OwnCounts.{OwnCounts}
use Rattle.stark_lookup_extension.proofs.FaultSteps.{both_hold, fault_first, fault_later, is_less, left_false, no_columns, not_too_large, right_false, some_columns, too_large}

-- The counts are those of the AIR and its lookups, which have that many groups.
pub record Counted {F : Type 0} (base : RingOps F) (air : TreeAir F) (given : LookupList) (own : OwnCounts) (groups : ℕ) : Type 0 where
  pub main : own.main ≡ air.declaration.columns.width
  pub values : own.public_values ≡ air.declaration.columns.num_public_values
  pub width : own.key_width ≡ key_width (is_numbered given) given.width
  pub number : groups ≡ length (lookups_over base air given).groups

module _ {F : Type 0} (base : RingOps F) (dimension : ℕ) (air : TreeAir F) (given : LookupList) where
  abbrev rest : Option ExtensionError
  rest =
      let x = lookups_over base air given in
      (if nat_lt x.width (2 ^ 64) && sizes_fit dimension (own_counts x) (length x.groups) then None else Some TooLarge)

  abbrev limits : Limits
  limits = record { nodes = length air.list.nodes.items; width = given.width }

  pub without_columns : air.declaration.columns.width ≡ 0 → extension_fault base dimension given air ≡ Some NoMainColumns
  without_columns none = no_columns air.declaration.columns.width NoMainColumns _ none

  module _ (some : 0 < air.declaration.columns.width) where
    pub of_lookups : (e : ExtensionError) → lookups_fault limits 0 given.lookups.items ≡ Some e → extension_fault base dimension given air ≡ Some e
    of_lookups e is = some_columns air.declaration.columns.width NoMainColumns _ some ∙ fault_first (lookups_fault limits 0 given.lookups.items) rest e is

    module _ (none : lookups_fault limits 0 given.lookups.items ≡ None) where
      of_sizes : extension_fault base dimension given air ≡ rest
      of_sizes = some_columns air.declaration.columns.width NoMainColumns _ some ∙ fault_later (lookups_fault limits 0 given.lookups.items) rest none

      pub too_wide : nat_lt (key_width (is_numbered given) given.width) (2 ^ 64) ≡ false → extension_fault base dimension given air ≡ Some TooLarge
      too_wide wide = let x = lookups_over base air given in of_sizes ∙ too_large _ TooLarge (left_false (nat_lt x.width (2 ^ 64)) (sizes_fit dimension (own_counts x) (length x.groups)) wide)

      module _ (own : OwnCounts) (groups : ℕ) (counted : Counted base air given own groups) where
        same_sizes : sizes_fit dimension own groups ≡ sizes_fit dimension (own_counts (lookups_over base air given)) (length (lookups_over base air given).groups)
        same_sizes =
            let x = lookups_over base air given in
            ap (λ n. sizes_fit dimension own n) counted.number ∙ ap (λ n. sizes_fit dimension (record { main = n; public_values = own.public_values; key_width = own.key_width }) (length x.groups)) counted.main
            ∙ ap (λ n. sizes_fit dimension (record { main = x.main; public_values = n; key_width = own.key_width }) (length x.groups)) counted.values
            ∙ ap (λ n. sizes_fit dimension (record { main = x.main; public_values = x.public_values; key_width = n }) (length x.groups)) counted.width

        pub too_many : sizes_fit dimension own groups ≡ false → extension_fault base dimension given air ≡ Some TooLarge
        too_many large = let x = lookups_over base air given in of_sizes ∙ too_large _ TooLarge (right_false (nat_lt x.width (2 ^ 64)) (sizes_fit dimension (own_counts x) (length x.groups)) (sym same_sizes ∙ large))

        pub no_fault_at_all : own.key_width < 2 ^ 64 → columns_with dimension own.main groups < 2 ^ 64 → values_with dimension own.public_values own.key_width < 2 ^ 64 → extension_fault base dimension given air ≡ None
        no_fault_at_all keys columns values =
            let x = lookups_over base air given in
            let wide : nat_lt x.width (2 ^ 64) ≡ true = is_less x.width (2 ^ 64) (subst (λ n. n < 2 ^ 64) counted.width keys) in
            let fit : sizes_fit dimension own groups ≡ true = both_hold _ _ (is_less _ _ columns) (is_less _ _ values) in
            of_sizes ∙ not_too_large _ TooLarge (both_hold (nat_lt x.width (2 ^ 64)) (sizes_fit dimension (own_counts x) (length x.groups)) wide (sym same_sizes ∙ fit))

        pub has_room : (all : TreeAir F) → all.declaration.columns.width ≡ columns_with dimension own.main groups → all.declaration.columns.num_public_values ≡ values_with dimension own.public_values own.key_width
            → map (λ c. c.items) all.declaration.columns.periodic_columns.items ≡ map (λ c. c.items) air.declaration.columns.periodic_columns.items
            → declared_trace all.declaration.columns.preprocessed_trace ≡ declared_trace air.declaration.columns.preprocessed_trace → all.declaration.max_constraint_degree ≡ None → all.declaration.num_constraints ≡ None
            → HasRoom dimension (lookups_over base air given) air all
        has_room all columns values periodic preprocessed degree number = record {
          columns = columns ∙ ap (columns_with dimension own.main) counted.number ∙ ap (λ n. columns_with dimension n (length (lookups_over base air given).groups)) counted.main;
          values = values ∙ ap (values_with dimension own.public_values) counted.width ∙ ap (λ n. values_with dimension n (key_width (is_numbered given) given.width)) counted.values;
          periodic = periodic;
          preprocessed = preprocessed;
          degree = degree;
          number = number;
        }
