-- Columns satisfy an AIR exactly where the trace whose rows they take does, row by row.
use Rattle.std.proofs.Common.{◌≡◌, ◌∙◌, ap, sym, arith, refl, subst, ℕ, ◌+◌, ◌%◌, ◌<◌, ◌≤◌, List, [], ◌∷◌, map, length, All, slice_index_or}
use Rattle.std.specs.List.{AllByRecursion}
use Rattle.std.proofs.Math.Nat.{div_self}
use Rattle.std.proofs.lemmas.List.Elements.{recursion_from_All}
use Rattle.std.proofs.lemmas.Nat.{pow_pos}
use Rattle.stark_support.specs.ListFacts.{mapped_or_filler}
use Rattle.stark_support.specs.Ring.{RingOps, RingLaws, FieldLaws}
use Rattle.stark_support.specs.RingFacts.{one_mul}
use Rattle.stark_support.specs.Operations.{ring_operations}
use Rattle.stark_support.specs.Powers.{power}
use Rattle.stark_support.specs.Embedding.{IsEmbedding}
use Rattle.stark_support.specs.KeepsRing.{kept_power}
use Rattle.stark_support.specs.TwoAdic.{HasOrder, TwoAdicLaws}
use Rattle.stark_support.specs.Coset.{coset_point}
use Rattle.stark_support.specs.CosetFacts.{root_has_order, root_nonzero}
use Rattle.stark_support.specs.Periodic.{ColumnFits, periodic_value}
use Rattle.stark_support.specs.PeriodicFacts.{power_of_two}
use Rattle.stark_support.specs.PeriodicValueFacts.{value_in_row}
use Rattle.stark_support.specs.Scheme.{natural_coset}
use Rattle.stark_air.specs.Layout.{Layout, LeavesWithin}
use Rattle.stark_air.specs.Tree.{Constraint, base as over_base, extension as over_extension}
use Rattle.stark_air.specs.Value.{Environment, constraint_values}
use Rattle.stark_security.specs.ConstraintPolynomial.{AirInstance, Columns, constraints_at, environment_at, height}
use Rattle.stark_security.specs.BadValues.{Satisfies, point}
use Rattle.stark_quotient.specs.EmbeddedPoint.{embedded_first_row, embedded_last_row, embedded_transition}
use Rattle.stark_quotient.specs.FoldedPlaces.{embedded, embedded_value}
use Rattle.stark_quotient.specs.PointwiseQuotient.{leaves_at, next_row, point_above}
use Rattle.stark_quotient.specs.QuotientOfColumns.{AreValuesOfColumns, leaves_agree}
use Rattle.stark_security.specs.SameLeaves.{AgreeWithin, same_constraints}
use Rattle.stark_completeness.specs.RowSatisfaction.{TraceRows, HoldsInEachRow, leaves_in_row, periodic_entry, row_after, row_point, rows_on_group}

module _ {F E : Type 0} {base : RingOps F} {ring : RingOps E} (laws : RingLaws ring) {embed : F → E} (embeds : IsEmbedding base ring embed) (row : Environment F) where
  -- Constraints that are zero over a row are zero over the embedded one.
  zeros_above : (cs : List (Constraint F)) → AllByRecursion (λ c. c ≡ base.zero) (constraint_values (ring_operations base (λ c. c)) row cs)
      → AllByRecursion (λ c. c ≡ ring.zero) (constraint_values (ring_operations ring embed) (embedded embed row) cs)
  zeros_above [] zeros = tt
  zeros_above (over_base t ∷ cs) zeros = (sym (embedded_value laws embeds row t) ∙ ap embed zeros.0 ∙ embeds.keeps.zero, zeros_above cs zeros.1)
  zeros_above (over_extension t ∷ cs) zeros = (sym (embedded_value laws embeds row t) ∙ ap embed zeros.0 ∙ embeds.keeps.zero, zeros_above cs zeros.1)

  -- And the other way round.
  zeros_below : (cs : List (Constraint F)) → AllByRecursion (λ c. c ≡ ring.zero) (constraint_values (ring_operations ring embed) (embedded embed row) cs)
      → AllByRecursion (λ c. c ≡ base.zero) (constraint_values (ring_operations base (λ c. c)) row cs)
  zeros_below [] zeros = tt
  zeros_below (over_base t ∷ cs) zeros = (embeds.injective _ _ (embedded_value laws embeds row t ∙ zeros.0 ∙ sym embeds.keeps.zero), zeros_below cs zeros.1)
  zeros_below (over_extension t ∷ cs) zeros = (embeds.injective _ _ (embedded_value laws embeds row t ∙ zeros.0 ∙ sym embeds.keeps.zero), zeros_below cs zeros.1)

module _ {F E : Type 0} (i : AirInstance F E) (base_laws : FieldLaws i.base i.base_inverse) (laws : FieldLaws i.ring i.inverse) (embeds : IsEmbedding i.base i.ring i.embed)
    (adicity : ℕ) (root : ℕ → F) (generator : F) (two_adic : TwoAdicLaws i.base adicity root generator) (generator_is : i.generator ≡ root i.log_size) (within : i.log_size ≤ adicity)
    (l : Layout) (leaves : LeavesWithin l i.constraints) (fitting : All (λ column. ColumnFits (height i) (length column)) i.periodic)
    (rows : TraceRows F) (columns : Columns F E) (are : AreValuesOfColumns i (rows_on_group i rows) columns) where
  order : HasOrder i.base i.generator (height i)
  order = subst (λ g. HasOrder i.base g (height i)) (sym generator_is) (root_has_order base_laws adicity root generator two_adic i.log_size within)

  at_row : (k : ℕ) → i.embed (row_point i k) ≡ point i k
  at_row k = kept_power embeds.keeps i.generator (i.embed i.generator) k refl

  next_is : (k : ℕ) → next_row i (rows_on_group i rows) k ≡ row_after i k
  next_is k = ap (λ d. (k + d) % height i) (div_self (pow_pos i.log_size))

  periodic_entries : (k : ℕ) (columns : List (List F)) → AllByRecursion (λ column. ColumnFits (height i) (length column)) columns
      → map i.embed (map (periodic_entry i k) columns) ≡ map (λ column. periodic_value i.base i.base_inverse i.generator (height i) i.ring i.embed column (i.embed (row_point i k))) columns
  periodic_entries k [] fit = refl
  periodic_entries k (column ∷ rest) fit =
      ap (λ y. y ∷ map i.embed (map (periodic_entry i k) rest))
      (sym (value_in_row base_laws embeds.keeps i.generator (height i) order column (power_of_two (length column) fit.0.power) (i.log_size, refl) fit.0.within k (i.embed (row_point i k)) refl)) ∙
      ap (λ ys. periodic_value i.base i.base_inverse i.generator (height i) i.ring i.embed column (i.embed (row_point i k)) ∷ ys) (periodic_entries k rest fit.1)

  -- A row's leaves, embedded, are those that the quotient's numerator has at the row's point.
  leaves_embedded : (k : ℕ) → AgreeWithin l (embedded i.embed (leaves_in_row i rows k)) (leaves_at i (rows_on_group i rows) k)
  leaves_embedded k =
      let leaf : (row : List F) (c : ℕ) → i.embed (slice_index_or row c i.base.zero) ≡ slice_index_or (map i.embed row) c i.ring.zero
      = λ row c. sym (mapped_or_filler i.embed row c i.base.zero i.ring.zero embeds.keeps.zero) in
      record {
        main_current = λ c below. leaf (rows.main k) c;
        main_next = λ c below. leaf (rows.main (row_after i k)) c ∙ ap (λ n. slice_index_or (map i.embed (rows.main n)) c i.ring.zero) (sym (next_is k));
        preprocessed_current = λ c below. leaf (rows.preprocessed k) c;
        preprocessed_next = λ c below. leaf (rows.preprocessed (row_after i k)) c ∙ ap (λ n. slice_index_or (map i.embed (rows.preprocessed n)) c i.ring.zero) (sym (next_is k));
        public_value = λ n below. refl;
        periodic_value = λ c below. leaf (map (periodic_entry i k) i.periodic) c ∙ ap (λ r. slice_index_or r c i.ring.zero) (periodic_entries k i.periodic (recursion_from_All _ i.periodic fitting));
        first_row = embedded_first_row base_laws laws embeds i.generator i.log_size (row_point i k);
        last_row = embedded_last_row base_laws laws embeds i.generator i.log_size (row_point i k);
        transition = embedded_transition base_laws laws embeds i.generator i.log_size (row_point i k) (λ e. root_nonzero base_laws adicity root generator two_adic i.log_size within (sym generator_is ∙ e));
      }

  -- A row's constraints, embedded, are the columns' at the row's point.
  same_in_row : (k : ℕ) → k < height i → constraint_values (ring_operations i.ring i.embed) (embedded i.embed (leaves_in_row i rows k)) i.constraints ≡ constraints_at i columns (point i k)
  same_in_row k below =
      let on_group = rows_on_group i rows in
      let point_is : (n : ℕ) → row_point i n ≡ coset_point i.base root (natural_coset i.base i.log_size) n = λ n. ap (λ g. power i.base g n) generator_is ∙ sym (one_mul base_laws.of_ring _) in
      same_constraints i.ring i.embed l (embedded i.embed (leaves_in_row i rows k)) (leaves_at i on_group k) (leaves_embedded k) i.constraints leaves ∙
      same_constraints i.ring i.embed l (leaves_at i on_group k) (environment_at i i.ring (λ c. c) columns (point_above i on_group k))
      (leaves_agree i base_laws embeds adicity root generator two_adic generator_is (natural_coset i.base i.log_size) within (let same : i.log_size ≤ i.log_size = omega arith in same) on_group refl point_is columns are l k below)
      i.constraints leaves ∙
      ap (constraints_at i columns) (at_row k)

  -- Columns satisfy the AIR where the trace does in each row,
  pub satisfied_by_rows : HoldsInEachRow i rows → Satisfies i columns
  satisfied_by_rows holds = λ k below. subst (AllByRecursion (λ c. c ≡ i.ring.zero)) (same_in_row k below) (zeros_above laws.of_ring embeds (leaves_in_row i rows k) i.constraints (holds k below))

  -- and only there.
  pub rows_of_satisfied : Satisfies i columns → HoldsInEachRow i rows
  rows_of_satisfied satisfied = λ k below. zeros_below laws.of_ring embeds (leaves_in_row i rows k) i.constraints (subst (AllByRecursion (λ c. c ≡ i.ring.zero)) (sym (same_in_row k below)) (satisfied k below))
