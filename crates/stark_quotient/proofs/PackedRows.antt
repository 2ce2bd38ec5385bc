-- In each lane packed rows fold to the folded sum over the row that stands in that lane.
use Rattle.std.proofs.Common.{◌≡◌, ◌∙◌, ◌++◌, ◌<◌, ℕ, ◌≤◌, List, map, length, take, drop, slice_index_or, ap, subst, sym, arith}
use Rattle.std.specs.Vec.{vec_items}
use Rattle.std.specs.declared.vec.Vec.{Vec}
use Rattle.std.proofs.Math.Seq.{take-append_seam, drop-append_seam}
use Rattle.std.proofs.lemmas.List.{get_or-map, length-drop, length-map, length-take-le, take-map, drop-map}
use Rattle.stark_support.specs.Ring.{RingOps}
use Rattle.stark_support.specs.Operations.{Operations, ring_operations}
use Rattle.stark_support.specs.Lanes.{IsLaneByLane}
use Rattle.stark_air.specs.Tree.{Constraint}
use Rattle.stark_air.specs.LaneValues.{lane_environment, lane_embedded}
use Rattle.stark_air.specs.Layout.{Layout, Covers, LeavesWithin}
use Rattle.stark_air.specs.Value.{constraint_values}
use Rattle.stark_prover_folder.specs.Finalized.{lane_values}
use Rattle.stark_parts.specs.Folded.{folded}
use Rattle.stark_air.specs.Declaration.{next_width}
use Rattle.stark_quotient.specs.FoldedPlaces.{AreFoldingPowers, embedded}
use Rattle.stark_quotient.specs.Groups.{FitsLayout, group_layout}
use Rattle.stark_quotient.specs.declared.plain_eval.PackedGroup.{PackedGroup}
use Rattle.stark_quotient.proofs.PointSteps.{next_within}
use Rattle.stark_security.specs.SameLeaves.{AgreeWithin, same_constraints}
use Rattle.stark_quotient.specs.PointRows.{FitLayout, IsLaneRow, PointRow, folded_over, packed_environment, packed_layout, row_environment}

module _ {F P : Type 0} (lanes : P → List F) (i : ℕ) (blank : F) where
  first_part : (xs ys : List F) (packed : List P) (width : ℕ) → lane_values lanes i blank packed ≡ xs ++ ys → length xs ≡ width → lane_values lanes i blank (take width packed) ≡ xs
  first_part xs ys packed width is number = sym (take-map (λ v. slice_index_or (lanes v) i blank) width packed) ∙ ap (take width) is ∙ ap (λ n. take n (xs ++ ys)) (sym number) ∙ take-append_seam xs ys

  second_part : (xs ys : List F) (packed : List P) (width : ℕ) → lane_values lanes i blank packed ≡ xs ++ ys → length xs ≡ width → lane_values lanes i blank (drop width packed) ≡ ys
  second_part xs ys packed width is number = sym (drop-map (λ v. slice_index_or (lanes v) i blank) width packed) ∙ ap (drop width) is ∙ ap (λ n. drop n (xs ++ ys)) (sym number) ∙ drop-append_seam xs ys

-- Two rows of the widths that a layout has cover it.
halves_cover : {F P : Type 0} (l : Layout) (columns preprocessed_columns : ℕ) (main preprocessed periodic : List P) (public_values : List F) → FitLayout l columns preprocessed_columns main preprocessed periodic public_values
    → l.main_next ≤ l.main → l.preprocessed_next ≤ l.preprocessed → Covers (packed_layout columns preprocessed_columns main preprocessed periodic public_values) l
halves_cover l columns preprocessed_columns main preprocessed periodic public_values fit next preprocessed_next =
    let first = length-take-le columns main (omega (arith, fit.main)) in
    let second = length-drop columns main in
    let preprocessed_first = length-take-le preprocessed_columns preprocessed (omega (arith, fit.preprocessed)) in
    let preprocessed_second = length-drop preprocessed_columns preprocessed in
    record {
      main = omega (arith, first, fit.main_width);
      main_next = omega (arith, second, fit.main, fit.main_width, next);
      preprocessed = omega (arith, preprocessed_first, fit.preprocessed_width);
      preprocessed_next = omega (arith, preprocessed_second, fit.preprocessed, fit.preprocessed_width, preprocessed_next);
      public_values = omega (arith, fit.public_values);
      periodics = omega (arith, fit.periodics);
    }

-- So do those of a group that fits it.
pub group_covers : {F E P : Type 0} (group : PackedGroup F E P) (l : Layout) (columns preprocessed_columns : List ℕ) → FitsLayout group l → l.main_next ≡ next_width columns l.main → l.preprocessed_next ≡ next_width preprocessed_columns l.preprocessed
    → Covers (group_layout group) l
group_covers group l columns preprocessed_columns fit next preprocessed_next =
    let rows = group.rows.now in
    halves_cover l rows.main_width rows.preprocessed_width rows.main.items rows.preprocessed.items rows.periodic_values.items group.public_values.now fit (next_within columns l.main_next l.main next) (next_within preprocessed_columns l.preprocessed_next l.preprocessed preprocessed_next)

-- Powers that are handed on fold the same constraints.
pub same_powers : {F E A : Type 0} (ring : RingOps E) (coordinates : E → List F) (dimension : ℕ) (alpha : E) (cs : List (Constraint F)) {base given_base : List (Vec F A)} {ext given_ext : List E} → base ≡ given_base → ext ≡ given_ext
    → AreFoldingPowers ring coordinates dimension alpha cs (map vec_items given_base) given_ext → AreFoldingPowers ring coordinates dimension alpha cs (map vec_items base) ext
same_powers ring coordinates dimension alpha cs {base} {given_base} {ext} {given_ext} same_base same_ext are =
    subst (λ powers. AreFoldingPowers ring coordinates dimension alpha cs (map vec_items base) powers) (sym same_ext)
    (subst (λ powers. AreFoldingPowers ring coordinates dimension alpha cs (map vec_items powers) given_ext) (sym same_base) are)

module _ {F E P : Type 0} (base : RingOps F) (ring : RingOps E) (embed : F → E) {packed_base : RingOps F} {o : Operations F P} {width : ℕ} {lanes : P → List F} (by_lane : IsLaneByLane packed_base o width lanes) (i : ℕ) (within : i < width) where
  -- a leaf of a packed row
  lane_leaf : (filler : P) (packed : List P) (row : List F) (c : ℕ) → lane_values lanes i base.zero packed ≡ row → c < length packed
      → embed (slice_index_or (lanes (slice_index_or packed c filler)) i base.zero) ≡ slice_index_or (map embed row) c ring.zero
  lane_leaf filler packed row c is below =
      let at = λ (v : P). slice_index_or (lanes v) i base.zero in
      let number = sym (length-map packed at) ∙ ap length is in
      ap embed (sym (get_or-map at packed c filler base.zero below) ∙ ap (λ l. slice_index_or l c base.zero) is) ∙ sym (get_or-map embed row c base.zero ring.zero (omega (arith, below, number)))

  -- Lane i of packed rows, embedded, is the row there, as far as a layout within them reads.
  lanes_agree : (l : Layout) (columns preprocessed_columns : ℕ) (main preprocessed periodic : List P) (public_values : List F) (first last change : P) (row : PointRow F)
      → IsLaneRow lanes base.zero main preprocessed periodic first last change i row → length row.main_current ≡ columns → length row.preprocessed_current ≡ preprocessed_columns → row.public_values ≡ public_values
      → Covers (packed_layout columns preprocessed_columns main preprocessed periodic public_values) l
      → AgreeWithin l (embedded embed (lane_environment lanes i base.zero (packed_environment columns preprocessed_columns main preprocessed periodic public_values o base.zero first last change))) (row_environment base ring embed row)
  lanes_agree l columns preprocessed_columns main preprocessed periodic public_values first last change row is number preprocessed_number same covers = record {
    main_current = λ c below. lane_leaf first (take columns main) row.main_current c (first_part lanes i base.zero row.main_current row.main_next main columns is.main_rows number) (omega (arith, covers.main));
    main_next = λ c below. lane_leaf first (drop columns main) row.main_next c (second_part lanes i base.zero row.main_current row.main_next main columns is.main_rows number) (omega (arith, covers.main_next));
    preprocessed_current = λ c below. lane_leaf first (take preprocessed_columns preprocessed) row.preprocessed_current c (first_part lanes i base.zero row.preprocessed_current row.preprocessed_next preprocessed preprocessed_columns is.preprocessed_rows preprocessed_number) (omega (arith, covers.preprocessed));
    preprocessed_next = λ c below. lane_leaf first (drop preprocessed_columns preprocessed) row.preprocessed_next c (second_part lanes i base.zero row.preprocessed_current row.preprocessed_next preprocessed preprocessed_columns is.preprocessed_rows preprocessed_number) (omega (arith, covers.preprocessed_next));
    public_value = λ k below. ap embed (lane_embedded by_lane i base.zero within (slice_index_or public_values k base.zero)) ∙ ap (λ l. embed (slice_index_or l k base.zero)) (sym same);
    periodic_value = λ c below. lane_leaf first periodic row.periodic c is.periodic_row (omega (arith, covers.periodics));
    first_row = ap embed is.first_row;
    last_row = ap embed is.last_row;
    transition = ap embed is.transition;
  }

  packed_folded : (l : Layout) (columns preprocessed_columns : ℕ) (main preprocessed periodic : List P) (public_values : List F) (first last change : P) (row : PointRow F)
      → IsLaneRow lanes base.zero main preprocessed periodic first last change i row → length row.main_current ≡ columns → length row.preprocessed_current ≡ preprocessed_columns → row.public_values ≡ public_values
      → Covers (packed_layout columns preprocessed_columns main preprocessed periodic public_values) l → (alpha : E) (cs : List (Constraint F)) → LeavesWithin l cs
      → folded ring alpha (constraint_values (ring_operations ring embed) (embedded embed (lane_environment lanes i base.zero (packed_environment columns preprocessed_columns main preprocessed periodic public_values o base.zero first last change))) cs)
      ≡ folded_over base ring embed row alpha cs
  packed_folded l columns preprocessed_columns main preprocessed periodic public_values first last change row is number preprocessed_number same covers alpha cs leaves =
      ap (folded ring alpha)
      (same_constraints ring embed l _ (row_environment base ring embed row) (lanes_agree l columns preprocessed_columns main preprocessed periodic public_values first last change row is number preprocessed_number same covers) cs leaves)

  -- A group's rows fold to the folded sum over the row that stands in that lane.
  pub group_folded : (group : PackedGroup F E P) (l : Layout) (columns preprocessed_columns : List ℕ) → FitsLayout group l → l.main_next ≡ next_width columns l.main → l.preprocessed_next ≡ next_width preprocessed_columns l.preprocessed
      → (row : PointRow F) → IsLaneRow lanes base.zero group.rows.now.main.items group.rows.now.preprocessed.items group.rows.now.periodic_values.items group.selectors.now.is_first_row group.selectors.now.is_last_row group.selectors.now.is_transition i row
      → length row.main_current ≡ group.rows.now.main_width → length row.preprocessed_current ≡ group.rows.now.preprocessed_width → row.public_values ≡ group.public_values.now → (cs : List (Constraint F)) → LeavesWithin l cs
      → folded ring group.powers.now.alpha (constraint_values (ring_operations ring embed) (embedded embed (lane_environment lanes i base.zero (packed_environment group.rows.now.main_width group.rows.now.preprocessed_width group.rows.now.main.items
      group.rows.now.preprocessed.items group.rows.now.periodic_values.items group.public_values.now o base.zero group.selectors.now.is_first_row group.selectors.now.is_last_row group.selectors.now.is_transition))) cs)
      ≡ folded_over base ring embed row group.powers.now.alpha cs
  group_folded group l columns preprocessed_columns fit next preprocessed_next row is number preprocessed_number same cs leaves =
      let rows = group.rows.now in
      let selectors = group.selectors.now in
      packed_folded l rows.main_width rows.preprocessed_width rows.main.items rows.preprocessed.items rows.periodic_values.items group.public_values.now selectors.is_first_row selectors.is_last_row selectors.is_transition row is number preprocessed_number same
      (group_covers group l columns preprocessed_columns fit next preprocessed_next) group.powers.now.alpha cs leaves
