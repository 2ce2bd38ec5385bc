-- Rows one by one, and whether they are of one length.
use Rattle.std.proofs.Common.{◌≡◌, ℕ, ◌+◌, ◌<◌, ◌&&◌, ◌==◌, true, false, List, [], ◌∷◌, ◌++◌, length, take, get_or, Option, Some, None, Result, Ok, Err, eq-eqb, refl, sym, ap, ap₂, subst, ◌∙◌, append-nil}
use Rattle.std.specs.Prelude.{slice_get}
use Rattle.std.specs.List.{flat_map, list_all}
use Rattle.std.proofs.lemmas.Bool.{ne_eqb}
use Rattle.std.proofs.lemmas.Grind.{flat_map-append}
use Rattle.std.proofs.lemmas.List.{take_more}
use Rattle.std.proofs.lemmas.List.Folds.{list_all_at, list_all_more}
use Rattle.std.proofs.lemmas.Option.{get_or_from_slice_get, slice_get_within}
use Rattle.serde_json.specs.Data.{Data}
use Rattle.serde_json.specs.Find.{as_array}
use Rattle.serde_json.specs.View.{items_of}
use Rattle.stark_support.specs.Json.{◌>>=◌, array_at, each_at, json_of}
use Rattle.stark_trace_json.specs.Faults.{GivesEven, GivesRows, IsFaultOfText, IsFirstUneven}
use Rattle.stark_trace_json.specs.Rows.{SpellsNoTrace, are_even, rows_in, width_of}
use Rattle.stark_trace_json.specs.declared.rows.TraceRows.{TraceRows}
use Rattle.stark_trace_json.specs.declared.fault.RowsFault.{RowsFault}
use Rattle.stark_trace_json.specs.declared.fault.RowsFault.TheVariants.{NoJson, NoArray, NoRow, NoElement, Uneven, OutOfMemory}
use Rattle.stark_trace_json.proofs.Items.{each_unread}

module _ {F : Type 0} (rows : List (List F)) (i : ℕ) (row : List F) where
  pub values_more : (values more : List F) → i < length rows → get_or rows i row ≡ row → values ≡ flat_map (λ r. r) (take i rows) → more ≡ values ++ row → more ≡ flat_map (λ r. r) (take (i + 1) rows)
  values_more values more lt is h e =
      let next = take_more rows i row lt ∙ ap (λ r. take i rows ++ r ∷ []) is in
      e ∙ ap (λ v. v ++ row) h ∙ ap (λ r. flat_map (λ x. x) (take i rows) ++ r) (sym (append-nil row)) ∙ sym (flat_map-append (λ r. r) (take i rows) (row ∷ [])) ∙ ap (flat_map (λ r. r)) (sym next)

  pub even_more : (w : ℕ) → i < length rows → get_or rows i row ≡ row → length row ≡ w → list_all (λ r. length r == w) (take i rows) ≡ true → list_all (λ r. length r == w) (take (i + 1) rows) ≡ true
  even_more w lt is e h = list_all_more (λ r. length r == w) rows i row lt ∙ ap₂ (λ a b. a && b) h (ap (λ r. length r == w) is ∙ eq-eqb (length row) w e)

-- Where one is of another length, not all are of one.
pub are_uneven : {F : Type 0} (rows : List (List F)) (place expected got : ℕ) → IsFirstUneven rows place expected got → are_even rows ≡ false
are_uneven rows place expected got h =
    let at = get_or_from_slice_get rows place h.here h.here h.stands in
    let other : (length h.here == width_of rows) ≡ false = ne_eqb (length h.here) (width_of rows) (λ same. h.other (sym h.length_here ∙ same ∙ h.wanted)) in
    list_all_at (λ row. length row == width_of rows) rows place h.here (slice_get_within rows place h.here h.stands) (ap (λ row. length row == width_of rows) at ∙ other)

-- A text with a fault is no trace, but for want of memory.
module _ {F : Type 0} (element : Data → Option F) (bytes : List ℕ) where
  none : rows_in element bytes ≡ None → SpellsNoTrace (rows_in element bytes)
  none e = subst SpellsNoTrace (sym e) tt

  read_as : (d : Data) → json_of bytes ≡ Some d → rows_in element bytes ≡ array_at (array_at element) d
  unfolding rows_in
  read_as d e = ap (λ o. o >>= array_at (array_at element)) e

  items_read : (d : Data) (ds : List Data) → as_array d ≡ Some (items_of ds) → array_at (array_at element) d ≡ each_at (array_at element) (items_of ds)
  unfolding array_at
  items_read d ds e = ap (λ o. o >>= each_at (array_at element)) e

  unread_at : (d : Data) (ds : List Data) (row : ℕ) (here : Data) → json_of bytes ≡ Some d → as_array d ≡ Some (items_of ds) → slice_get ds row ≡ Some here → array_at element here ≡ None
      → SpellsNoTrace (rows_in element bytes)
  unread_at d ds row here is items stands unread = none (read_as d is ∙ items_read d ds items ∙ each_unread (array_at element) ds row here stands unread)

  no_array : (d : Data) → as_array d ≡ None → array_at element d ≡ None
  unfolding array_at
  no_array d e = ap (λ o. o >>= each_at element) e

  no_element : (d : Data) (es : List Data) (column : ℕ) (v : Data) → as_array d ≡ Some (items_of es) → slice_get es column ≡ Some v → element v ≡ None → array_at element d ≡ None
  unfolding array_at
  no_element d es column v items stands unread = ap (λ o. o >>= each_at element) items ∙ each_unread element es column v stands unread

  no_json : json_of bytes ≡ None → SpellsNoTrace (rows_in element bytes)
  unfolding rows_in
  no_json h = none (ap (λ o. o >>= array_at (array_at element)) h)

  no_list : (d : Data) → as_array d ≡ None → array_at (array_at element) d ≡ None
  unfolding array_at
  no_list d e = ap (λ o. o >>= each_at (array_at element)) e

  pub spells_no_trace : (fault : RowsFault) → (fault ≡ OutOfMemory → ⊥) → IsFaultOfText element bytes fault → SpellsNoTrace (rows_in element bytes)
  spells_no_trace NoJson some h = no_json h
  spells_no_trace NoArray some h = none (read_as h.0 h.1 ∙ no_list h.0 h.2)
  spells_no_trace (NoRow row) some h = unread_at h.0 h.2 row h.4.here h.1 h.3 h.4.stands (no_array h.4.here h.4.fault)
  spells_no_trace (NoElement row column value) some h =
      let inner = h.4.fault in
      unread_at h.0 h.2 row h.4.here h.1 h.3 h.4.stands (no_element h.4.here inner.0 column inner.2.here inner.1 inner.2.stands inner.2.fault.1)
  spells_no_trace (Uneven row expected got) some h = subst SpellsNoTrace (sym h.1) (are_uneven h.0 row expected got h.2)
  spells_no_trace OutOfMemory some h = absurd (some refl)

  -- The items of the array that a text spells are read as rows.
  pub rows_read : (d : Data) (ds : List Data) (rows : List (List F)) → json_of bytes ≡ Some d → as_array d ≡ Some (items_of ds) → each_at (array_at element) (items_of ds) ≡ Some rows → rows_in element bytes ≡ Some rows
  rows_read d ds rows is items h = read_as d is ∙ items_read d ds items ∙ h

  -- What is said of the lengths of rows is said of the text that spells them.
  pub said_of_lengths : (rows : List (List F)) → rows_in element bytes ≡ Some rows → (result : Result (TraceRows F) RowsFault) → GivesEven rows result → GivesRows element bytes result
  said_of_lengths rows is (Ok table) h = (rows, is, h)
  said_of_lengths rows is (Err (Uneven row expected got)) h = (rows, is, h)
  said_of_lengths rows is (Err OutOfMemory) h = h
  said_of_lengths rows is (Err NoJson) h = absurd h
  said_of_lengths rows is (Err NoArray) h = absurd h
  said_of_lengths rows is (Err (NoRow row)) h = absurd h
  said_of_lengths rows is (Err (NoElement row column value)) h = absurd h
