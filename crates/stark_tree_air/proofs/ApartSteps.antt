-- An AIR whose preprocessed rows are apart is read as that with the rows in their place.
use Rattle.std.proofs.Common.{◌≡◌, ℕ, List, Option, Some, None, option_map, false, ok_or, IfSome, Result, Ok, Err, refl, ap, codes}
use Rattle.std.specs.Str.{bytes_eq}
use Rattle.serde_json.specs.Data.{Data, null, boolean, number, string, array, object, Members}
use Rattle.serde_json.specs.Find.{as_null, get}
use Rattle.stark_json.specs.Apart.{changed, joined, placed, rows_data}
use Rattle.stark_json.specs.Names.{first_unknown}
use Rattle.stark_json.proofs.Kept.{as_null-changed, first_unknown-changed, get_other, get_same}
use Rattle.stark_tree_air.specs.TreeApart.{air_apart, columns_apart, lists_apart, rows_path, trace_apart, trace_path}
use Rattle.stark_tree_air.specs.TreeJson.{TreeFault, missing_field, unknown_member, unknown_trace_member, air_names, air_reading, columns_reading, list_reading, optional_at, rows_at, trace_at, trace_names, unless_unknown, ◌>>=◌}

-- what is read of an object and of another, where they have the same unknown name
found_is : {A : Type 0} (unknown : List ℕ → TreeFault) (d e : Data) (f g : Data → Result A TreeFault) (found : Option (List ℕ)) → f d ≡ g e → (unless_unknown unknown d found >>= f) ≡ (unless_unknown unknown e found >>= g)
found_is unknown d e f g None same = same
found_is unknown d e f g (Some name) same = refl

module _ {F : Type 0} (element : Data → Option F) (rows : List (List ℕ)) where
  -- the rows in their place in a preprocessed trace
  abbrev inner : Data → Data
  inner d = placed rows_path (rows_data rows) d

  trace_is : (d : Data) → trace_apart element (Some rows) d ≡ trace_at element (inner d)
  unfolding trace_apart trace_at
  trace_is null = refl
  trace_is (boolean b) = refl
  trace_is (number n) = refl
  trace_is (string s) = refl
  trace_is (array ds) = refl
  trace_is (object ms) =
      let known = first_unknown-changed (codes "rows") (λ d. rows_data rows) trace_names ms in
      let width = get_other (codes "rows") (λ d. rows_data rows) (codes "width") (object ms) refl in
      rw known (found_is unknown_trace_member (object ms) (inner (object ms)) _ _ (first_unknown trace_names ms) (rw width refl))

  traces_are : (obtained : Option Data) → optional_at (trace_apart element (Some rows)) obtained ≡ optional_at (trace_at element) (option_map inner obtained)
  traces_are None = refl
  traces_are (Some d) = rw (as_null-changed (codes "rows") (λ d. rows_data rows) d, trace_is d) refl

  -- a trace with no rows, whatever rows are apart
  faults_are : {B : Type 0} (obtained : Option Data) (missing : TreeFault) (read : Data → Result B TreeFault) (e : TreeFault) → ok_or obtained missing ≡ Err e → (ok_or (option_map (λ d. rows_data rows) obtained) missing >>= read) ≡ Err e
  faults_are None missing read e h = let same : missing ≡ e = cc in ap (λ f. Err f) same
  faults_are (Some d) missing read e h = absurd (cc)

  pub rows_missing : (d : Data) (fault : Option TreeFault) → IfSome fault (λ f. ok_or (get (codes "rows") d) (missing_field (codes "preprocessed.rows")) ≡ Err f) → IfSome fault (λ f. lists_apart element (Some rows) d ≡ Err f)
  rows_missing d None h = tt
  rows_missing d (Some e) h = let there = get_same (codes "rows") (λ d. rows_data rows) d refl in rw there (faults_are (get (codes "rows") d) (missing_field (codes "preprocessed.rows")) (rows_at element) e h)

  -- and one with rows
  lists_are_found : {B : Type 0} (obtained : Option Data) (missing : TreeFault) (read : Data → Result B TreeFault) (x : Data) → ok_or obtained missing ≡ Ok x → (ok_or (option_map (λ d. rows_data rows) obtained) missing >>= read) ≡ read (rows_data rows)
  lists_are_found None missing read x h = absurd (cc)
  lists_are_found (Some d) missing read x h = refl

  pub rows_found : (d x : Data) → ok_or (get (codes "rows") d) (missing_field (codes "preprocessed.rows")) ≡ Ok x → lists_apart element (Some rows) d ≡ rows_at element (rows_data rows)
  rows_found d x h = let there = get_same (codes "rows") (λ d. rows_data rows) d refl in rw there (lists_are_found (get (codes "rows") d) (missing_field (codes "preprocessed.rows")) (rows_at element) x h)

  -- and in an AIR
  abbrev outer : Data → Data
  outer d = placed trace_path (rows_data rows) d

  kept : (q : List ℕ) (d : Data) → bytes_eq q (codes "preprocessed") ≡ false → get q (outer d) ≡ get q d
  kept q d other = get_other (codes "preprocessed") inner q d other

  columns_are : (d : Data) → columns_apart element (Some rows) d ≡ columns_reading element (outer d)
  unfolding columns_apart columns_reading
  columns_are d =
      let width = kept (codes "width") d refl in
      let public_values = kept (codes "publics") d refl in
      let periodic = kept (codes "periodic") d refl in
      let trace = get_same (codes "preprocessed") inner d refl in
      rw (width, public_values, periodic, trace, traces_are (get (codes "preprocessed") d)) refl

  lists_are : (d : Data) → list_reading element (outer d) ≡ list_reading element d
  unfolding list_reading
  lists_are d =
      let constants = kept (codes "constants") d refl in
      let nodes = kept (codes "nodes") d refl in
      let constraints = kept (codes "constraints") d refl in
      rw (constants, nodes, constraints) refl

  airs_are : (ms : Members) → air_apart element (Some rows) (object ms) ≡ air_reading element (outer (object ms))
  unfolding air_apart air_reading
  airs_are ms =
      let known = first_unknown-changed (codes "preprocessed") inner air_names ms in
      let degree = kept (codes "max_constraint_degree") (object ms) refl in
      let count = kept (codes "num_constraints") (object ms) refl in
      rw known (found_is unknown_member (object ms) (outer (object ms)) _ _ (first_unknown air_names ms) (rw (columns_are (object ms), degree, count, lists_are (object ms)) refl))

pub air_is : {F : Type 0} (element : Data → Option F) (rows : Option (List (List ℕ))) (d : Data) → air_apart element rows d ≡ air_reading element (joined trace_path rows d)
unfolding air_apart columns_apart trace_apart air_reading columns_reading trace_at
air_is element None d = refl
air_is element (Some rows) null = refl
air_is element (Some rows) (boolean b) = refl
air_is element (Some rows) (number n) = refl
air_is element (Some rows) (string s) = refl
air_is element (Some rows) (array ds) = refl
air_is element (Some rows) (object ms) = airs_are element rows ms
