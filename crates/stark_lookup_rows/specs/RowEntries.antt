-- What each row of a trace sends and receives.
use Rattle.std.specs.Prelude.{◌≡◌, ℕ, ◌+◌, ◌*◌, ◌^◌, List, [], ◌∷◌, ◌++◌, length, map, replicate}
use Rattle.std.specs.declared.vec.Vec.{Vec}
use Rattle.stark_support.specs.Operations.{ring_operations}
use Rattle.stark_support.specs.Ring.{RingOps}
use Rattle.stark_air.specs.Declaration.{Trace}
use Rattle.stark_air.specs.Tree.{Tree}
use Rattle.stark_air.specs.Value.{Environment, value}
use Rattle.stark_logup.specs.Fractions.{Entry, rows_below}
use Rattle.stark_logup.specs.RowConstraints.{groups_worth}
use Rattle.stark_lookup_trace.specs.declared.tuples.TupleEntry.{TupleEntry}
use Rattle.stark_tree_air.specs.Faults.{tree_layout}
use Rattle.stark_tree_air.specs.Traces.{declared_trace}
use Rattle.stark_tree_air.specs.Writing.{spelled_in}
use Rattle.stark_tree_air.specs.declared.air.TreeAir.{TreeAir}
use Rattle.stark_completeness.specs.RowCheck.{AreLaidOut, base_air, trace_rows}
use Rattle.stark_completeness.specs.RowSatisfaction.{leaves_in_row}
use Rattle.stark_lookup_extension.specs.Interactions.{lookups_over}
use Rattle.stark_lookup_extension.specs.declared.lookup.Lookup.{Lookup}
use Rattle.stark_lookup_extension.specs.declared.lookup.LookupList.{LookupList}
use Rattle.stark_lookup_rows.specs.Cut.{entries_view}

-- For each group the number of its lookup, counted from here on.
abbrev pub lookup_numbers : ℕ → List Lookup → List ℕ
lookup_numbers k [] = []
lookup_numbers k (x ∷ xs) = replicate (length x.groups.items) k ++ lookup_numbers (k + 1) xs

-- A trace and public values fit an AIR, beside the preprocessed trace that it declares.
abbrev pub FitsAir : {F : Type 0} → ℕ → TreeAir F → Trace F → List F → Type 0
FitsAir adicity own trace public_values = (height : ℕ) × AreLaidOut (tree_layout own.declaration.columns own.list.nodes.items) adicity height trace (declared_trace own.declaration.columns.preprocessed_trace) public_values

module _ {F : Type 0} (ring : RingOps F) (inverse : F → F) (root : ℕ → F) (own : TreeAir F) (given : LookupList) (trace : Trace F) (public_values : List F) where
  module _ (log_size : ℕ) where
    -- What trees read in row r, of 2 ^ log_size rows.
    abbrev pub leaves_there : ℕ → Environment F
    leaves_there r =
        leaves_in_row (base_air ring inverse root (spelled_in own.list) (map (λ c. c.items) own.declaration.columns.periodic_columns.items) log_size)
        (trace_rows trace (declared_trace own.declaration.columns.preprocessed_trace) public_values) r

    abbrev pub worth_there : ℕ → Tree F → F
    worth_there r t = value (ring_operations ring (λ k. k)) (leaves_there r) t

    -- The entries of row r, in their groups.
    abbrev pub entries_there : ℕ → List (List (Entry (List F) F))
    entries_there = groups_worth worth_there (lookups_over ring own given).groups

  -- The groups of the first row, then those of the next.
  abbrev pub AreRowEntries : {A : Type 0} → List (Vec (TupleEntry F) A) → Type 0
  AreRowEntries groups = (log_size : ℕ) → length trace.values ≡ 2 ^ log_size * trace.width → map entries_view groups ≡ rows_below (entries_there log_size) (2 ^ log_size)
