-- The first tuple that doesn't balance.
use Rattle.std.specs.Prelude.{◌≡◌, ◌≢◌, ℕ, ◌<◌, List, map, Some}
use Rattle.std.specs.List.{slice_get}
use Rattle.stark_support.specs.Ring.{RingOps}
use Rattle.stark_logup.specs.Fractions.{Decides, Entry, total}
use Rattle.stark_lookup_trace.specs.declared.tuples.TupleEntry.{TupleEntry}

abbrev pub entry_of : {F : Type 0} → TupleEntry F → Entry (List F) F
entry_of e = record { key = e.tuple.items; multiplicity = e.multiplicity }

abbrev pub entries_of : {F : Type 0} → List (TupleEntry F) → List (Entry (List F) F)
entries_of es = map entry_of es

-- The tuple of the entry at this place has a total that isn't zero, and that of each entry before it has the total zero.
pub record IsFirstUnbalanced {F : Type 0} (ring : RingOps F) (es : List (Entry (List F) F)) (place : ℕ) : Type 0 where
  pub entry : Entry (List F) F
  pub there : slice_get es place ≡ Some entry
  pub unbalanced : (same : Decides (List F)) → total ring same entry.key es ≢ ring.zero
  pub first : (same : Decides (List F)) (before : ℕ) (other : Entry (List F) F) → before < place → slice_get es before ≡ Some other → total ring same other.key es ≡ ring.zero
