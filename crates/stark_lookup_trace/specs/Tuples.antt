-- Tuples over a base field, and the columns of their lookups over an extension.
use Rattle.std.specs.Prelude.{◌≡◌, ℕ, List, ◌∷◌, [], ◌++◌, map}
use Rattle.std.specs.declared.vec.Vec.{Vec}
use Rattle.stark_support.specs.Ring.{RingOps}
use Rattle.stark_logup.specs.Fractions.{Decides, Entry, IsBalanced, joined, rows_below}
use Rattle.stark_logup.specs.Lookups.{CanPass, compressed}
use Rattle.stark_lookup_trace.specs.AuxiliaryColumns.{in_row}
use Rattle.stark_lookup_trace.specs.declared.tuples.TupleEntry.{TupleEntry}

-- a tuple and its multiplicity, in the extension
abbrev pub entry_over : {F E : Type 0} → (F → E) → TupleEntry F → Entry (List E) E
entry_over embed e = record { key = map embed e.tuple.items; multiplicity = embed e.multiplicity }

-- the groups' tuples
abbrev pub tuples_of : {F E A : Type 0} → (F → E) → List (Vec (TupleEntry F) A) → List (List (Entry (List E) E))
tuples_of embed groups = map (λ g. map (entry_over embed) g.items) groups

-- the groups' entries, with each tuple compressed by beta
abbrev pub keyed_by : {F E A : Type 0} → RingOps E → (F → E) → E → List (Vec (TupleEntry F) A) → List (List (Entry E E))
keyed_by ring embed beta groups = map (map (compressed ring beta)) (tuples_of embed groups)

-- Values are those of columns with which the draws let the rows' tuples pass.
pub record PassAsLookup {K : Type 0} (ring : RingOps K) (beta gamma : K) (rows size : ℕ) (groups : List (List (Entry (List K) K))) (values : List K) : Type 0 where
  pub columns : CanPass ring (in_row size groups) rows beta gamma
  pub values_are : values ≡ rows_below (λ r. columns.helpers r ++ columns.sums r ∷ []) rows

-- They are, where of each tuple as much is received as is sent.
abbrev pub LookupPasses : {K : Type 0} → RingOps K → K → K → ℕ → ℕ → List (List (Entry (List K) K)) → List K → Type 0
LookupPasses {K} ring beta gamma rows size groups values =
    (same : Decides (List K)) → IsBalanced ring same (joined groups) → PassAsLookup ring beta gamma rows size groups values
