-- The equation at a point outside the trace's domain, over rows that are given one by one.
use Rattle.std.specs.Prelude.{◌≡◌, ◌≢◌, ℕ, List, Option, Result, length}
use Rattle.std.specs.Borrow.{Bor}
use Rattle.stark_support.specs.Powers.{power}
use Rattle.stark_support.specs.Ring.{RingOps}
use Rattle.stark_support.specs.Coset.{TwoAdicCoset, coset_size, coset_vanishing}
use Rattle.stark_support.specs.Selectors.{Subgroup}
use Rattle.stark_support.specs.Subgroup.{subgroup_of}
use Rattle.stark_air.specs.Layout.{Covers, Layout}
use Rattle.stark_air.specs.Tree.{Constraint}
use Rattle.stark_transcript.specs.declared.error.VerificationError.{VerificationError}
use Rattle.stark_parts.specs.declared.folder.RowsAtPoint.{RowsAtPoint}
use Rattle.stark_protocol.specs.Equation.{ConstraintsFault, ConstraintsHold, OpenedRows, opened_layout, row_or_empty}
use Rattle.stark_support.specs.FieldPair.{FieldsOps}
use Rattle.stark_verifier.specs.MemoryAside.{IfErrMemoryAside}

-- ---- the point

module _ {F E : Type 0} (ring : RingOps E) (inverse : E → E) (embed : F → E) (coset : TwoAdicCoset F) where
  -- The coset's vanishing polynomial is zero at the point, seen in the extension.
  abbrev pub Vanishes : E → Type 0
  Vanishes zeta = coset_vanishing ring (λ c. c) inverse (coset_size coset) (embed coset.shift) zeta ≡ ring.zero

  -- It isn't.
  abbrev pub LiesOutside : E → Type 0
  LiesOutside zeta = coset_vanishing ring (λ c. c) inverse (coset_size coset) (embed coset.shift) zeta ≢ ring.zero

-- The point is a power of the root whose order is the coset's size: a point of the subgroup of that size.
abbrev pub IsPower : {F E : Type 0} → RingOps E → (F → E) → (ℕ → F) → TwoAdicCoset F → E → Type 0
IsPower ring embed root coset zeta = (i : ℕ) × (zeta ≡ power ring (embed (root coset.log_size)) i)

-- ---- the rows

-- Rows that are given one by one; an absent preprocessed one has no value.
abbrev pub given_rows : {F E : Type 0} → List E → List E → Option (Bor (List E)) → Option (Bor (List E)) → List E → List F → OpenedRows F E
given_rows local next preprocessed_local preprocessed_next periodic public_values = record {
  local = local;
  next = next;
  preprocessed_local = row_or_empty (λ row. row.now) preprocessed_local;
  preprocessed_next = row_or_empty (λ row. row.now) preprocessed_next;
  periodic = periodic;
  public_values = public_values;
}

-- Rows that the constraints read at a point.
abbrev pub opened_rows : {F E : Type 0} → RowsAtPoint F E → OpenedRows F E
opened_rows rows = record {
  local = rows.main.current.now;
  next = rows.main.next.now;
  preprocessed_local = rows.preprocessed.current.now;
  preprocessed_next = rows.preprocessed.next.now;
  periodic = rows.periodic_values.now;
  public_values = rows.public_values.now;
}

-- They have what an AIR of this layout reads, if the two preprocessed ones are of one length.
abbrev pub AreWideEnough : {F E : Type 0} → Layout → OpenedRows F E → Type 0
AreWideEnough layout rows = length rows.preprocessed_local ≡ length rows.preprocessed_next → Covers (opened_layout rows) layout

-- ---- the equation

module _ {F E : Type 0} (fields : FieldsOps F E) (trace : TwoAdicCoset F) where
  -- The trace's domain, in the extension.
  abbrev pub trace_subgroup : Subgroup E
  trace_subgroup = subgroup_of fields.inverse fields.embed fields.root trace

  module _ (constraints : List (Constraint F)) where
    module _ (rows : OpenedRows F E) (zeta alpha quotient : E) where
      -- The preprocessed rows are of one width, and the folded constraint is Z_H(zeta) times the quotient.
      abbrev pub HoldsOnRows : Type 0
      HoldsOnRows = ConstraintsHold fields.base fields.ring fields.embed trace_subgroup constraints rows zeta alpha quotient

      -- Where the answer is an error, memory was wanting, or else it names the first of the two that fails.
      abbrev pub TellsFaultOnRows : {T X : Type 0} → Result T (VerificationError X) → Type 0
      TellsFaultOnRows answer = IfErrMemoryAside answer (ConstraintsFault fields.base fields.ring fields.embed trace_subgroup constraints rows zeta alpha quotient)

    -- The equation over rows at a point.
    module _ (rows : RowsAtPoint F E) (zeta alpha quotient : E) where
      abbrev pub HoldsAtPoint : Type 0
      HoldsAtPoint = HoldsOnRows (opened_rows rows) zeta alpha quotient

      abbrev pub TellsFaultAtPoint : {T X : Type 0} → Result T (VerificationError X) → Type 0
      TellsFaultAtPoint = TellsFaultOnRows (opened_rows rows) zeta alpha quotient
