-- What a check finds of a point that is given in memory.
use Rattle.std.specs.Prelude.{◌≡◌, ◌≢◌, ℕ, List, length}
use Rattle.stark_support.specs.Coset.{TwoAdicCoset, vanishing_at}
use Rattle.stark_support.specs.FieldPair.{FieldsOps}
use Rattle.stark_support.specs.Subgroup.{subgroup_of}
use Rattle.stark_support.specs.declared.periodic.PeriodicColumns.{PeriodicColumns}
use Rattle.stark_air.specs.Layout.{Covers, Layout}
use Rattle.stark_air.specs.Tree.{Constraint}
use Rattle.stark_protocol.specs.Equation.{OpenedRows, opened_layout}
use Rattle.stark_answers.specs.declared.verdict.Verdict.{Verdict}
use Rattle.stark_commands.specs.Point.{EquationVerdict, PointVerdict}
use Rattle.stark_commands.specs.declared.point.OpenedPoint.{OpenedPoint}
use Rattle.stark_commands.specs.declared.point.PointDomains.{PointDomains}

module _ {F E : Type 0} (opened : OpenedPoint F E) where
  -- Its rows, with these values of the periodic columns.
  abbrev pub rows_with : List E → OpenedRows F E
  rows_with periodic = record {
    local = opened.local.now;
    next = opened.next.now;
    preprocessed_local = opened.preprocessed_local.now;
    preprocessed_next = opened.preprocessed_next.now;
    periodic = periodic;
    public_values = opened.public_values.now;
  }

  -- They are as wide as an AIR of this layout asks; and with any values of so many periodic columns.
  abbrev pub RowsCover : List E → Layout → Type 0
  RowsCover periodic layout = Covers (opened_layout (rows_with periodic)) layout

  abbrev pub CoverRows : ℕ → Layout → Type 0
  CoverRows count layout = (periodic : List E) → length periodic ≡ count → RowsCover periodic layout

module _ {F E : Type 0} (fields : FieldsOps F E) where
  -- The point is none of the coset's.
  abbrev pub LiesOutside : TwoAdicCoset F → OpenedPoint F E → Type 0
  LiesOutside coset opened = vanishing_at fields.ring fields.inverse fields.embed coset opened.zeta ≢ fields.ring.zero

  -- The verdict on the equation of the opened rows, with these values of the periodic columns and of the quotient.
  abbrev pub TellsQuotient : TwoAdicCoset F → List (Constraint F) → OpenedPoint F E → List E → E → Verdict → Type 0
  TellsQuotient coset constraints opened periodic quotient verdict =
      EquationVerdict fields.base fields.ring fields.embed (subgroup_of fields.inverse fields.embed fields.root coset) constraints (rows_with opened periodic) opened.zeta opened.alpha quotient verdict

  -- What the equation tells, where periodic columns and chunks are first taken at the point.
  abbrev pub TellsPoint : {D : Type 0} → (D → TwoAdicCoset F) → PointDomains D → List (Constraint F) → PeriodicColumns F → OpenedPoint F E → Verdict → Type 0
  TellsPoint coset_of domains constraints columns opened verdict =
      PointVerdict fields.base fields.base_inverse fields.root fields.ring fields.inverse fields.embed fields.basis (coset_of domains.trace) (coset_of domains.quotient) domains.log_chunks constraints
      (λ column. column.items) columns.columns.now (λ chunk. chunk.items) opened.chunks.now (rows_with opened) opened.zeta opened.alpha verdict
