-- What constraints are worth in one row, and what the builder that evaluates them there holds.
use Rattle.std.specs.Prelude.{List}
use Rattle.stark_support.specs.Ring.{RingOps}
use Rattle.stark_support.specs.Operations.{Operations, ring_operations}
use Rattle.stark_air.specs.Collecting.{Collected, collecting_laws}
use Rattle.stark_air.specs.Emission.{EmissionLaws}
use Rattle.stark_air.specs.Layout.{Layout}
use Rattle.stark_air.specs.Rows.{environment_of, layout_of}
use Rattle.stark_air.specs.Tree.{Constraint}
use Rattle.stark_air.specs.Value.{Environment, constraint_value, constraint_values}
use Rattle.stark_completeness.specs.declared.debug_builder.RowLeaves.{RowLeaves}
use Rattle.stark_completeness.specs.declared.debug_builder.DebugConstraintBuilder.{DebugConstraintBuilder}

module _ {F : Type 0} where
  -- How much of each kind a row has.
  abbrev pub row_layout : RowLeaves F → Layout
  row_layout row = layout_of row.main_current.now row.main_next.now row.preprocessed_current.now row.preprocessed_next.now row.public_values.now row.periodic_values.now

  abbrev pub debug_layout : DebugConstraintBuilder F → Layout
  debug_layout s = row_layout s.row

  module _ (ring : RingOps F) where
    -- The operations of the base field.
    abbrev pub row_operations : Operations F F
    row_operations = ring_operations ring (λ k. k)

    -- A row's leaves; past the ends stands zero.
    abbrev pub row_environment : RowLeaves F → Environment F
    row_environment row =
        environment_of row_operations ring.zero ring.zero row.main_current.now row.main_next.now row.preprocessed_current.now row.preprocessed_next.now row.public_values.now row.periodic_values.now row.is_first_row row.is_last_row row.is_transition

    -- The constraints' values over a row.
    abbrev pub values_over : RowLeaves F → List (Constraint F) → List F
    values_over row cs = constraint_values row_operations (row_environment row) cs

    abbrev pub debug_environment : DebugConstraintBuilder F → Environment F
    debug_environment s = row_environment s.row

    -- The row stays, and each constraint's value is kept, behind those before.
    abbrev pub after_debugging : DebugConstraintBuilder F → List (Constraint F) → DebugConstraintBuilder F → Type 0
    after_debugging = Collected (constraint_value row_operations) debug_environment debug_layout (λ s. s.values.items)

    pub debugging_laws : EmissionLaws debug_environment debug_layout after_debugging
    debugging_laws = collecting_laws (constraint_value row_operations) debug_environment debug_layout (λ s. s.values.items)
