-- The row that the symbolic builder shows, and what it holds after constraints were asserted.
use Rattle.std.specs.Prelude.{List, Option}
use Rattle.stark_support.specs.Ring.{RingOps}
use Rattle.stark_air.specs.Tree.{Tree, Constraint}
use Rattle.stark_air.specs.Layout.{Layout}
use Rattle.stark_air.specs.Value.{Environment}
use Rattle.stark_air.specs.Emission.{EmissionLaws}
use Rattle.stark_symbolic.specs.Symbolic.{symbolic_operations}
use Rattle.stark_air.specs.Collecting.{Collected, collecting_laws}
use Rattle.stark_air.specs.SymbolicLayout.{rows_layout}
use Rattle.stark_symbolic.specs.SymbolicRow.{row_environment}
use Rattle.stark_symbolic.specs.SymbolicTrees.{marked_value}
use Rattle.stark_symbolic.specs.declared.builder.SymbolicAirBuilder.{SymbolicAirBuilder}

module _ {F : Type 0} {G : Type 0} where
  abbrev pub builder_environment : SymbolicAirBuilder F G → Environment (Option (Tree F))
  builder_environment s = row_environment s.public_values.items s.periodic_values.items

  abbrev pub builder_layout : SymbolicAirBuilder F G → Layout
  builder_layout s = rows_layout s.layout s.public_values.items s.periodic_values.items

  -- The row stays, and each constraint's value is kept, with its mark, behind those before.
  abbrev pub after_asserting : RingOps F → SymbolicAirBuilder F G → List (Constraint F) → SymbolicAirBuilder F G → Type 0
  after_asserting ring = Collected (marked_value (symbolic_operations ring)) builder_environment builder_layout (λ s. s.constraints.items)

  pub asserting_laws : (ring : RingOps F) → EmissionLaws builder_environment builder_layout (after_asserting ring)
  asserting_laws ring = collecting_laws (marked_value (symbolic_operations ring)) builder_environment builder_layout (λ s. s.constraints.items)
