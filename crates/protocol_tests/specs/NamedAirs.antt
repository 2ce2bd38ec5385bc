-- What any AIR of the rows declares, and its constraints: those of the one that it holds.
use Rattle.std.specs.Prelude.{ℕ, List, [], Option, None, filter_map, length, map, refl}
use Rattle.std.proofs.Common.{arith}
use Rattle.stark_air.specs.Declaration.{IsDeclared, Trace}
use Rattle.stark_air.specs.Layout.{Layout, LeavesWithin}
use Rattle.stark_air.specs.Tree.{Constraint}
use Rattle.stark_samples.specs.AnySamples.{any_constraints, any_declared, any_layout, any_next_columns, any_periodic_columns, any_preprocessed_trace, any_within}
use Rattle.stark_samples.specs.Samples.{column_layout, cubic_constraints}
use Rattle.stark_samples.specs.SmallSamples.{asked_constraints, asked_within}
use Rattle.stark_tree_air.specs.Faults.{main_next_column, preprocessed_next_column, tree_layout}
use Rattle.stark_tree_air.specs.FaultFacts.{tree_air_declared, tree_air_within}
use Rattle.stark_tree_air.specs.Nodes.{spelled}
use Rattle.stark_tree_air.specs.Traces.{declared_trace}
use Rattle.protocol_tests.specs.DeclaringAirs.{column_if, counting_if, counting_within, declaring, declaring_layout, trace_of_width}
use Rattle.protocol_tests.specs.declared.kinds.NamedAir.{NamedAir}
use Rattle.protocol_tests.specs.declared.kinds.NamedAir.TheVariants.{Sample, Small, Bounded, Declaring, Tree}

abbrev pub named_periodic_columns : {F : Type 0} → NamedAir F → List (List F)
named_periodic_columns (Sample air) = any_periodic_columns air
named_periodic_columns (Small _) = []
named_periodic_columns (Bounded _) = []
named_periodic_columns (Declaring air) = map (λ column. column.items) air.periodic.items
named_periodic_columns (Tree air) = map (λ column. column.items) air.declaration.columns.periodic_columns.items

abbrev pub named_layout : {F : Type 0} → NamedAir F → Layout
named_layout (Sample air) = any_layout air
named_layout (Small _) = column_layout
named_layout (Bounded _) = column_layout
named_layout (Declaring air) = declaring_layout air.reads_next air.preprocessed air.reads_preprocessed_next (length (map (λ column. column.items) air.periodic.items))
named_layout (Tree air) = tree_layout air.declaration.columns air.list.nodes.items

abbrev pub named_preprocessed_trace : {F : Type 0} → (ℕ → F) → NamedAir F → Option (Trace F)
named_preprocessed_trace of_number (Sample air) = any_preprocessed_trace of_number air
named_preprocessed_trace of_number (Small _) = None
named_preprocessed_trace of_number (Bounded _) = None
named_preprocessed_trace of_number (Declaring air) = trace_of_width air.preprocessed
named_preprocessed_trace of_number (Tree air) = declared_trace air.declaration.columns.preprocessed_trace

abbrev pub named_next_columns : {F : Type 0} → NamedAir F → List ℕ
named_next_columns (Sample air) = any_next_columns air
named_next_columns (Small _) = []
named_next_columns (Bounded _) = []
named_next_columns (Declaring air) = column_if air.reads_next
named_next_columns (Tree air) = filter_map main_next_column air.list.nodes.items

abbrev pub named_preprocessed_next_columns : {F : Type 0} → NamedAir F → List ℕ
named_preprocessed_next_columns (Sample _) = []
named_preprocessed_next_columns (Small _) = []
named_preprocessed_next_columns (Bounded _) = []
named_preprocessed_next_columns (Declaring air) = column_if air.reads_preprocessed_next
named_preprocessed_next_columns (Tree air) = filter_map preprocessed_next_column air.list.nodes.items

abbrev pub named_degree_hint : {F : Type 0} → NamedAir F → Option ℕ
named_degree_hint (Sample _) = None
named_degree_hint (Small air) = air.max_degree
named_degree_hint (Bounded air) = air.hint
named_degree_hint (Declaring air) = air.hint
named_degree_hint (Tree air) = air.declaration.max_constraint_degree

abbrev pub named_num_constraints : {F : Type 0} → NamedAir F → Option ℕ
named_num_constraints (Sample _) = None
named_num_constraints (Small _) = None
named_num_constraints (Bounded _) = None
named_num_constraints (Declaring _) = None
named_num_constraints (Tree air) = air.declaration.num_constraints

pub named_declared : {F : Type 0} (of_number : ℕ → F) (air : NamedAir F)
    → IsDeclared (named_layout air) (named_preprocessed_trace of_number air) (named_periodic_columns air) (named_next_columns air) (named_preprocessed_next_columns air)
named_declared of_number (Sample air) = any_declared of_number air
named_declared of_number (Small _) = record { preprocessed_width = refl; periodic_columns = refl; main_next_row = refl; preprocessed_next_row = refl }
named_declared of_number (Bounded _) = record { preprocessed_width = refl; periodic_columns = refl; main_next_row = refl; preprocessed_next_row = refl }
named_declared of_number (Declaring air) = declaring air.reads_next air.preprocessed air.reads_preprocessed_next _
named_declared of_number (Tree air) = tree_air_declared air.declaration.columns air.list.nodes.items

abbrev pub named_constraints : {F : Type 0} → F → (ℕ → F) → NamedAir F → List (Constraint F)
named_constraints one of_number (Sample air) = any_constraints one air
named_constraints one of_number (Small air) = asked_constraints one of_number air.asked
named_constraints one of_number (Bounded _) = cubic_constraints
named_constraints one of_number (Declaring air) = counting_if one air.reads_next
named_constraints one of_number (Tree air) = spelled air.list.constants.items air.list.nodes.items air.list.constraints.items

pub named_within : {F : Type 0} (one : F) (of_number : ℕ → F) (air : NamedAir F) → LeavesWithin (named_layout air) (named_constraints one of_number air)
named_within one of_number (Sample air) = any_within one air
named_within one of_number (Small air) = asked_within one of_number air.asked
named_within one of_number (Bounded _) = (((omega arith, omega arith), omega arith), tt)
named_within {F = F} one of_number (Declaring air) = counting_within F one air.reads_next air.preprocessed air.reads_preprocessed_next _
named_within one of_number (Tree air) = tree_air_within air.declaration.columns air.list.constants.items air.list.nodes.items air.list.constraints.items air.without_fault
