-- Named constraints that read outside the columns.
use Rattle.std.specs.Prelude.{ℕ, List, [], ◌∷◌, length, Option, None, Some, if◌then◌else◌, ◌≡◌, IfSome, MatchResult, Result}
use Rattle.stark_air.specs.Layout.{Layout}
use Rattle.stark_tree_air.specs.Writing.{constraint_within}
use Rattle.stark_tree_air.specs.declared.error.TreeExpressionError.{TreeExpressionError}
use Rattle.stark_tree_air.specs.declared.error.TreeExpressionError.TheVariants.{LeafOutside, OutOfMemory}
use Rattle.stark_tree_air.specs.declared.expression.NamedConstraint.{NamedConstraint}
use Rattle.stark_tree_air.specs.declared.columns.TreeColumns.{TreeColumns}
use Rattle.stark_air.specs.Declaration.{trace_width}
use Rattle.stark_tree_air.specs.Traces.{declared_trace}

-- All columns in both rows, and the values.
abbrev pub columns_layout : {F : Type 0} → TreeColumns F → Layout
columns_layout columns =
    let preprocessed = trace_width (declared_trace columns.preprocessed_trace) in
    record {
      main = columns.width;
      main_next = columns.width;
      preprocessed = preprocessed;
      preprocessed_next = preprocessed;
      public_values = columns.num_public_values;
      periodics = length columns.periodic_columns.items;
    }

-- The name of the first constraint that reads outside a layout.
abbrev pub first_outside : {F : Type 0} → Layout → List (NamedConstraint F) → Option (List ℕ)
first_outside l [] = None
first_outside l (c ∷ cs) = (if constraint_within l c.constraint then first_outside l cs else Some c.name.now)

-- The name in an error; want of memory has none.
abbrev pub named : TreeExpressionError → Option (List ℕ)
named (LeafOutside name) = Some name.now
named OutOfMemory = None

-- The AIR is made where no constraint reads outside; else the error names the first that does, if it names one.
abbrev pub NamesOutside : {T N : Type 0} → (TreeExpressionError → Option N) → Option N → Result T TreeExpressionError → Type 0
NamesOutside name_in outside result = MatchResult result (λ _. outside ≡ None) (λ e. IfSome (name_in e) (λ name. outside ≡ Some name))
