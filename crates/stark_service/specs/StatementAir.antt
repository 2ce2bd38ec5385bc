-- AIRs that are data, and what each declares.
use Rattle.std.specs.Prelude.{filter_map}
use Rattle.stark_tree_air.specs.Faults.{main_next_column, preprocessed_next_column}
use Rattle.stark_tree_air.specs.Nodes.{spelled}
use Rattle.stark_tree_air.specs.TreeJson.{AirView, view_layout}
use Rattle.stark_answers.specs.CheckedAir.{CheckedAir, checked_air}

-- what it declares of itself, and its constraints
unfoldable pub declared_of : {F : Type 0} → AirView F → CheckedAir F
declared_of air = checked_air
    (view_layout air.columns air.list.nodes)
    (filter_map main_next_column air.list.nodes)
    air.columns.periodic
    air.degree
    (spelled air.list.constants air.list.nodes air.list.constraints)
    air.columns.preprocessed
    (filter_map preprocessed_next_column air.list.nodes)
