-- AIRs of columns and lists.
use Rattle.std.specs.Prelude.{List, None}
use Rattle.stark_tree_air.specs.TreeJson.{AirView, ColumnsView}
use Rattle.stark_tree_air.specs.declared.node.TreeNode.{TreeNode}
use Rattle.stark_tree_air.specs.declared.node.TreeConstraint.{TreeConstraint}
use Rattle.stark_commands.specs.Input.{Base}

-- The AIR of columns and lists whose author says nothing of the constraints.
abbrev pub view_of_lists : ColumnsView Base → List Base → List TreeNode → List TreeConstraint → AirView Base
view_of_lists columns constants nodes constraints = record {
  columns = columns;
  degree = None;
  count = None;
  list = record { constants = constants; nodes = nodes; constraints = constraints };
}
