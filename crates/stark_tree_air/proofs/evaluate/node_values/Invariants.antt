use Rattle.stark_tree_air.specs.Windows.{WindowsShow}
use Rattle.stark_tree_air.proofs.Steps.{NodesBegun}
use Rattle.stark_tree_air.proofs.evaluate.node_values.Given as goal

abbrev pub invariant-loop-place : goal.invariant-loop-place
invariant-loop-place g l =
    NodesBegun g.AB.Expr.Algebra.stands g.AB.Expr.Algebra.operations (g.AB.BaseAirBuilder.environment l.builder) (g.AB.BaseAirBuilder.layout l.builder) l.needed l.constants l.nodes l.place l.values.items
    × WindowsShow g.AB.Expr.From-2.from_gives g.AB.Expr.Algebra.stands (g.AB.BaseAirBuilder.environment l.builder) (g.AB.BaseAirBuilder.layout l.builder) g.AB.MainWindow.WindowAccess.current_at g.AB.MainWindow.WindowAccess.next_at g.AB.PreprocessedWindow.WindowAccess.current_at g.AB.PreprocessedWindow.WindowAccess.next_at l.windows.main l.windows.preprocessed
