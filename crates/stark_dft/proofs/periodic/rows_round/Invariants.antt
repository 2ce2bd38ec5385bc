use Rattle.std.proofs.Common.{◌≡◌, ◌%◌, ◌++◌, drop, length, map}
use Rattle.stark_dft.specs.Columns.{column_list}
use Rattle.stark_dft.specs.Passes.{entry}
use Rattle.stark_dft.specs.Repeated.{AreRowsOf, row_round}
use Rattle.stark_dft.proofs.periodic.rows_round.Given as goal

abbrev pub invariant-loop-row : goal.invariant-loop-row
invariant-loop-row g l = AreRowsOf (length l.lists) (row_round g.F.Field.ring (map column_list l.lists)) l.row l.rows.items

abbrev pub invariant-loop-list : goal.invariant-loop-list
invariant-loop-list g l =
    l.rows.items ++ map (λ list. entry g.F.Field.ring list.items (l.row % length list.items)) (drop l.list-index l.lists)
    ≡ l.initial.rows.items ++ map (λ list. entry g.F.Field.ring list.items (l.row % length list.items)) l.lists
