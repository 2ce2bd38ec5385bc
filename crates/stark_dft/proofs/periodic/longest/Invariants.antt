use Rattle.std.proofs.Common.{◌≡◌, ◌<◌, ◌≤◌, ℕ, List, Some, length, map}
use Rattle.std.specs.Int.{IsPowerOfTwo}
use Rattle.std.specs.List.{slice_get}
use Rattle.stark_dft.specs.Columns.{column_list}
use Rattle.stark_dft.proofs.periodic.longest.Given as goal

abbrev pub invariant-loop-list : goal.invariant-loop-list
invariant-loop-list g l =
    IsPowerOfTwo l.longest
    × ((c : ℕ) (list : List g.row.F.Denot) → c < l.list-index → slice_get (map column_list l.lists) c ≡ Some list → length list ≤ l.longest)
