use Rattle.std.proofs.Common.{◌≡◌, ◌==◌, length, map, take, true}
use Rattle.std.specs.List.{flat_map, list_all}
use Rattle.stark_trace_json.proofs.tree.rows_of_lists.Given as goal

abbrev pub invariant-loop-row : goal.invariant-loop-row
invariant-loop-row g l = record {
  values : l.values.items ≡ flat_map (λ row. row) (take l.row (map (λ list. list.items) l.lists));
  even : list_all (λ row. length row == l.width) (take l.row (map (λ list. list.items) l.lists)) ≡ true;
}
