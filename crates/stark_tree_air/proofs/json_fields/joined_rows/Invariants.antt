use Rattle.std.proofs.Common.{◌≡◌, ◌*◌, drop, length, map}
use Rattle.stark_tree_air.specs.TreeJson.{joined_rows}
use Rattle.stark_tree_air.proofs.JsonSteps.{with_values}
use Rattle.stark_tree_air.proofs.json_fields.joined_rows.Given as goal

abbrev pub invariant-loop-place : goal.invariant-loop-place
invariant-loop-place g l = record {
  joined : with_values l.values.items (joined_rows l.width l.place (map (λ row. row.items) (drop l.place l.rows))) ≡ joined_rows l.width 0 (map (λ row. row.items) l.rows);
  many : length l.values.items ≡ l.place * l.width;
}
