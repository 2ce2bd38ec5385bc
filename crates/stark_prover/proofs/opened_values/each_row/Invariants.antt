use Rattle.std.proofs.Common.{◌≡◌, [], ◌∷◌, ◌++◌, map, length}
use Rattle.std.specs.List.{AllByRecursion}
use Rattle.std.specs.Vec.Iter.{into_iter_items}
use Rattle.stark_prover.proofs.opened_values.each_row.Given as goal

abbrev pub invariant-loop-matrix : goal.invariant-loop-matrix
invariant-loop-matrix g l = record {
  single : AllByRecursion (λ m. length m.items ≡ 1) (into_iter_items l.matrix-iterator);
  kept : map (λ row. row ∷ []) l.rows.items ++ map (λ m. m.items) (into_iter_items l.matrix-iterator) ≡ map (λ m. m.items) l.fn.matrices.items;
}
