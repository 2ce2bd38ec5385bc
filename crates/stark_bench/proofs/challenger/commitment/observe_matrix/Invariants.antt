use Rattle.std.proofs.Common.{◌≡◌, drop, map}
use Rattle.std.specs.List.{flat_map}
use Rattle.stark_support.specs.Sponge.{observed_all}
use Rattle.stark_bench.specs.Challenges.{column_elements, matrix_elements}
use Rattle.stark_bench.proofs.challenger.commitment.observe_matrix.Given as goal

-- What is left to observe, observed from here, gives what all of it gives from the start.
abbrev pub invariant-loop-column : goal.invariant-loop-column
invariant-loop-column g l =
    observed_all g.C.CanObserve.after_observe (flat_map (column_elements g.F.PrimeField64.of_number) (map (λ column. column.items) (drop l.column-index l.columns))) l.challenger
    ≡ observed_all g.C.CanObserve.after_observe (matrix_elements g.F.PrimeField64.of_number (map (λ column. column.items) l.fn.columns)) l.fn.challenger
