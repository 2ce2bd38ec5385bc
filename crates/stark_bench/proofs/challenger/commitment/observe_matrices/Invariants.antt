use Rattle.std.proofs.Common.{◌≡◌, drop, map}
use Rattle.std.specs.List.{flat_map}
use Rattle.stark_support.specs.Sponge.{observed_all}
use Rattle.stark_bench.specs.Challenges.{matrix_elements, commitment_elements}
use Rattle.stark_bench.proofs.challenger.commitment.observe_matrices.Given as goal

-- What is left to observe, observed from here, gives what all of it gives from the start.
abbrev pub invariant-loop-matrix : goal.invariant-loop-matrix
invariant-loop-matrix g l =
    observed_all g.C.CanObserve.after_observe (flat_map (matrix_elements g.F.PrimeField64.of_number) (map (λ matrix. map (λ column. column.items) matrix.items) (drop l.matrix-index l.matrices))) l.challenger
    ≡ observed_all g.C.CanObserve.after_observe (commitment_elements g.F.PrimeField64.of_number (map (λ matrix. map (λ column. column.items) matrix.items) l.fn.matrices)) l.fn.challenger
