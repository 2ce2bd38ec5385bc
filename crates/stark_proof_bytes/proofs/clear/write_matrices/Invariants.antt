use Rattle.std.proofs.Common.{◌≡◌, ◌++◌, drop, length}
use Rattle.std.specs.Prelude.{flat_map}
use Rattle.std.specs.List.{list_all}
use Rattle.stark_support.specs.Seed.{number}
use Rattle.stark_bench.specs.CommitmentJson.{matrices_list}
use Rattle.stark_proof_bytes.specs.Bytes.{list_ops}
use Rattle.stark_proof_bytes.proofs.clear.write_matrices.Given as goal

-- What is written, with what is left to write, is all, and all fit where those that are left do.
abbrev pub invariant-loop-matrix : goal.invariant-loop-matrix
invariant-loop-matrix g l =
    let ops = list_ops (list_ops g.F.BytesCodec.bytes) in
    (l.out.items ++ flat_map ops.writing (matrices_list (drop l.matrix-index l.matrices)) ≡ l.fn.out.items ++ (number (length l.fn.matrices) ++ flat_map ops.writing (matrices_list l.fn.matrices)))
    × (list_all ops.fits (matrices_list (drop l.matrix-index l.matrices)) ≡ list_all ops.fits (matrices_list l.fn.matrices))
