use Rattle.std.proofs.Common.{◌≡◌, ◌-◌}
use Rattle.stark_bench.specs.CommitmentJson.{matrices_list}
use Rattle.stark_proof_bytes.specs.Bytes.{behind, each_reading, list_ops}
use Rattle.stark_proof_bytes.specs.ClearBytes.{commitment_ops}
use Rattle.stark_proof_bytes.proofs.clear.read_matrices.Given as goal

-- What was read, with what is left to read, is all that is read.
abbrev pub invariant-loop-place : goal.invariant-loop-place
invariant-loop-place g l =
    (commitment_ops g.F.BytesCodec.bytes).reading l.fn.reader
    ≡ behind (matrices_list l.matrices.items) (each_reading (list_ops (list_ops g.F.BytesCodec.bytes)) (l.count - l._place) l.reader)
