use Rattle.std.proofs.Common.{◌≡◌, ◌-◌}
use Rattle.stark_proof_bytes.specs.Bytes.{behind, each_reading, list_ops}
use Rattle.stark_proof_bytes.proofs.lists.read_list.Given as goal

-- What was read, with what is left to read, is all that is read.
abbrev pub invariant-loop-place : goal.invariant-loop-place
invariant-loop-place g l =
    (list_ops g.T.BytesCodec.bytes).reading l.fn.reader ≡ behind l.values.items (each_reading g.T.BytesCodec.bytes (l.count - l._place) l.reader)
