use Rattle.std.proofs.Common.{◌≡◌, ◌-◌, map}
use Rattle.stark_merkle.specs.Tree.{items_of}
use Rattle.stark_proof_bytes.specs.Bytes.{behind, each_reading, list_ops}
use Rattle.stark_proof_bytes.proofs.lists.read_lists.Given as goal

-- What was read, with what is left to read, is all that is read.
abbrev pub invariant-loop-place : goal.invariant-loop-place
invariant-loop-place g l =
    (list_ops (list_ops g.T.BytesCodec.bytes)).reading l.fn.reader ≡ behind (map items_of l.lists.items) (each_reading (list_ops g.T.BytesCodec.bytes) (l.count - l._place) l.reader)
