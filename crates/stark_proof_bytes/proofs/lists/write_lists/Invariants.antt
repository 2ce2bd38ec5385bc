use Rattle.std.proofs.Common.{◌≡◌, ◌++◌, drop, length, map}
use Rattle.std.specs.Prelude.{flat_map}
use Rattle.std.specs.List.{list_all}
use Rattle.stark_support.specs.Seed.{number}
use Rattle.stark_merkle.specs.Tree.{items_of}
use Rattle.stark_proof_bytes.specs.Bytes.{list_ops}
use Rattle.stark_proof_bytes.proofs.lists.write_lists.Given as goal

-- What is written, with what is left to write, is all, and all fit where those that are left do.
abbrev pub invariant-loop-list : goal.invariant-loop-list
invariant-loop-list g l =
    let ops = list_ops g.T.BytesCodec.bytes in
    (l.out.items ++ flat_map ops.writing (map items_of (drop l.list-index l.lists)) ≡ l.fn.out.items ++ (number (length l.fn.lists) ++ flat_map ops.writing (map items_of l.fn.lists)))
    × (list_all ops.fits (map items_of (drop l.list-index l.lists)) ≡ list_all ops.fits (map items_of l.fn.lists))
