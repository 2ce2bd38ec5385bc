use Rattle.std.proofs.Common.{◌≡◌, ◌++◌, drop, length}
use Rattle.std.specs.Prelude.{flat_map}
use Rattle.std.specs.List.{list_all}
use Rattle.stark_support.specs.Seed.{number}
use Rattle.stark_proof_bytes.proofs.lists.write_list.Given as goal

-- What is written, with what is left to write, is all, and all fit where those that are left do.
abbrev pub invariant-loop-item : goal.invariant-loop-item
invariant-loop-item g l =
    (l.out.items ++ flat_map g.T.BytesCodec.bytes.writing (drop l.item-index l.items) ≡ l.fn.out.items ++ (number (length l.fn.items) ++ flat_map g.T.BytesCodec.bytes.writing l.fn.items))
    × (list_all g.T.BytesCodec.bytes.fits (drop l.item-index l.items) ≡ list_all g.T.BytesCodec.bytes.fits l.fn.items)
