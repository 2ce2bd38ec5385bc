use Rattle.std.proofs.Common.{◌≡◌, ◌++◌, drop}
use Rattle.stark_support.specs.Seed.{items_bytes}
use Rattle.stark_support.proofs.pattern.push_items.Given as goal

-- What is written, with what is left to write, is all.
abbrev pub invariant-loop-item : goal.invariant-loop-item
invariant-loop-item l = l.bytes.items ++ items_bytes (drop l.item-index l.items) ≡ l.fn.bytes.items ++ items_bytes l.fn.items
