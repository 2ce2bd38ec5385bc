use Rattle.std.proofs.Common.{◌≡◌, ◌+◌, drop}
use Rattle.stark_statement.specs.Limits.{items_of, lengths_of}
use Rattle.stark_statement.proofs.limits.left_behind.Given as goal

-- The limit is what is left and the lists before this one.
abbrev pub invariant-loop-list : goal.invariant-loop-list
invariant-loop-list g l = l.fn.limit + lengths_of (items_of (drop l.list-index l.lists)) ≡ l.left + lengths_of (items_of l.lists)
