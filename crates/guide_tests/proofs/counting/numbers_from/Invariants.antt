use Rattle.std.proofs.Common.{◌≡◌, ◌++◌, ◌-◌}
use Rattle.guide_tests.specs.Counting.{count_at, counted_from}
use Rattle.guide_tests.proofs.counting.numbers_from.Given as goal

abbrev pub invariant-loop-index : goal.invariant-loop-index
invariant-loop-index g l =
    (l.numbers.items ++ counted_from g.F.Field.ring l.fn.start l._index (l.count - l._index) ≡ counted_from g.F.Field.ring l.fn.start 0 l.count)
    × (l.number ≡ count_at g.F.Field.ring l.fn.start l._index)
