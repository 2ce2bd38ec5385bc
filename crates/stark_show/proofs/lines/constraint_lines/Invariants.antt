use Rattle.std.proofs.Common.{◌≡◌, ◌++◌, drop, length, map, string_bytes}
use Rattle.stark_show.specs.Expressions.{phrase_view}
use Rattle.stark_show.specs.Lines.{constraint_lines}
use Rattle.stark_tree_air.specs.Nodes.{ConstraintsFit}
use Rattle.stark_show.proofs.lines.constraint_lines.Given as goal

abbrev pub invariant-loop-number : goal.invariant-loop-number
invariant-loop-number l =
    (string_bytes l.lines ++ constraint_lines (map phrase_view l.phrases) l.degrees l.number (drop l.number l.constraints) ≡ constraint_lines (map phrase_view l.phrases) l.degrees 0 l.constraints)
    × ConstraintsFit (length l.phrases) (drop l.number l.constraints)
    × ConstraintsFit (length l.degrees) (drop l.number l.constraints)
