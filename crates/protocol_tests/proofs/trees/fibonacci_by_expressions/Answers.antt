use Rattle.std.proofs.Common.{sym}
use Rattle.stark_symbolic.specs.Symbolic.{pair_stands}
use Rattle.stark_air.specs.Tree.{difference, product, sum}
use Rattle.protocol_tests.proofs.Spelled.{has_these, leaf_stands}
use Rattle.protocol_tests.proofs.trees.fibonacci_by_expressions.Goals as goal

pub returns : goal.returns
returns c =
    let left = pair_stands difference _ _ _ _ _ _ c.sub-left.ensures (leaf_stands (sym c.current.ensures)) (leaf_stands (sym c.public.ensures)) in
    let right = pair_stands difference _ _ _ _ _ _ c.sub-right.ensures (leaf_stands (sym c.current-2.ensures)) (leaf_stands (sym c.public-2.ensures)) in
    let moved = pair_stands difference _ _ _ _ _ _ c.sub-moved.ensures (leaf_stands (sym c.next.ensures)) (leaf_stands (sym c.current-3.ensures)) in
    let both = pair_stands sum _ _ _ _ _ _ c.add.ensures (leaf_stands (sym c.current-4.ensures)) (leaf_stands (sym c.current-5.ensures)) in
    let added = pair_stands difference _ _ _ _ _ _ c.sub-added.ensures (leaf_stands (sym c.next-2.ensures)) both in
    let ended = pair_stands difference _ _ _ _ _ _ c.sub-ended.ensures (leaf_stands (sym c.current-6.ensures)) (leaf_stands (sym c.public-3.ensures)) in
    let starts_left = pair_stands product _ _ _ _ _ _ c.mul-starts_left.ensures (leaf_stands (sym c.is_first_row.ensures)) left in
    let starts_right = pair_stands product _ _ _ _ _ _ c.mul-starts_right.ensures (leaf_stands (sym c.is_first_row-2.ensures)) right in
    let moves = pair_stands product _ _ _ _ _ _ c.mul-moves.ensures (leaf_stands (sym c.is_transition.ensures)) moved in
    let adds = pair_stands product _ _ _ _ _ _ c.mul-adds.ensures (leaf_stands (sym c.is_transition-2.ensures)) added in
    let ends = pair_stands product _ _ _ _ _ _ c.mul-ends.ensures (leaf_stands (sym c.is_last_row.ensures)) ended in
    record { constraints = has_these c.from_expressions.result _ _ (starts_left, (starts_right, (moves, (adds, (ends, tt))))) c.from_expressions.ensures.constraints }
