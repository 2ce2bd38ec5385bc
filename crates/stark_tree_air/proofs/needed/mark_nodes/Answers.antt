use Rattle.std.proofs.Common.{◌≡◌, ◌∙◌, ap, arith, drop, length}
use Rattle.stark_tree_air.proofs.NeededSteps.{below_at, nodes_length, passed}
use Rattle.stark_tree_air.proofs.needed.mark_nodes.Goals as goal

pub mark_operands-requires : goal.mark_operands-requires
mark_operands-requires c =
    let long : length c.loop-place.marks ≡ length c.args.marks.now = ap length c.loop-place.invariant ∙ nodes_length c.args.marks.now c.loop-place.place (drop c.loop-place.place c.args.nodes.now) in
    below_at 0 c.args.nodes.now _ _ _ c.requires.below (omega arith) (omega arith)

pub loop-place-preserved : goal.loop-place-preserved
loop-place-preserved c = passed _ _ c.args.nodes.now c.loop-place.place _ (omega arith) (omega arith) c.loop-place.invariant c.if-marks-place.false
