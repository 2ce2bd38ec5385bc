use Rattle.std.proofs.Common.{◌∙◌, ◌<◌, ap, arith, get_or, length, refl, subst, sym}
use Rattle.std.proofs.lemmas.Bool.{false≢true}
use Rattle.stark_tree_air.specs.Windows.{WindowsShow}
use Rattle.stark_tree_air.specs.declared.evaluate.Windows.{Windows}
use Rattle.stark_tree_air.specs.declared.node.TreeNode.TheVariants.{Constant}
use Rattle.stark_tree_air.proofs.Steps.{at_place, nodes_start, nodes_step}
use Rattle.stark_tree_air.proofs.evaluate.node_values.Goals.{then-needed-place+in_ok-windows+else-is_refused+in_ok-push, else-needed-place+in_ok-push-2}
use Rattle.stark_tree_air.proofs.evaluate.node_values.Goals as goal

pub loop-place-init : goal.loop-place-init
loop-place-init g c = (nodes_start _ _ _ _ _ _ _ _ c.in_ok-values.ensures.items c.requires.fit c.requires.operands, (tt, tt))

pub loop-place-preserved : goal.loop-place-preserved
loop-place-preserved g c =
    let ns = c.args.nodes.now in
    let i = c.loop-place.place in
    let within : i < length ns = omega arith in
    let shown = λ (ws : Windows g.row.AB-MainWindow.Denot g.row.AB-PreprocessedWindow.Denot). WindowsShow g.AB.Expr.From-2.from_gives g.AB.Expr.Algebra.stands (g.AB.BaseAirBuilder.environment c.args.builder.now) (g.AB.BaseAirBuilder.layout c.args.builder.now) g.AB.MainWindow.WindowAccess.current_at g.AB.MainWindow.WindowAccess.next_at g.AB.PreprocessedWindow.WindowAccess.current_at g.AB.PreprocessedWindow.WindowAccess.next_at ws.main ws.preprocessed in
    elim c.if-needed-place.branch [
      | then-needed-place+in_ok-windows+else-is_refused+in_ok-push w ↦ (
        nodes_step _ _ _ _ _ _ ns i (get_or ns i (Constant 0)) _ within (at_place ns i _ _ within) c.loop-place.invariant.0 _ _ _ w.deref.ensures.value (ap (λ v. v.items) w.values-is ∙ w.in_ok-push.ensures.items)
            (λ ts standing operands needed. w.node_value-value.ensures c.args.needed.now ts standing operands),
        subst shown (sym w.windows-is) w.in_ok-windows.ensures.shown,
      )
      | else-needed-place+in_ok-push-2 w ↦ (
        nodes_step _ _ _ _ _ _ ns i (get_or ns i (Constant 0)) _ within (at_place ns i _ _ within) c.loop-place.invariant.0 c.loop-place.values.items _ _ refl (ap (λ v. v.items) w.values-is ∙ w.in_ok-push-2.ensures.items)
            (λ ts standing operands needed. absurd (false≢true (sym w.if-needed-place.false ∙ needed))),
        subst shown (sym w.windows-is) c.loop-place.invariant.1,
      )
    ]
