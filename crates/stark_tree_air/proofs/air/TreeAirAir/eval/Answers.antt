use Rattle.std.proofs.Common.{◌≡◌, ◌∙◌, ◌<◌, ap, arith, get_or, length, sym, subst}
use Rattle.stark_air.specs.Emission.{Asserted}
use Rattle.stark_tree_air.specs.FaultFacts.{all_fit, covered_nodes}
use Rattle.stark_tree_air.specs.Faults.{tree_layout}
use Rattle.stark_tree_air.specs.Needed.{ConstraintsMarked, NodesMarked, needed}
use Rattle.stark_tree_air.specs.Nodes.{NodesFit, ConstraintsFit, spelled}
use Rattle.stark_tree_air.specs.declared.node.TreeConstraint.TheVariants.{Base}
use Rattle.stark_tree_air.proofs.NeededSteps.{both_fit, needed_asserted, needed_closed, needed_length}
use Rattle.stark_tree_air.proofs.SpelledSteps.{none_asserted, same_standing, spelled_none, spelled_one, spelled_some}
use Rattle.stark_tree_air.proofs.Steps.{at_place, nodes_length}
use Rattle.stark_tree_air.proofs.air.TreeAirAir.eval.Goals as goal

pub needed-requires-clause-below : goal.needed-requires-clause-below
needed-requires-clause-below g c =
    let air = c.args.self.now in
    let fit = all_fit air.declaration.columns air.list.constants.items air.list.nodes.items air.list.constraints.items air.without_fault in
    (both_fit _ _ _ _ _ _ c.as_slice-nodes.ensures.value c.as_slice-constraints.ensures.value fit).0

pub needed-requires-clause-fit : goal.needed-requires-clause-fit
needed-requires-clause-fit g c =
    let air = c.args.self.now in
    let fit = all_fit air.declaration.columns air.list.constants.items air.list.nodes.items air.list.constraints.items air.without_fault in
    (both_fit _ _ _ _ _ _ c.as_slice-nodes.ensures.value c.as_slice-constraints.ensures.value fit).1

pub node_values-requires-clause-fit : goal.node_values-requires-clause-fit
node_values-requires-clause-fit g c =
    let air = c.args.self.now in
    let columns = air.declaration.columns in
    let have = g.AB.BaseAirBuilder.layout c.args.builder.now in
    let ks = air.list.constants.items in
    let ns = air.list.nodes.items in
    subst (λ js. NodesFit have (length js) 0 c.as_slice-nodes.result.now) (sym c.deref.ensures.value)
    (subst (λ js. NodesFit have (length ks) 0 js) (sym c.as_slice-nodes.ensures.value)
    (covered_nodes have (tree_layout columns ns) (length ks) 0 ns c.requires (all_fit columns ks ns air.list.constraints.items air.without_fault).0))

pub node_values-requires-clause-operands : goal.node_values-requires-clause-operands
node_values-requires-clause-operands g c =
    let air = c.args.self.now in
    let ns = c.as_slice-nodes.result.now in
    let cs = c.as_slice-constraints.result.now in
    let fit = all_fit air.declaration.columns air.list.constants.items air.list.nodes.items air.list.constraints.items air.without_fault in
    let marks : c.deref-2.result.now ≡ needed ns cs = c.deref-2.ensures.value ∙ c.in_ok-needed.ensures in
    subst (λ ms. NodesMarked ms 0 ns) (sym marks) (needed_closed ns cs (both_fit _ _ _ _ _ _ c.as_slice-nodes.ensures.value c.as_slice-constraints.ensures.value fit).0)

pub node_values-requires-clause-as_many : goal.node_values-requires-clause-as_many
node_values-requires-clause-as_many g c =
    let ns = c.as_slice-nodes.result.now in
    let cs = c.as_slice-constraints.result.now in
    ap length (c.deref-2.ensures.value ∙ c.in_ok-needed.ensures) ∙ needed_length ns cs

pub returns-in_err-needed-clause-asserted : goal.returns-in_err-needed-clause-asserted
returns-in_err-needed-clause-asserted g c = none_asserted g.met.AB.BaseAirBuilder.emission_laws _ c.args.builder.now _ c.from_residual.ensures.0

pub returns-in_err-values-clause-asserted : goal.returns-in_err-values-clause-asserted
returns-in_err-values-clause-asserted g c = none_asserted g.met.AB.BaseAirBuilder.emission_laws _ c.args.builder.now _ c.from_residual-in_err-values.ensures.0

pub loop-constraint-init : goal.loop-constraint-init
loop-constraint-init g c =
    let air = c.args.self.now in
    let ns = c.as_slice-nodes.result.now in
    let cs = c.as_slice-constraints.result.now in
    let xs = c.in_ok-values.values.items in
    let fit = (both_fit _ _ _ _ _ _ c.as_slice-nodes.ensures.value c.as_slice-constraints.ensures.value (all_fit air.declaration.columns air.list.constants.items air.list.nodes.items air.list.constraints.items air.without_fault)).1 in
    let many : length xs ≡ length ns = nodes_length _ _ _ c.deref-2.result.now c.deref.result.now ns xs c.in_ok-values.ensures in (
      spelled_none g.met.AB.BaseAirBuilder.emission_laws g.AB.Expr.Algebra.stands g.AB.Expr.Algebra.operations air.list.constants.items air.list.nodes.items cs c.in_ok-needed.needed.items xs c.args.builder.now
          (same_standing _ _ _ c.deref-2.result.now _ c.deref.result.now _ ns _ xs c.deref-2.ensures.value c.deref.ensures.value c.as_slice-nodes.ensures.value c.in_ok-values.ensures)
          (subst (λ n. ConstraintsFit n cs) (sym many) fit) (subst (λ js. ConstraintsMarked js cs) (sym c.in_ok-needed.ensures) (needed_asserted ns cs fit)),
      c.as_slice-constraints.ensures.value,
    )

pub returns-in_err-assert_constraint-clause-asserted : goal.returns-in_err-assert_constraint-clause-asserted
returns-in_err-assert_constraint-clause-asserted g c =
    let list = c.args.self.now.list in
    subst (λ cs. Asserted g.AB.BaseAirBuilder.after c.from_residual-in_err-assert_constraint.result c.args.builder.now (spelled list.constants.items list.nodes.items cs) c.assert_constraint.new.builder) c.loop-constraint.invariant.1
    (spelled_some g.met.AB.BaseAirBuilder.emission_laws _ _ _ _ _ _ _ c.args.builder.now c.loop-constraint.constraint-index c.loop-constraint.builder c.loop-constraint.invariant.0 _ _ c.from_residual-in_err-assert_constraint.ensures.0 c.in_err-assert_constraint.ensures.refused)

pub loop-constraint-preserved : goal.loop-constraint-preserved
loop-constraint-preserved g c =
    let cs = c.as_slice-constraints.result.now in
    let i = c.loop-constraint.constraint-index in
    let within : i < length cs = omega arith in (
      spelled_one g.met.AB.BaseAirBuilder.emission_laws _ _ _ _ _ _ _ c.args.builder.now i c.loop-constraint.builder c.loop-constraint.invariant.0 (get_or cs i (Base 0)) within (at_place cs i _ _ within)
          c.deref-in-loop-constraint.result.now c.constraint_place.result c.operand-x.result c.assert_constraint.new.builder c.deref-in-loop-constraint.ensures.value c.constraint_place.ensures c.operand-x.ensures
          c.in_ok-assert_constraint.ensures.asserted c.assert_constraint.ensures.same_environment,
      c.loop-constraint.invariant.1,
    )
