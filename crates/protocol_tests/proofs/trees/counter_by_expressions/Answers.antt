use Rattle.std.proofs.Common.{◌∙◌, Some, ap, sym}
use Rattle.stark_symbolic.specs.Symbolic.{pair_stands}
use Rattle.stark_air.specs.Tree.{constant, difference, product}
use Rattle.protocol_tests.proofs.Spelled.{has_these, leaf_stands}
use Rattle.protocol_tests.proofs.trees.counter_by_expressions.Goals as goal

pub returns : goal.returns
returns c =
    let x = sym c.variable-x.ensures in
    let again = sym c.variable-again.ensures in
    let next = sym c.variable-next.ensures in
    let start = sym c.variable-start.ensures in
    let grown = pair_stands difference _ _ _ _ _ _ c.sub.ensures (leaf_stands next) (leaf_stands x) in
    let growth = pair_stands difference _ _ _ _ _ _ c.sub-growth.ensures grown (leaf_stands (sym (c.from.ensures ∙ ap (λ k. Some (constant k)) c.ONE.ensures))) in
    let offset = pair_stands difference _ _ _ _ _ _ c.sub-2.ensures (leaf_stands again) (leaf_stands start) in
    let starts = pair_stands product _ _ _ _ _ _ c.mul-starts.ensures (leaf_stands (sym c.is_first_row.ensures)) offset in
    let steps = pair_stands product _ _ _ _ _ _ c.mul-steps.ensures (leaf_stands (sym c.is_transition.ensures)) growth in
    record { constraints = has_these c.from_expressions.result _ _ (starts, (steps, tt)) c.from_expressions.ensures.constraints }
