use Rattle.std.proofs.Common.{◌∙◌, Some, ap, sym}
use Rattle.stark_symbolic.specs.Symbolic.{pair_stands}
use Rattle.stark_air.specs.Tree.{constant, difference}
use Rattle.protocol_tests.proofs.Spelled.{has_these, leaf_stands}
use Rattle.protocol_tests.proofs.trees.mixed_by_expressions.Goals as goal

pub returns : goal.returns
returns c =
    let one = leaf_stands (sym (c.from.ensures ∙ ap (λ k. Some (constant k)) c.from_u8.ensures)) in
    let two = leaf_stands (sym (c.from-2.ensures ∙ ap (λ k. Some (constant k)) c.from_u8-2.ensures)) in
    let three = leaf_stands (sym (c.from-3.ensures ∙ ap (λ k. Some (constant k)) c.from_u8-3.ensures)) in
    let is_one = pair_stands difference _ _ _ _ _ _ c.sub-one.ensures (leaf_stands (sym c.variable-x.ensures)) one in
    let is_two = pair_stands difference _ _ _ _ _ _ c.sub-two.ensures (leaf_stands (sym c.variable-again.ensures)) two in
    let is_three = pair_stands difference _ _ _ _ _ _ c.sub-three.ensures (leaf_stands (sym c.variable-third.ensures)) three in
    record { constraints = has_these c.from_expressions.result _ _ (is_one, (is_two, (is_three, tt))) c.from_expressions.ensures.constraints }
