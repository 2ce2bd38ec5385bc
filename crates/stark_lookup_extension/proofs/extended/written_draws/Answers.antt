use Rattle.std.proofs.Common.{◌≡◌, ◌∙◌, ◌+◌, ◌-◌, ◌++◌, ◌∷◌, [], ap, map, subst}
use Rattle.stark_air.specs.Tree.{constant}
use Rattle.stark_lookup_air.specs.LookupConstraints.{from_place}
use Rattle.stark_lookup_extension.specs.Leaves.{WritesBlocks, WritesLeaves, leaf_tree}
use Rattle.stark_lookup_extension.specs.declared.leaves.Leaf.TheVariants.{Public}
use Rattle.stark_lookup_extension.specs.Written.{Stand, WritesKnown}
use Rattle.stark_lookup_extension.proofs.ExtendedSteps.{draws_steps}
use Rattle.stark_lookup_extension.proofs.extended.written_draws.Goals as goal

pub returns : goal.returns
returns g c =
    let coordinates = g.EF.ExtensionField.coordinates in
    let one = g.met.EF.Field.one_is in
    let first = c.args.first in
    let size = c.DIMENSION-size.ensures in
    let zeroth = c.in_ok-zeroth.zeroth in
    let others = c.in_ok-others.others.items in
    let b = c.element_constants-2.new.list in
    let d = c.leaf_blocks.new.list in
    let gamma = c.in_ok-gamma.gamma in
    draws_steps g.EF.ExtensionField.DIMENSION g.EF.Field.ring g.EF.ExtensionField.basis g.EF.ExtensionField.coordinates first c.args.width c.args.list.now c.element_constants.new.list b d c.leaves.new.list c.product_table.new.list zeroth others
    (record { gamma = gamma; one = c.in_ok-one.one; powers = c.append.new.self; table = c.in_ok-table.table })
    (subst (λ z. WritesKnown Stand (map constant (coordinates z)) c.args.list.now c.in_ok-one.one.items c.element_constants.new.list) (c.ONE.ensures ∙ one) c.in_ok-one.ensures)
    (subst (λ z. WritesKnown Stand (map constant (coordinates z)) c.element_constants.new.list zeroth.items b) (c.ONE-2.ensures ∙ one) c.in_ok-zeroth.ensures)
    (subst (λ n. WritesBlocks Public (first + n) n (c.args.width - 1) b others d) size
    (subst (λ k. WritesBlocks Public (first + c.DIMENSION-size.result) c.DIMENSION-size.result k b others d) c.saturating_sub-later.ensures c.in_ok-others.ensures.blocks))
    (c.in_ok-append.ensures.items ∙ ap (λ xs. xs ++ others) (c.in_ok-push.ensures.items ∙ ap (λ xs. xs ++ zeroth ∷ []) c.new-powers.ensures.items))
    (subst (λ n. WritesLeaves Public (first + n) Stand (from_place (leaf_tree Public) first n) d gamma.items c.leaves.new.list) size c.in_ok-gamma.ensures) c.in_ok-table.ensures
