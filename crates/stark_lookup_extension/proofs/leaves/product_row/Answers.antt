use Rattle.std.proofs.Common.{map, ap, sym, ◌∙◌, subst, arith, rules}
use Rattle.stark_air.specs.Tree.{constant}
use Rattle.stark_lookup_extension.specs.Written.{Stand, WritesKnown}
use Rattle.stark_lookup_extension.proofs.LeafSteps.{known_all, known_none, known_one}
use Rattle.stark_lookup_extension.proofs.ListSteps.{Row, row_kept}
use Rattle.stark_lookup_extension.proofs.leaves.product_row.Goals as goal

pub loop-index-init : goal.loop-index-init
loop-index-init g c = known_none Row (λ y. map constant (g.EF.ExtensionField.coordinates (g.EF.Field.ring.mul c.args.x y))) c.args.list.now g.EF.ExtensionField.basis _ (search rules)

pub loop-index-preserved : goal.loop-index-preserved
loop-index-preserved g c =
    let coordinates = g.EF.ExtensionField.coordinates in
    let block = c.in_ok-block.block in
    let y = c.basis_element-y.result in
    known_one Row (λ y. map constant (coordinates (g.EF.Field.ring.mul c.args.x y))) row_kept c.args.list.now c.loop-index.list c.element_constants.new.list g.EF.ExtensionField.basis c.loop-index.index y block c.loop-index.all.items _
    c.basis_element-y.ensures c.in_ok-push.ensures.items c.loop-index.invariant
    (subst (λ z. WritesKnown Stand (map constant (coordinates z)) c.loop-index.list block.items c.element_constants.new.list) (g.met.EF.Field.mul_is _ _ _ c.mul.ensures) c.in_ok-block.ensures)

pub returns : goal.returns
returns g c =
    let size = g.met.EF.ExtensionField.is_basis.size in
    known_all Row (λ y. map constant (g.EF.ExtensionField.coordinates (g.EF.Field.ring.mul c.args.x y))) c.args.list.now c.loop-index.list g.EF.ExtensionField.basis c.loop-index.index c.loop-index.all.items (omega (arith, size, c.loop-index-test.false)) c.loop-index.invariant
