use Rattle.std.proofs.Common.{subst, arith, rules}
use Rattle.stark_lookup_extension.specs.Written.{TableStands, WritesKnown}
use Rattle.stark_lookup_extension.specs.Leaves.{product_row}
use Rattle.stark_lookup_extension.proofs.LeafSteps.{known_all, known_none, known_one, rows_mapped}
use Rattle.stark_lookup_extension.proofs.ListSteps.{Rows, all_rows_kept}
use Rattle.stark_lookup_extension.proofs.leaves.product_table.Goals as goal

pub loop-index-init : goal.loop-index-init
loop-index-init g c = known_none Rows (product_row g.EF.Field.ring g.EF.ExtensionField.basis g.EF.ExtensionField.coordinates) c.args.list.now g.EF.ExtensionField.basis _ (search rules)

pub loop-index-preserved : goal.loop-index-preserved
loop-index-preserved g c =
    known_one Rows (product_row g.EF.Field.ring g.EF.ExtensionField.basis g.EF.ExtensionField.coordinates) all_rows_kept c.args.list.now c.loop-index.list c.product_row.new.list g.EF.ExtensionField.basis c.loop-index.index c.basis_element-x.result
    c.in_ok-row.row c.loop-index.all.items _ c.basis_element-x.ensures c.in_ok-push.ensures.items c.loop-index.invariant c.in_ok-row.ensures

pub returns : goal.returns
returns g c =
    let size = g.met.EF.ExtensionField.is_basis.size in
    let ring = g.EF.Field.ring in
    let basis = g.EF.ExtensionField.basis in
    let coordinates = g.EF.ExtensionField.coordinates in
    subst (λ t. WritesKnown TableStands t c.args.list.now c.loop-index.all.items c.loop-index.list) (rows_mapped ring basis coordinates basis)
    (known_all Rows (product_row ring basis coordinates) c.args.list.now c.loop-index.list basis c.loop-index.index c.loop-index.all.items (omega (arith, size, c.loop-index-test.false)) c.loop-index.invariant)
