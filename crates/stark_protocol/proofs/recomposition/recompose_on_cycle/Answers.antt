use Rattle.std.proofs.Common.{◌≡◌, ◌∙◌, ◌<◌, arith, ap, length, sym}
use Rattle.stark_support.specs.Extension.{basis_sum}
use Rattle.stark_support.specs.Powers.{squarings}
use Rattle.stark_support.specs.Ring.{difference}
use Rattle.stark_protocol.proofs.CycleWeights.{cycle_weight, first_nonzero, squarings_nonzero}
use Rattle.stark_protocol.proofs.WeightedSums.{all_summed, none_summed, one_more_summed}
use Rattle.stark_protocol.proofs.recomposition.recompose_on_cycle.Goals as goal

pub loop-i-init : goal.loop-i-init
loop-i-init g c =
    let base = g.met.D.Val.Field in
    let field = g.met.EF.Field in
    none_summed base.field_laws field.field_laws g.met.EF.ExtensionField.embeds g.D.PolynomialSpace.coset_of c.args.log_size c.args.domains.now (λ chunk. chunk.items) c.args.chunks.now g.EF.ExtensionField.basis c.args.zeta
    c.ONE-product.result c.ZERO-sum.result c.mul-weight.result (c.ONE-product.ensures ∙ field.one_is) (c.ZERO-sum.ensures ∙ field.zero_is)

pub loop-i-preserved : goal.loop-i-preserved
loop-i-preserved g c =
    let base = g.met.D.Val.Field in
    let field = g.met.EF.Field in
    let coset_of = g.D.PolynomialSpace.coset_of in
    let domains = c.args.domains.now in
    let node = λ (o : g.row.D.Denot). squarings g.D.Val.Field.ring (coset_of o).shift c.args.log_size in
    let within : c.loop-i.i < length domains = omega (arith, c.requires.counts, c.loop-i-test.true) in
    let lifted : c.from_base-node.result ≡ g.EF.ExtensionField.embed c.node_of-in-loop-i.result = c.from_base-node.ensures in
    let apart : c.sub-apart.result ≡ difference g.EF.Field.ring (squarings g.EF.Field.ring c.args.zeta c.args.log_size) (g.EF.ExtensionField.embed (node c.index-domains-i.result))
    = field.sub_is _ _ _ c.sub-apart.ensures ∙ ap (λ t. difference g.EF.Field.ring t c.from_base-node.result) c.squared_times-power_of_zeta.ensures
    ∙ ap (difference g.EF.Field.ring (squarings g.EF.Field.ring c.args.zeta c.args.log_size)) (lifted ∙ ap g.EF.ExtensionField.embed c.node_of-in-loop-i.ensures) in
    let term : c.mul-in-loop-i-2.result ≡ g.EF.Field.ring.mul (g.EF.Field.ring.mul c.loop-i.product (g.EF.ExtensionField.embed c.node_of-in-loop-i.result)) c.chunk_value.result
    = field.mul_is _ _ _ c.mul-in-loop-i-2.ensures ∙ ap (λ t. g.EF.Field.ring.mul t c.chunk_value.result) (field.mul_is _ _ _ c.mul-in-loop-i.ensures ∙ ap (g.EF.Field.ring.mul c.loop-i.product) lifted) in
    one_more_summed base.field_laws field.field_laws g.met.EF.ExtensionField.embeds coset_of c.args.log_size domains (λ chunk. chunk.items) c.args.chunks.now g.EF.ExtensionField.basis c.args.zeta
    _ _ _ g.met.D.Val.TwoAdicField.two_adic g.met.D.PolynomialSpace.lawful c.requires.disjoint c.loop-i.i c.index-domains-i.result c.index-chunks-i.result within c.loop-i-test.true c.index-domains-i.is c.index-chunks-i.is
    c.loop-i.product c.loop-i.sum c.chunk_value.result c.mul-product.result c.add-sum.result c.mul-weight.result g.D.Val.Field.ring.one c.node_of-in-loop-i.result c.mul-weight.result
    (c.chunk_value.ensures ∙ ap (basis_sum g.EF.Field.ring (λ x. x) g.EF.ExtensionField.basis) c.deref.ensures.value)
    (sym (base.field_laws.of_ring.mul_one c.mul-weight.result))
    (cycle_weight base.field_laws node domains c.loop-i.i c.index-domains-i.result c.index-domains-0.result c.mul-weight.result c.node_of.result c.weight_of.result c.node_of-in-loop-i.result
    within c.index-domains-i.is c.index-domains-0.is (squarings_nonzero base.field_laws _ c.args.log_size (g.met.D.PolynomialSpace.lawful c.index-domains-0.result).shift_nonzero) c.requires.cycle
    c.node_of.ensures c.weight_of.ensures (base.mul_is _ _ _ c.mul-weight.ensures) c.node_of-in-loop-i.ensures)
    (field.mul_is _ _ _ c.mul-product.ensures ∙ ap (g.EF.Field.ring.mul c.loop-i.product) apart)
    (field.add_is _ _ _ c.add-sum.ensures
    ∙ ap (λ t. g.EF.Field.ring.add t c.mul-in-loop-i-2.result) (field.mul_is _ _ _ c.mul.ensures ∙ ap (g.EF.Field.ring.mul c.loop-i.sum) apart ∙ sym (field.field_laws.of_ring.mul_one _)
    ∙ ap (g.EF.Field.ring.mul _) (sym g.met.EF.ExtensionField.embeds.keeps.one))
    ∙ ap (g.EF.Field.ring.add _) term)
    c.loop-i.invariant

pub inverse-requires : goal.inverse-requires
inverse-requires g c =
    first_nonzero g.met.D.Val.Field.field_laws g.met.EF.Field.field_laws g.met.EF.ExtensionField.embeds _ _ _ g.met.D.Val.TwoAdicField.two_adic g.D.PolynomialSpace.coset_of g.met.D.PolynomialSpace.lawful c.args.log_size c.args.domains.now
    c.requires.disjoint c.index-domains-0.result c.node_of.result c.weight_of.result c.mul-weight.result c.requires.some c.index-domains-0.is c.node_of.ensures c.weight_of.ensures (g.met.D.Val.Field.mul_is _ _ _ c.mul-weight.ensures)

pub returns : goal.returns
returns g c =
    let base = g.met.D.Val.Field in
    let field = g.met.EF.Field in
    all_summed base.field_laws field.field_laws g.met.EF.ExtensionField.embeds g.D.PolynomialSpace.coset_of c.args.log_size c.args.domains.now (λ chunk. chunk.items) c.args.chunks.now g.EF.ExtensionField.basis c.args.zeta
    c.loop-i.i c.loop-i.product c.loop-i.sum c.mul-2.result c.from_base.result c.mul-weight.result c.inverse.result (omega (arith, c.requires.counts, c.loop-i-test.false))
    (first_nonzero g.met.D.Val.Field.field_laws g.met.EF.Field.field_laws g.met.EF.ExtensionField.embeds _ _ _ g.met.D.Val.TwoAdicField.two_adic g.D.PolynomialSpace.coset_of g.met.D.PolynomialSpace.lawful c.args.log_size c.args.domains.now
    c.requires.disjoint c.index-domains-0.result c.node_of.result c.weight_of.result c.mul-weight.result c.requires.some c.index-domains-0.is c.node_of.ensures c.weight_of.ensures (g.met.D.Val.Field.mul_is _ _ _ c.mul-weight.ensures))
    c.inverse.ensures c.from_base.ensures
    (field.mul_is _ _ _ c.mul-2.ensures) c.loop-i.invariant
