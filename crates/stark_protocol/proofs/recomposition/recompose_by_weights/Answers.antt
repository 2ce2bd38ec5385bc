use Rattle.std.proofs.Common.{◌≡◌, ◌∙◌, ◌<◌, arith, ap, length, sym}
use Rattle.stark_support.specs.Extension.{basis_sum}
use Rattle.stark_support.specs.FieldFacts.{nonzero_product}
use Rattle.stark_support.specs.Ring.{difference}
use Rattle.stark_support.specs.Powers.{squarings}
use Rattle.stark_protocol.proofs.LagrangeFactors.{weight_nonzero}
use Rattle.stark_protocol.proofs.WeightedSums.{all_summed, none_summed, one_more_summed}
use Rattle.stark_protocol.proofs.recomposition.recompose_by_weights.Goals as goal

pub loop-i-init : goal.loop-i-init
loop-i-init g c =
    let base = g.met.D.Val.Field in
    let field = g.met.EF.Field in (
      λ e. base.field_laws.one_not_zero (sym base.one_is ∙ sym c.ONE-weights.ensures ∙ e),
      none_summed base.field_laws field.field_laws g.met.EF.ExtensionField.embeds g.D.PolynomialSpace.coset_of c.args.log_size c.args.domains.now (λ chunk. chunk.items) c.args.chunks.now g.EF.ExtensionField.basis c.args.zeta
          c.ONE-product.result c.ZERO-sum.result c.ONE-weights.result (c.ONE-product.ensures ∙ field.one_is) (c.ZERO-sum.ensures ∙ field.zero_is),
    )

pub loop-i-preserved : goal.loop-i-preserved
loop-i-preserved g c =
    let base = g.met.D.Val.Field in
    let field = g.met.EF.Field in
    let two_adic = g.met.D.Val.TwoAdicField.two_adic in
    let coset_of = g.D.PolynomialSpace.coset_of in
    let domains = c.args.domains.now in
    let within : c.loop-i.i < length domains = omega (arith, c.requires.counts, c.loop-i-test.true) in
    let apart : c.sub-apart.result ≡ difference g.EF.Field.ring (squarings g.EF.Field.ring c.args.zeta c.args.log_size) (g.EF.ExtensionField.embed (squarings g.D.Val.Field.ring (coset_of c.index-domains-i.result).shift c.args.log_size))
    = field.sub_is _ _ _ c.sub-apart.ensures ∙ ap (λ t. difference g.EF.Field.ring t c.from_base.result) c.squared_times-power_of_zeta.ensures
    ∙ ap (difference g.EF.Field.ring (squarings g.EF.Field.ring c.args.zeta c.args.log_size)) (c.from_base.ensures ∙ ap g.EF.ExtensionField.embed c.node_of.ensures) in (
      λ e. nonzero_product base.field_laws c.loop-i.weights c.weight_of-weight.result c.loop-i.invariant.0
          (λ zero. weight_nonzero base.field_laws field.field_laws g.met.EF.ExtensionField.embeds _ _ _ two_adic coset_of g.met.D.PolynomialSpace.lawful c.args.log_size domains c.requires.disjoint c.loop-i.i c.index-domains-i.result within c.index-domains-i.is
          (sym c.weight_of-weight.ensures ∙ zero))
          (sym (base.mul_is _ _ _ c.mul-weights.ensures) ∙ e),
      one_more_summed base.field_laws field.field_laws g.met.EF.ExtensionField.embeds coset_of c.args.log_size domains (λ chunk. chunk.items) c.args.chunks.now g.EF.ExtensionField.basis c.args.zeta
          _ _ _ two_adic g.met.D.PolynomialSpace.lawful c.requires.disjoint c.loop-i.i c.index-domains-i.result c.index-chunks-i.result within c.loop-i-test.true c.index-domains-i.is c.index-chunks-i.is
          c.loop-i.product c.loop-i.sum c.chunk_value.result c.mul-product.result c.add-sum.result c.loop-i.weights c.weight_of-weight.result c.loop-i.weights c.mul-weights.result
          (c.chunk_value.ensures ∙ ap (basis_sum g.EF.Field.ring (λ x. x) g.EF.ExtensionField.basis) c.deref.ensures.value)
          (base.mul_is _ _ _ c.mul-weights.ensures)
          (base.mul_is _ _ _ c.mul-weights.ensures ∙ ap (g.D.Val.Field.ring.mul c.loop-i.weights) c.weight_of-weight.ensures)
          (field.mul_is _ _ _ c.mul-product.ensures ∙ ap (g.EF.Field.ring.mul c.loop-i.product) apart)
          (field.add_is _ _ _ c.add-sum.ensures
          ∙ ap (λ t. g.EF.Field.ring.add t c.mul-term.result) (field.mul_is _ _ _ c.mul-in-loop-i-2.ensures ∙ ap (λ t. g.EF.Field.ring.mul t c.from_base-in-loop-i-2.result) (field.mul_is _ _ _ c.mul-in-loop-i.ensures ∙ ap (g.EF.Field.ring.mul c.loop-i.sum) apart)
          ∙ ap (g.EF.Field.ring.mul (g.EF.Field.ring.mul c.loop-i.sum _)) c.from_base-in-loop-i-2.ensures)
          ∙ ap (g.EF.Field.ring.add _) (field.mul_is _ _ _ c.mul-term.ensures ∙ ap (λ t. g.EF.Field.ring.mul t c.chunk_value.result) (field.mul_is _ _ _ c.mul.ensures ∙ ap (g.EF.Field.ring.mul c.loop-i.product) c.from_base-in-loop-i.ensures)))
          c.loop-i.invariant.1,
    )

pub returns : goal.returns
returns g c =
    let base = g.met.D.Val.Field in
    let field = g.met.EF.Field in
    all_summed base.field_laws field.field_laws g.met.EF.ExtensionField.embeds g.D.PolynomialSpace.coset_of c.args.log_size c.args.domains.now (λ chunk. chunk.items) c.args.chunks.now g.EF.ExtensionField.basis c.args.zeta
    c.loop-i.i c.loop-i.product c.loop-i.sum c.mul-2.result c.from_base-2.result c.loop-i.weights c.inverse.result (omega (arith, c.requires.counts, c.loop-i-test.false)) c.loop-i.invariant.0 c.inverse.ensures c.from_base-2.ensures
    (field.mul_is _ _ _ c.mul-2.ensures) c.loop-i.invariant.1
