use Rattle.std.proofs.Common.{◌∙◌, ◌-◌, ◌∷◌, Some, length, drop, ap, sym, arith}
use Rattle.std.specs.List.{slice_get}
use Rattle.std.proofs.lemmas.List.{drop_all}
use Rattle.stark_support.specs.Extension.{basis_sum}
use Rattle.stark_support.proofs.Places.{from_place}
use Rattle.stark_columns.proofs.PowerSums.{coordinate_of_more, coordinate_of_zero}
use Rattle.stark_columns.proofs.powers.coordinate_of_sum.Goals as goal

pub loop-index-init : goal.loop-index-init
loop-index-init g c =
    let ring = g.EF.Field.ring in
    let coordinates = g.EF.ExtensionField.coordinates in
    let n = length c.args.coefficients.now in (
      omega arith,
      ap (λ t. slice_get (coordinates (basis_sum ring g.EF.ExtensionField.embed t (drop n c.args.powers.now))) c.args.place) (drop_all n c.args.coefficients.now (omega arith))
          ∙ coordinate_of_zero g.met.F.Field.field_laws.of_ring g.met.EF.Field.field_laws.of_ring g.met.EF.ExtensionField.embeds g.met.EF.ExtensionField.is_basis c.args.place c.requires.place
          ∙ ap Some (sym (c.ZERO-sum.ensures ∙ g.met.F.Field.zero_is)),
    )

pub loop-index-preserved : goal.loop-index-preserved
loop-index-preserved g c =
    let ring = g.EF.Field.ring in
    let embed = g.EF.ExtensionField.embed in
    let coordinates = g.EF.ExtensionField.coordinates in
    let field = g.met.F.Field in
    let coefficients = c.args.coefficients.now in
    let powers = c.args.powers.now in
    let i = c.loop-index.index - 1 in
    let coefficient = c.index-coefficients-index.result in
    let power = c.index-powers-index.result in (
      omega arith,
      ap (λ t. slice_get (coordinates (basis_sum ring embed t (drop i powers))) c.args.place) (from_place coefficients i c.loop-index.index coefficient (omega arith) (omega arith) c.index-coefficients-index.is)
          ∙ ap (λ t. slice_get (coordinates (basis_sum ring embed (coefficient ∷ drop c.loop-index.index coefficients) t)) c.args.place)
          (from_place powers i c.loop-index.index power (omega arith) (omega (arith, c.requires.enough)) c.index-powers-index.is)
          ∙ coordinate_of_more field.field_laws.of_ring g.met.EF.Field.field_laws.of_ring g.met.EF.ExtensionField.embeds g.met.EF.ExtensionField.is_basis coefficient power
          (basis_sum ring embed (drop c.loop-index.index coefficients) (drop c.loop-index.index powers)) c.args.place c.coordinate.result c.loop-index.sum c.coordinate.ensures c.loop-index.invariant.1
          ∙ ap Some (sym (field.add_is _ _ _ c.add-sum.ensures ∙ ap (λ t. g.F.Field.ring.add t c.loop-index.sum) (field.mul_is _ _ _ c.mul.ensures))),
    )
