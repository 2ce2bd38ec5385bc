use Rattle.std.proofs.Common.{◌∙◌, ap, sym, arith}
use Rattle.stark_support.specs.FieldFacts.{nonzero_product}
use Rattle.stark_support.specs.LogarithmFacts.{two_power_at_most}
use Rattle.stark_support.specs.CosetFacts.{shifted_is_disjoint}
use Rattle.stark_bench.proofs.coset.CosetPolynomialSpace.create_disjoint_domain.Goals as goal

pub new-requires-clause-nonzero : goal.new-requires-clause-nonzero
new-requires-clause-nonzero g c =
    let field = g.met.F.Field in
    λ e. nonzero_product field.field_laws c.args.self.now.shift g.F.Field.GENERATOR c.args.self.now.shift_nonzero g.met.F.TwoAdicField.two_adic.generator_nonzero
    (ap (g.F.Field.ring.mul c.args.self.now.shift) (sym c.GENERATOR.ensures) ∙ sym (field.mul_is _ _ _ c.mul.ensures) ∙ e)

pub new-requires-clause-within : goal.new-requires-clause-within
new-requires-clause-within g c =
    let adicity = g.F.TwoAdicField.TWO_ADICITY in
    c.log2_ceil_usize.ensures.least adicity (omega (arith, c.max.ensures, c.requires, two_power_at_most 0 adicity (omega arith)))

pub returns-clause-disjoint : goal.returns-clause-disjoint
returns-clause-disjoint g c =
    let self = c.args.self.now in
    shifted_is_disjoint g.met.F.Field.field_laws _ _ _ g.met.F.TwoAdicField.two_adic (record { shift = self.shift; log_size = self.log_size }) (record { shift = c.new.result.shift; log_size = c.new.result.log_size })
    (record { shift_nonzero = self.shift_nonzero; within = self.within }) (record { shift_nonzero = c.new.result.shift_nonzero; within = c.new.result.within })
    (c.new.ensures.shift ∙ g.met.F.Field.mul_is _ _ _ c.mul.ensures ∙ ap (g.F.Field.ring.mul self.shift) c.GENERATOR.ensures)
