use Rattle.std.proofs.Common.{◌∙◌, sym}
use Rattle.stark_support.specs.FieldFacts.{nonzero_product}
use Rattle.stark_fri_prover.proofs.phases.squares.Goals as goal

pub new-requires-clause-nonzero : goal.new-requires-clause-nonzero
new-requires-clause-nonzero g c =
    let shift = c.args.coset.now.shift_nonzero in
    λ e. nonzero_product g.met.F.Field.field_laws c.args.coset.now.shift c.args.coset.now.shift shift shift (sym (g.met.F.Field.mul_is _ _ _ c.mul.ensures) ∙ e)
