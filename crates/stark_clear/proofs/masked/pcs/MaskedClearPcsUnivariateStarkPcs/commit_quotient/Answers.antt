use Rattle.std.proofs.Common.{map}
use Rattle.stark_support.specs.Scheme.{matrix_row}
use Rattle.stark_columns.specs.Columns.{columns_list}
use Rattle.stark_clear.proofs.MaskedQuotient.{masked_stand}
use Rattle.stark_clear.proofs.masked.pcs.MaskedClearPcsUnivariateStarkPcs.commit_quotient.Goals as goal

pub returns-clause-stands : goal.returns-clause-stands
returns-clause-stands g c =
    masked_stand g.met.F.Field.field_laws g.met.EF.Field.field_laws g.met.EF.ExtensionField.embeds g.F.TwoAdicField.TWO_ADICITY g.F.TwoAdicField.root g.F.Field.GENERATOR g.met.F.TwoAdicField.two_adic
    (record { shift = c.args.domain.shift; log_size = c.args.domain.log_size }) (record { shift_nonzero = c.args.domain.shift_nonzero; within = c.args.domain.within }) c.args.num_chunks c.args.flat.width
    (matrix_row c.args.flat.values.items c.args.flat.width) _ c.in_ok-chunks.ensures.0 (map columns_list c.in_ok-chunks.chunks.items) c.in_ok-made.made.0 c.in_ok-made.made.1
    c.requires.power c.requires.parts c.in_ok-chunks.ensures.1 c.in_ok-made.ensures.commitment c.in_ok-made.ensures.prover_data
