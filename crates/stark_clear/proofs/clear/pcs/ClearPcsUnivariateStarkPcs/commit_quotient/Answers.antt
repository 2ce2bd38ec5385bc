use Rattle.std.proofs.Common.{◌∙◌, map, subst, sym}
use Rattle.stark_support.specs.Scheme.{matrix_row}
use Rattle.stark_columns.specs.Columns.{columns_list}
use Rattle.stark_columns.specs.PlainChunks.{ArePlainChunks}
use Rattle.stark_columns.specs.PlainChunkFacts.{chunks_are}
use Rattle.stark_clear.proofs.clear.pcs.ClearPcsUnivariateStarkPcs.commit_quotient.Goals as goal

pub returns-clause-stands : goal.returns-clause-stands
returns-clause-stands g c =
    let made = chunks_are g.F.Field.ring g.met.EF.Field.field_laws.of_ring g.EF.Field.inverse_of g.EF.ExtensionField.embed g.F.TwoAdicField.root _ c.args.num_chunks c.args.flat.width
    (matrix_row c.args.flat.values.items c.args.flat.width) (map columns_list c.in_ok-chunks.chunks.items) c.requires.power c.in_ok-chunks.ensures in
    (made.0, (c.in_ok-made.ensures.commitment ∙ made.1, c.in_ok-made.ensures.prover_data ∙ made.1, made.2), made.3)

pub returns-clause-made : goal.returns-clause-made
returns-clause-made g c = λ log_parts power.
    subst (λ t. ArePlainChunks g.F.Field.ring g.F.TwoAdicField.root (record { shift = c.args.domain.shift; log_size = c.args.domain.log_size }) log_parts c.args.flat.width c.args.num_chunks (matrix_row c.args.flat.values.items c.args.flat.width) t) (sym c.in_ok-made.ensures.commitment)
    (c.in_ok-chunks.ensures log_parts power)
