use Rattle.std.proofs.Common.{◌∙◌, ◌∷◌, [], ap, arith, map, refl}
use Rattle.std.proofs.lemmas.List.{map-append}
use Rattle.stark_columns.specs.Columns.{column_list, columns_list}
use Rattle.stark_clear.specs.Masks.{vanishing_scale}
use Rattle.stark_clear.proofs.MaskedChunkSteps.{one_more_masked}
use Rattle.stark_clear.proofs.MaskedColumns.{joined_columns}
use Rattle.stark_clear.proofs.masked.chunks.masked_chunks.Goals as goal

pub loop-i-preserved : goal.loop-i-preserved
loop-i-preserved g c =
    let ring = g.F.Field.ring in
    one_more_masked ring g.F.Field.inverse_of (λ d. record { shift = d.shift; log_size = d.log_size }) columns_list c.args.parts.now c.args.plain.now c.args.masks.now c.loop-i.i
    c.index-parts-i.result c.index-plain-i.result c.index-masks-i.result (map columns_list c.loop-i.chunks.items) (map columns_list c.push.new.self.items) _ (columns_list c.in_ok-columns.columns)
    (omega (arith, c.loop-i-test.true)) (omega (arith, c.loop-i-test.true, c.requires.plain)) (omega (arith, c.loop-i-test.true, c.requires.masks)) c.index-parts-i.is c.index-plain-i.is c.index-masks-i.is
    (joined_columns ring column_list (columns_list c.in_ok-columns.columns) c.deref.result.now c.index-plain-i.result.items c.deref-in-loop-i.result.now c.index-masks-i.result.items (columns_list c.index-masks-i.result) (columns_list c.index-masks-i.result)
    c.vanishing_scale-scale.result (vanishing_scale ring g.F.Field.inverse_of (record { shift = c.index-parts-i.result.shift; log_size = c.index-parts-i.result.log_size }))
    c.in_ok-columns.ensures c.deref.ensures.value c.deref-in-loop-i.ensures.value refl refl c.vanishing_scale-scale.ensures)
    (ap (map columns_list) c.in_ok-push.ensures.items ∙ map-append columns_list c.loop-i.chunks.items (c.in_ok-columns.columns ∷ []))
    c.loop-i.invariant
