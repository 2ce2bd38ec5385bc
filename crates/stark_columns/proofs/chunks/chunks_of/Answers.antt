use Rattle.std.proofs.Common.{arith, ◌≡◌, ◌<◌, ◌≤◌, ◌∙◌, ◌^◌, ◌*◌, ◌+◌, ◌∷◌, [], ap, sym, map, length, subst}
use Rattle.std.proofs.lemmas.List.{map-append}
use Rattle.stark_support.specs.Coset.{TwoAdicCoset, coset_part}
use Rattle.stark_support.specs.LogarithmFacts.{exponent_at_most}
use Rattle.stark_support.specs.Scheme.{matrix_row}
use Rattle.stark_columns.specs.ColumnPoints.{AreColumns}
use Rattle.stark_columns.specs.Columns.{columns_list}
use Rattle.stark_columns.specs.PlainChunks.{ArePlainChunks}
use Rattle.stark_columns.specs.PlainChunkFacts.{image_there, no_chunks, one_more_chunk, part_cell, part_full, part_rows}
use Rattle.stark_columns.proofs.chunks.chunks_of.Goals as goal

pub interpolated_columns-requires-clause-within : goal.interpolated_columns-requires-clause-within
interpolated_columns-requires-clause-within g c = λ column r inside below.
    let ring = g.F.Field.ring in
    let root = g.F.TwoAdicField.root in
    let k = c.requires.power.0 in
    let power : 2 ^ c.requires.power.0 ≡ c.args.num_chunks = sym c.requires.power.1 in
    let parts = c.in_ok-parts.ensures c.requires.power.0 (sym c.requires.power.1) in
    let within : c.requires.power.0 ≤ c.args.domain.now.log_size = exponent_at_most c.requires.power.0 c.args.domain.now.log_size (omega (arith, power, c.requires.parts)) in
    let is_part : ◌≡◌ {A = TwoAdicCoset g.row.F.Denot} (record { shift = c.index-cosets-i.result.shift; log_size = c.index-cosets-i.result.log_size })
    (coset_part g.F.Field.ring g.F.TwoAdicField.root (record { shift = c.args.domain.now.shift; log_size = c.args.domain.now.log_size }) c.requires.power.0 c.loop-i.i) =
    image_there _ c.in_ok-parts.parts.items c.as_slice-cosets.result.now c.loop-i.i (2 ^ c.requires.power.0) c.index-cosets-i.result _ c.as_slice-cosets.ensures.value parts.number (omega (arith, power, c.loop-i-test.true)) c.index-cosets-i.is
    (parts.part c.loop-i.i (omega (arith, power, c.loop-i-test.true))) in
    subst (λ t. c.loop-i.i * c.args.flat.now.width + column + r * (c.args.num_chunks * c.args.flat.now.width) < length t) (sym c.deref.ensures.value)
    (part_cell ring root (record { shift = c.args.domain.now.shift; log_size = c.args.domain.now.log_size }) _ k c.loop-i.i c.args.num_chunks c.args.flat.now.width c.args.flat.now.values.items is_part power within c.loop-i-test.true c.requires.height column r inside below)

pub loop-i-init : goal.loop-i-init
loop-i-init g c = λ log_parts power. no_chunks g.F.Field.ring g.F.TwoAdicField.root _ log_parts c.args.flat.now.width _ _ (ap (map columns_list) c.new-chunks.ensures.items)

pub loop-i-preserved : goal.loop-i-preserved
loop-i-preserved g c = λ k power.
    let ring = g.F.Field.ring in
    let root = g.F.TwoAdicField.root in
    let parts = c.in_ok-parts.ensures k power in
    let within : k ≤ c.args.domain.now.log_size = exponent_at_most k c.args.domain.now.log_size (omega (arith, power, c.requires.parts)) in
    let is_part : ◌≡◌ {A = TwoAdicCoset g.row.F.Denot} (record { shift = c.index-cosets-i.result.shift; log_size = c.index-cosets-i.result.log_size })
    (coset_part g.F.Field.ring g.F.TwoAdicField.root (record { shift = c.args.domain.now.shift; log_size = c.args.domain.now.log_size }) k c.loop-i.i) =
    image_there _ c.in_ok-parts.parts.items c.as_slice-cosets.result.now c.loop-i.i (2 ^ k) c.index-cosets-i.result _ c.as_slice-cosets.ensures.value parts.number (omega (arith, power, c.loop-i-test.true)) c.index-cosets-i.is
    (parts.part c.loop-i.i (omega (arith, power, c.loop-i-test.true))) in
    let are : AreColumns g.F.Field.ring g.F.TwoAdicField.root (record { shift = c.index-cosets-i.result.shift; log_size = c.index-cosets-i.result.log_size }) c.args.flat.now.values.items (c.loop-i.i * c.args.flat.now.width)
    (c.args.num_chunks * c.args.flat.now.width) c.args.flat.now.width c.size.result (columns_list c.in_ok-columns.columns) =
    subst (λ t. AreColumns g.F.Field.ring g.F.TwoAdicField.root (record { shift = c.index-cosets-i.result.shift; log_size = c.index-cosets-i.result.log_size }) t (c.loop-i.i * c.args.flat.now.width)
    (c.args.num_chunks * c.args.flat.now.width) c.args.flat.now.width c.size.result (columns_list c.in_ok-columns.columns)) c.deref.ensures.value c.in_ok-columns.ensures in
    one_more_chunk ring root (record { shift = c.args.domain.now.shift; log_size = c.args.domain.now.log_size }) k c.args.flat.now.width _ c.loop-i.i (map columns_list c.loop-i.chunks.items) (map columns_list c.push.new.self.items) (columns_list c.in_ok-columns.columns)
    (c.loop-i.invariant k power)
    (part_full ring root (record { shift = c.args.domain.now.shift; log_size = c.args.domain.now.log_size }) _ k c.loop-i.i c.args.num_chunks c.args.flat.now.width c.args.flat.now.values.items is_part power within c.loop-i-test.true c.requires.height c.size.result (columns_list c.in_ok-columns.columns) c.size.ensures are)
    (part_rows ring root (record { shift = c.args.domain.now.shift; log_size = c.args.domain.now.log_size }) _ k c.loop-i.i c.args.num_chunks c.args.flat.now.width c.args.flat.now.values.items is_part power within c.loop-i-test.true c.requires.height c.size.result (columns_list c.in_ok-columns.columns) are)
    (ap (map columns_list) c.in_ok-push.ensures.items ∙ map-append columns_list c.loop-i.chunks.items (c.in_ok-columns.columns ∷ []))

pub returns : goal.returns
returns g c = λ k power.
    subst (λ n. ArePlainChunks g.F.Field.ring g.F.TwoAdicField.root (record { shift = c.args.domain.now.shift; log_size = c.args.domain.now.log_size }) k c.args.flat.now.width n (matrix_row c.args.flat.now.values.items c.args.flat.now.width) (map columns_list c.loop-i.chunks.items)) (omega arith) (c.loop-i.invariant k power)
