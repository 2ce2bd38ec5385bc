use Rattle.std.proofs.Common.{◌≡◌, ◌≤◌, ◌∙◌, ◌+◌, ◌-◌, ◌/◌, ap, sym, arith, length, map}
use Rattle.std.proofs.lemmas.List.{length-map}
use Rattle.std.proofs.lemmas.Nat.{pow_pos}
use Rattle.stark_support.specs.LogarithmFacts.{exponent_at_most}
use Rattle.stark_support.specs.Scheme.{matrix_row}
use Rattle.stark_columns.specs.Columns.{columns_list}
use Rattle.stark_clear.specs.Masks.{chunk_columns, masked_chunks}
use Rattle.stark_clear.proofs.MaskedChunkSteps.{masked_made, quotient_length}
use Rattle.stark_clear.proofs.masked.chunks.masked_chunks_of.Goals as goal

pub masked_chunks-requires-clause-masks : goal.masked_chunks-requires-clause-masks
masked_chunks-requires-clause-masks g c =
    let parts = c.in_ok-parts.ensures c.requires.power.0 (sym c.requires.power.1) in
    let count : length c.deref.result.now ≡ c.args.num_chunks = ap length c.deref.ensures.value ∙ sym (length-map c.in_ok-parts.parts.items _) ∙ parts.number ∙ sym c.requires.power.1 in
    let lists : length c.deref-3.result.now ≡ (c.args.num_chunks - 1) + 1
    = ap length c.deref-3.ensures.value ∙ sym (length-map c.in_ok-lists.lists.items columns_list) ∙ ap length c.in_ok-lists.ensures ∙ quotient_length g.F.Field.ring c.args.masks.now (c.args.num_chunks - 1) c.args.flat.now.width _ in
    let positive = pow_pos c.requires.power.0 in
    omega (arith, count, lists, positive, c.requires.power.1)

pub returns : goal.returns
returns g c = (
  map columns_list c.in_ok-plain.plain.items,
  λ k power.
      let within : k ≤ c.args.domain.now.log_size = exponent_at_most k c.args.domain.now.log_size (omega (arith, power, c.requires.parts)) in
      masked_made g.F.Field.ring g.F.Field.inverse_of g.F.TwoAdicField.root (record { shift = c.args.domain.now.shift; log_size = c.args.domain.now.log_size }) k c.args.num_chunks c.args.flat.now.width _
      (matrix_row c.args.flat.now.values.items c.args.flat.now.width) c.args.masks.now (map (λ d. record { shift = d.shift; log_size = d.log_size }) c.in_ok-parts.parts.items) (map columns_list c.in_ok-plain.plain.items)
      (map columns_list c.in_ok-lists.lists.items) (map columns_list c.in_ok-chunks.chunks.items) within power (c.in_ok-parts.ensures k power) (c.in_ok-plain.ensures k power) c.in_ok-lists.ensures (ap (λ n. n / c.args.num_chunks) c.size.ensures)
      (c.in_ok-chunks.ensures ∙ ap (λ t. chunk_columns (masked_chunks g.F.Field.ring g.F.Field.inverse_of (map (λ d. record { shift = d.shift; log_size = d.log_size }) t) (map columns_list c.deref-2.result.now) (map columns_list c.deref-3.result.now))) c.deref.ensures.value
      ∙ ap (λ t. chunk_columns (masked_chunks g.F.Field.ring g.F.Field.inverse_of (map (λ d. record { shift = d.shift; log_size = d.log_size }) c.in_ok-parts.parts.items) (map columns_list t) (map columns_list c.deref-3.result.now))) c.deref-2.ensures.value
      ∙ ap (λ t. chunk_columns (masked_chunks g.F.Field.ring g.F.Field.inverse_of (map (λ d. record { shift = d.shift; log_size = d.log_size }) c.in_ok-parts.parts.items) (map columns_list c.in_ok-plain.plain.items) (map columns_list t))) c.deref-3.ensures.value),
)
