use Rattle.std.proofs.Common.{◌≤◌, ◌∙◌, ◌+◌, ap, arith, inl, inr, refl, sym}
use Rattle.std.proofs.lemmas.List.{length-map}
use Rattle.stark_fields.specs.Residues.{residue, residue_ring}
use Rattle.stark_commands.specs.Numbers.{numbers}
use Rattle.stark_answers.specs.CheckedAir.{checked_air}
use Rattle.stark_protocol.specs.Sizes.{quotient_coset}
use Rattle.stark_commands.proofs.Parts.{trace_coset_is}
use Rattle.stark_commands.proofs.PointSteps.{found_counted, found_too_large, found_uncounted, shifted_one, within_adicity}
use Rattle.stark_commands.proofs.check.check_cut.Goals as goal

pub check_point-requires : goal.check_point-requires
check_point-requires g c =
    let trace = trace_coset_is c.subgroup-trace_domain.result.shift c.subgroup-trace_domain.result.log_size _ c.subgroup-trace_domain.ensures.shift c.subgroup-trace_domain.ensures.size in
    let within : c.args.input.now.log_height + c.args.log_chunks ≤ 12 = within_adicity _ c.in-Some.ensures.none.1 in
    record {
      shape = c.requires.shape;
      trace = trace;
      quotient = c.in-Some.ensures.domain ∙ ap (λ d. quotient_coset residue_ring (residue 11) d c.args.log_chunks) trace;
      chunks = length-map c.args.input.now.chunks.items (λ chunk. chunk.items) ∙ sym c.args.input.now.chunks.ok.0 ∙ sym c.len.ensures ∙ c.if-len-log_chunks.false ∙ shifted_one c.args.log_chunks (omega (arith, within));
    }

pub returns-in_default : goal.returns-in_default
returns-in_default g c = inl (found_too_large (checked_air (g.A.BaseAir.layout c.args.air.now) (g.A.BaseAir.main_next_row_columns c.args.air.now) (g.A.BaseAir.periodic_columns c.args.air.now) (g.A.BaseAir.degree_hint c.args.air.now) (g.A.Air.constraints c.args.air.now) (g.A.BaseAir.preprocessed_trace c.args.air.now) (g.A.BaseAir.preprocessed_next_row_columns c.args.air.now)) c.args.log_chunks (numbers c.args.input.now) (c.in_default.ensures.none.0 refl))

pub returns-then-len-log_chunks : goal.returns-then-len-log_chunks
returns-then-len-log_chunks g c =
    let within : c.args.input.now.log_height + c.args.log_chunks ≤ 12 = within_adicity _ c.in-Some.ensures.none.1 in
    inl (found_uncounted (checked_air (g.A.BaseAir.layout c.args.air.now) (g.A.BaseAir.main_next_row_columns c.args.air.now) (g.A.BaseAir.periodic_columns c.args.air.now) (g.A.BaseAir.degree_hint c.args.air.now) (g.A.Air.constraints c.args.air.now) (g.A.BaseAir.preprocessed_trace c.args.air.now) (g.A.BaseAir.preprocessed_next_row_columns c.args.air.now)) c.args.log_chunks (numbers c.args.input.now) within (λ count.
    c.if-len-log_chunks.true (c.len.ensures ∙ c.args.input.now.chunks.ok.0 ∙ sym (length-map c.args.input.now.chunks.items (λ chunk. chunk.items)) ∙ count ∙ sym (shifted_one c.args.log_chunks (omega (arith, within))))))

pub returns : goal.returns
returns g c =
    let within : c.args.input.now.log_height + c.args.log_chunks ≤ 12 = within_adicity _ c.in-Some.ensures.none.1 in
    let count = length-map c.args.input.now.chunks.items (λ chunk. chunk.items) ∙ sym c.args.input.now.chunks.ok.0 ∙ sym c.len.ensures ∙ c.if-len-log_chunks.false ∙ shifted_one c.args.log_chunks (omega (arith, within)) in
    elim c.check_point.ensures [
      | inl is ↦ inl (is ∙ found_counted (checked_air (g.A.BaseAir.layout c.args.air.now) (g.A.BaseAir.main_next_row_columns c.args.air.now) (g.A.BaseAir.periodic_columns c.args.air.now) (g.A.BaseAir.degree_hint c.args.air.now) (g.A.Air.constraints c.args.air.now) (g.A.BaseAir.preprocessed_trace c.args.air.now) (g.A.BaseAir.preprocessed_next_row_columns c.args.air.now)) c.args.log_chunks (numbers c.args.input.now) within count)
      | inr memory ↦ inr memory
    ]
