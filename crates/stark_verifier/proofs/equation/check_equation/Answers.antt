use Rattle.std.proofs.Common.{◌∙◌, ◌^◌, ◌-◌, ap, length, map, refl, subst, sym, unwrap_or, vec_len}
use Rattle.std.proofs.lemmas.List.{length-map}
use Rattle.stark_air.specs.Layout.{Covers}
use Rattle.stark_support.specs.Recomposition.{recomposition}
use Rattle.stark_support.specs.Subgroup.{subgroup_of}
use Rattle.stark_protocol.proofs.Carried.{on_err, on_ok}
use Rattle.stark_protocol.specs.Acceptance.{preprocessed_next, rows_of}
use Rattle.stark_protocol.specs.Equation.{opened_layout}
use Rattle.stark_proof.specs.ProofView.{openings_view}
use Rattle.stark_protocol.specs.Sizes.{chunk_shifts}
use Rattle.stark_verifier.proofs.Balance.{balanced_fault, balanced_held}
use Rattle.stark_verifier.proofs.CheckSteps.{shaped_covered, shaped_dimension, shaped_number, shaped_widths}
use Rattle.stark_verifier.proofs.EquationVerdict.{chunk_lengths, equation_fault, equation_held, filled, opened_local, rows_are}
use Rattle.stark_verifier.proofs.equation.check_equation.Goals as goal

pub quotient_at-requires-clause-number : goal.quotient_at-requires-clause-number
quotient_at-requires-clause-number g c =
    ap length c.as_slice-chunks.ensures.value ∙ sym (length-map c.args.on.now.proof.now.opened_values.quotient_chunks.items (λ chunk. chunk.items)) ∙ shaped_number c.requires.shaped

pub quotient_at-requires-clause-dimension : goal.quotient_at-requires-clause-dimension
quotient_at-requires-clause-dimension g c =
    chunk_lengths (λ chunk. chunk.items) vec_len (λ chunk. chunk.ok.0) g.SC.Challenge.ExtensionField.DIMENSION c.args.on.now.proof.now.opened_values.quotient_chunks.items c.as_slice-chunks.result.now c.as_slice-chunks.ensures.value
    (shaped_dimension c.requires.shaped)

pub check_rows-requires-clause-widths : goal.check_rows-requires-clause-widths
check_rows-requires-clause-widths g c =
    let layout = g.A.BaseAir.layout c.args.on.now.air.now in
    let opened = openings_view c.args.on.now.proof.now.opened_values in
    let periodic = c.args.point.now.periodic_values.items in
    let rows = rows_of g.SC.Challenge.Field.ring.zero layout.main layout.preprocessed opened periodic c.args.on.now.public_values.now in
    let same = c.rows_at_point-rows.ensures ∙ rows_are rows _ _ _ _ _ _ c.as_slice.ensures.value (filled (unwrap_or opened.trace_next) g.SC.Challenge.Field.ring.zero c.row_or.ensures c.as_slice-2.ensures.value c.in_ok-next_filler.ensures c.width.ensures) (opened_local (λ row. row.now) c.preprocessed_local.result opened.preprocessed c.preprocessed_local.ensures) (filled (λ filler. preprocessed_next filler opened.preprocessed) g.SC.Challenge.Field.ring.zero c.preprocessed_next.ensures c.as_slice-3.ensures.value c.in_ok-preprocessed_filler.ensures c.preprocessed_width.ensures) c.as_slice-4.ensures.value refl in
    let covered = shaped_covered c.requires.shaped periodic _ (g.met.A.BaseAir.as_declared c.args.on.now.air.now)
    (ap length c.requires.sampled.are_values ∙ length-map (g.A.BaseAir.periodic_columns c.args.on.now.air.now) _) in
    λ _. subst (λ given. Covers (opened_layout given) layout) (sym same) covered

pub returns : goal.returns
returns g c =
    let layout = g.A.BaseAir.layout c.args.on.now.air.now in
    let opened = openings_view c.args.on.now.proof.now.opened_values in
    let periodic = c.args.point.now.periodic_values.items in
    let rows = rows_of g.SC.Challenge.Field.ring.zero layout.main layout.preprocessed opened periodic c.args.on.now.public_values.now in
    let same = c.rows_at_point-rows.ensures ∙ rows_are rows _ _ _ _ _ _ c.as_slice.ensures.value (filled (unwrap_or opened.trace_next) g.SC.Challenge.Field.ring.zero c.row_or.ensures c.as_slice-2.ensures.value c.in_ok-next_filler.ensures c.width.ensures) (opened_local (λ row. row.now) c.preprocessed_local.result opened.preprocessed c.preprocessed_local.ensures) (filled (λ filler. preprocessed_next filler opened.preprocessed) g.SC.Challenge.Field.ring.zero c.preprocessed_next.ensures c.as_slice-3.ensures.value c.in_ok-preprocessed_filler.ensures c.preprocessed_width.ensures) c.as_slice-4.ensures.value refl in
    let trace = g.SC.Pcs.Domain.PolynomialSpace.coset_of c.args.domains.trace in
    let quotient = g.SC.Pcs.Domain.PolynomialSpace.coset_of c.args.domains.quotient in
    let log_chunks = c.args.domains.log_chunks in
    let recomposed = c.in_ok-quotient.ensures ∙ ap (λ chunks. recomposition g.SC.Challenge.Field.ring g.SC.Challenge.Field.ring (λ e. e) g.SC.Challenge.Field.inverse_of (2 ^ (quotient.log_size - log_chunks)) g.SC.Challenge.ExtensionField.basis
    (chunk_shifts g.SC.Pcs.Domain.Val.Field.ring g.SC.Pcs.Domain.Val.TwoAdicField.root g.SC.Challenge.ExtensionField.embed quotient log_chunks) (map (λ chunk. chunk.items) chunks) c.args.point.now.zeta) c.as_slice-chunks.ensures.value in
    let group = subgroup_of g.SC.Challenge.Field.inverse_of g.SC.Challenge.ExtensionField.embed g.SC.Pcs.Domain.Val.TwoAdicField.root trace in
    let shaped = c.requires.shaped in
    let values = c.requires.sampled.are_values in
    record {
      holds = on_ok _ _ c.check_rows.result (λ _ holding. balanced_held trace quotient log_chunks periodic shaped.domains.is_trace shaped.quotient.is_domain shaped.quotient.is_count shaped.extended values holding)
          (equation_held g.SC.Pcs.Domain.Val.Field.ring g.SC.Challenge.Field.ring g.SC.Challenge.ExtensionField.embed group (g.A.Air.constraints c.args.on.now.air.now) _ rows c.args.point.now.zeta c.args.point.now.alpha _ _ same recomposed c.check_rows.result c.check_rows.ensures.holds);
      fault = on_err _ _ c.check_rows.result (λ _ fault. balanced_fault trace quotient log_chunks periodic shaped.domains.is_trace shaped.quotient.is_domain shaped.quotient.is_count shaped.extended values fault)
          (equation_fault g.SC.Pcs.Domain.Val.Field.ring g.SC.Challenge.Field.ring g.SC.Challenge.ExtensionField.embed group (g.A.Air.constraints c.args.on.now.air.now) _ rows c.args.point.now.zeta c.args.point.now.alpha _ _ same recomposed (shaped_widths shaped periodic) c.check_rows.result c.check_rows.ensures.fault);
    }
