use Rattle.std.proofs.Common.{◌∙◌, ◌+◌, ap, map}
use Rattle.std.specs.List.{slice_get}
use Rattle.std.specs.Prelude.{option_map}
use Rattle.std.proofs.lemmas.Option.{slice_get-map}
use Rattle.stark_columns.specs.Columns.{columns_list}
use Rattle.stark_fri.specs.Scheme.{extension_of}
use Rattle.stark_fri_prover.proofs.RowSteps.{stored_rows}
use Rattle.stark_fri_prover.proofs.pcs.FriPcsPcs.get_evaluations_on_domain.Goals as goal

pub returns-then-is_extension : goal.returns-then-is_extension
returns-then-is_extension g c = λ commitment matrices matrix stands there.
    stored_rows g.F.Field.ring g.F.TwoAdicField.root _ _ (map columns_list c.args.prover_data.now.matrices.items) c.args.prover_data.now.extended.items c.args.index matrix.columns
    c.in_ok-rows.rows.values.items c.in_ok-rows.rows.width stands.0.rows
    (ap (λ t. slice_get t c.args.index) stands.0.columns ∙ slice_get-map (λ m. m.columns) matrices c.args.index ∙ ap (option_map (λ m. m.columns)) there)
    (c.is_extension.ensures c.if-is_extension.true ∙ ap (λ n. extension_of g.F.Field.GENERATOR (c.args.prover_data.now.domain.log_size + n)) c.log_blowup.ensures)
    c.in_ok-rows.ensures.stored

pub returns : goal.returns
returns g c = λ commitment matrices matrix stands there.
    c.in_ok-rows-2.ensures matrix.columns (ap (λ t. slice_get (map columns_list t) c.args.index) c.matrices.ensures ∙ ap (λ t. slice_get t c.args.index) stands.0.columns
    ∙ slice_get-map (λ m. m.columns) matrices c.args.index ∙ ap (option_map (λ m. m.columns)) there)
