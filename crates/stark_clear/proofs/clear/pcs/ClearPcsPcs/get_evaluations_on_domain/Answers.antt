use Rattle.std.proofs.Common.{◌∙◌, ap}
use Rattle.std.specs.List.{slice_get}
use Rattle.std.specs.Prelude.{option_map}
use Rattle.std.proofs.lemmas.Option.{slice_get-map}
use Rattle.stark_clear.proofs.clear.pcs.ClearPcsPcs.get_evaluations_on_domain.Goals as goal

pub returns : goal.returns
returns g c = λ commitment matrices matrix stands there.
    c.in_ok-rows.ensures matrix.columns (ap (λ t. slice_get t c.args.index) (c.matrices.ensures ∙ stands.1) ∙ slice_get-map (λ m. m.columns) matrices c.args.index ∙ ap (option_map (λ m. m.columns)) there)
