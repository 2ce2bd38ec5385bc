use Rattle.std.proofs.Common.{◌∙◌, ◌∷◌, [], ap, map}
use Rattle.std.proofs.lemmas.List.{map-append}
use Rattle.stark_columns.specs.Columns.{column_list}
use Rattle.stark_fri_prover.specs.Words.{coordinate_at}
use Rattle.stark_fri_prover.proofs.Steps.{place_more}
use Rattle.stark_fri_prover.proofs.layers.coordinate_columns.Goals as goal

pub loop-place-preserved : goal.loop-place-preserved
loop-place-preserved g c =
    place_more (λ place. map (coordinate_at g.EF.ExtensionField.coordinates g.F.Field.ring.zero place) c.args.polynomial.now) c.loop-place.place c.in_ok-column.column.items (map column_list c.loop-place.columns.items) _
    (ap (map column_list) c.in_ok-push.ensures.items ∙ map-append column_list c.loop-place.columns.items (c.in_ok-column.column ∷ []))
    c.loop-place.invariant c.in_ok-column.ensures
