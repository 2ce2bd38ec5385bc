use Rattle.std.proofs.Common.{◌∙◌, ◌+◌, ◌*◌, ap}
use Rattle.std.specs.Prelude.{slice_range}
use Rattle.stark_support.specs.Scheme.{matrix_row}
use Rattle.stark_fri_prover.specs.Words.{element_of}
use Rattle.stark_fri_prover.proofs.Steps.{place_more}
use Rattle.stark_fri_prover.proofs.layers.elements_of.Goals as goal

pub loop-place-preserved : goal.loop-place-preserved
loop-place-preserved g c =
    let element = element_of g.EF.Field.ring g.EF.ExtensionField.embed g.EF.ExtensionField.basis in
    let coordinates = c.args.coordinates.now in
    let place = c.loop-place.place in
    place_more (λ place. element (matrix_row coordinates g.EF.ExtensionField.DIMENSION place)) place c.element_of.result c.loop-place.elements.items _ c.in_ok-push.ensures.items c.loop-place.invariant
    (c.element_of.ensures ∙ ap (λ n. element (slice_range coordinates (place * n) (place * n + c.DIMENSION-in-loop-place.result))) c.DIMENSION.ensures
    ∙ ap (λ n. element (slice_range coordinates (place * g.EF.ExtensionField.DIMENSION) (place * g.EF.ExtensionField.DIMENSION + n))) c.DIMENSION-in-loop-place.ensures)
