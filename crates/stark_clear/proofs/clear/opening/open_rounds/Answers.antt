use Rattle.std.proofs.Common.{◌∙◌, sym}
use Rattle.std.proofs.lemmas.Simd.{map-map}
use Rattle.stark_support.specs.Claims.{opened_view, round_view}
use Rattle.stark_support.proofs.Places.{all_mapped_front}
use Rattle.stark_columns.specs.Opened.{opened_round}
use Rattle.stark_clear.proofs.clear.opening.open_rounds.Goals as goal

pub returns : goal.returns
returns g c =
    all_mapped_front (opened_view c.loop-round.opened) (λ r. opened_round g.EF.Field.ring g.EF.ExtensionField.embed (round_view r)) c.args.rounds.now c.loop-round.round-index c.loop-round-test.false c.loop-round.invariant
    ∙ sym (map-map (opened_round g.EF.Field.ring g.EF.ExtensionField.embed) round_view c.args.rounds.now)
