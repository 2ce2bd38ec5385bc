use Rattle.std.proofs.Common.{◌≡◌, ◌++◌, map, drop}
use Rattle.stark_support.specs.Claims.{opened_view, round_view}
use Rattle.stark_columns.specs.Opened.{opened_round}
use Rattle.stark_clear.proofs.clear.opening.open_rounds.Given as goal

abbrev pub invariant-loop-round : goal.invariant-loop-round
invariant-loop-round g l =
    opened_view l.opened ++ map (λ r. opened_round g.EF.Field.ring g.EF.ExtensionField.embed (round_view r)) (drop l.round-index l.rounds)
    ≡ map (λ r. opened_round g.EF.Field.ring g.EF.ExtensionField.embed (round_view r)) l.rounds
