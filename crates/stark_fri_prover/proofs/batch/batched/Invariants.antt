use Rattle.std.proofs.Common.{map, take}
use Rattle.std.specs.List.{flat_map}
use Rattle.stark_support.specs.Claims.{round_view}
use Rattle.stark_fri_prover.specs.Batch.{RoundsFit, AddsOpened}
use Rattle.stark_fri_prover.specs.Commit.{data_seen}
use Rattle.stark_fri_prover.specs.Batching.{opened_in_round}
use Rattle.stark_fri_prover.proofs.batch.batched.Given as goal

abbrev pub invariant-loop-round : goal.invariant-loop-round
invariant-loop-round g l =
    let rounds = map (λ r. (data_seen r.0.root r.0.domain.log_size r.0.matrices r.0.extended, r.1)) (map round_view l.rounds) in
    RoundsFit l.size rounds → AddsOpened g.EF.Field.ring l.alpha (flat_map (opened_in_round g.EF.ExtensionField.embed) (take l.round-index rounds)) l.initial.sum.items l.sum.items g.EF.Field.ring.one l.factor
