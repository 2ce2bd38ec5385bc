use Rattle.std.proofs.Common.{◌≡◌, ◌++◌, drop, map}
use Rattle.stark_support.specs.Claims.{opened_view}
use Rattle.stark_columns.specs.Columns.{columns_list}
use Rattle.stark_columns.specs.Opened.{matrices_at}
use Rattle.stark_fri_prover.proofs.claims.open_rounds.Given as goal

abbrev pub invariant-loop-round : goal.invariant-loop-round
invariant-loop-round g l =
    opened_view l.opened ++ map (λ r. matrices_at g.EF.Field.ring g.EF.ExtensionField.embed (map columns_list r.0.now.matrices.items) (map (λ p. p.items) r.1.items)) (drop l.round-index l.rounds)
    ≡ map (λ r. matrices_at g.EF.Field.ring g.EF.ExtensionField.embed (map columns_list r.0.now.matrices.items) (map (λ p. p.items) r.1.items)) l.rounds
