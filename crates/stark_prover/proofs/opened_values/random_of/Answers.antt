use Rattle.std.proofs.Common.{map, option_to_list, subst, ◌≡◌}
use Rattle.stark_prover.specs.Rounds.{random_opened}
use Rattle.stark_prover.proofs.OpenedSteps.{random_row}
use Rattle.stark_prover.proofs.opened_values.random_of.Goals as goal

pub row_of_round-requires : goal.row_of_round-requires
row_of_round-requires g c =
    random_row (λ r. map (λ m. map (λ p. p.items) m.items) r.items) c.in-Some.round c.requires.0
    (subst (λ o. map (λ r. map (λ m. map (λ p. p.items) m.items) r.items) (option_to_list o) ≡ random_opened c.requires.0) c.in-Some.is c.requires.1)
