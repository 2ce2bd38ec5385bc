use Rattle.std.proofs.Common.{◌∙◌, sym, map, ◌∷◌, []}
use Rattle.stark_prover.specs.Rounds.{preprocessed_opened, random_opened, rows_of}
use Rattle.stark_prover.proofs.OpenedSteps.{as_long, chunks_again, joined, quotient_of, single_rows}
use Rattle.stark_prover.proofs.opened_values.values_of.Goals as goal

pub each_row-requires : goal.each_row-requires
each_row-requires g c =
    let view = c.requires.0 in
    single_rows (λ m. m.items) (λ p. p.items) _ view.quotient_chunks
    (quotient_of (λ r. map (λ m. map (λ p. p.items) m.items) r.items) c.args.opened.items _ _ _ _ (random_opened view.random) (preprocessed_opened view.preprocessed) (rows_of view.trace_local view.trace_next ∷ []) _
    c.split_rounds-random.ensures.items c.requires.1 (as_long _ c.split_rounds-random.result.0 view.random (c.split_rounds-random.ensures.there ∙ sym c.requires.2)))

pub returns-clause-lists : goal.returns-clause-lists
returns-clause-lists g c =
    joined (λ r. map (λ m. map (λ p. p.items) m.items) r.items) c.args.opened.items _ _ _ _ c.split_rounds-random.ensures.items c.random_of-random.ensures.row c.rows_of_round-trace_local.ensures
    (chunks_again (λ m. m.items) (λ p. p.items) _ c.in_ok-quotient_chunks.quotient_chunks.items c.in_ok-quotient_chunks.ensures) c.preprocessed_of-preprocessed.ensures
