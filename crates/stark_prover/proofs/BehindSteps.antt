-- What stands behind the rounds of a proof whose quotient is committed.
use Rattle.std.proofs.Common.{◌≡◌, ◌∙◌, ap, sym, ℕ, ◌^◌, List, length, map, Option, None, Some, option_map}
use Rattle.std.specs.List.{AllByRecursion}
use Rattle.std.specs.Prelude.{is_some}
use Rattle.stark_support.specs.Claims.{RoundPoints}
use Rattle.stark_support.specs.Scheme.{OpenedRound, QuotientChunk, RoundStands, handed, true_values}
use Rattle.stark_air.specs.Declaration.{Trace}
use Rattle.stark_transcript.specs.Shape.{opens_next_row}
use Rattle.stark_protocol.specs.Instance.{Instance, ProtocolOps}
use Rattle.stark_protocol.specs.declared.preprocessed.PreprocessedProverData.{PreprocessedProverData}
use Rattle.stark_prover.specs.ProofOfTrace.{IsRandomization, key_of, true_openings, with_masks, without_masks}
use Rattle.stark_prover.specs.ProverFault.{HasQuotient, log_chunks_of}
use Rattle.stark_prover.specs.Rounds.{StandBehind, opened_lists, points_of, rounds_of}
use Rattle.stark_prover.proofs.OpeningClaims.{openings_are, proof_rounds, rounds_openings}
use Rattle.stark_prover.proofs.OpeningSteps.{all_handed_masked, all_handed_unmasked, all_values_masked, all_values_unmasked, stand_masked, stand_unmasked}

module _ {S F E C K T P X Y : Type 0} {ops : ProtocolOps S F E C K T P X Y} {i : Instance S F C K} {coordinates : E → List F} {preprocessed_data : Option (PreprocessedProverData K T)} {height degree_bits : ℕ} {trace : Trace F}
    {columns preprocessed : List (List F)} {commitment : K} {prover_data : T} {alpha : E} {alpha_witness : F} {state : C} {chunks : List (QuotientChunk F)} {quotient : K} {quotient_data : T}
    (made : HasQuotient ops i coordinates preprocessed_data height degree_bits trace columns preprocessed commitment prover_data alpha alpha_witness state chunks quotient quotient_data) (key_is : i.key ≡ option_map key_of preprocessed_data) (zeta next_zeta : E) where
  -- the rounds that are opened, with so many chunks of the quotient
  abbrev pub rounds_with : ℕ → Option T → List (RoundPoints E T)
  rounds_with count random_data =
      rounds_of zeta (points_of zeta next_zeta (opens_next_row i.main_next_columns)) (points_of zeta next_zeta (opens_next_row i.preprocessed_next_columns)) count random_data prover_data quotient_data (option_map (λ of_data. of_data.prover_data) preprocessed_data)

  abbrev pub AreBehind : Option T → Option (List (List F)) → List (OpenedRound F E K T) → Type 0
  AreBehind random_data random_columns rounds = StandBehind ops.opening.scheme ops.opening.fields.ring ops.opening.fields.embed i.scheme ops.opening.is_zk (rounds_with (2 ^ log_chunks_of ops i degree_bits) random_data) rounds (true_openings ops i columns preprocessed chunks random_columns zeta next_zeta)

  -- What is handed of rounds that stand, with their true values, stands behind the proof.
  pub behind_with : (random_data : Option T) (random_columns : Option (List (List F))) {rounds : List (OpenedRound F E K T)} → AllByRecursion (RoundStands ops.opening.scheme i.scheme) rounds → rounds_with (length chunks) random_data ≡ map handed rounds
      → map (true_values ops.opening.fields.ring ops.opening.fields.embed) rounds ≡ opened_lists (rounds_openings ops i degree_bits columns preprocessed chunks commitment quotient prover_data quotient_data zeta next_zeta preprocessed_data key_is random_columns)
      → is_some (true_openings ops i columns preprocessed chunks random_columns zeta next_zeta).random ≡ ops.opening.is_zk → AreBehind random_data random_columns rounds
  behind_with random_data random_columns stand are_handed values random = record {
    stand = stand;
    are_handed = ap (λ count. rounds_with count random_data) (sym made.quotient_committed.chunked.number) ∙ are_handed;
    values = values ∙ ap opened_lists (openings_are ops i degree_bits columns preprocessed chunks commitment quotient prover_data quotient_data zeta next_zeta preprocessed_data key_is random_columns);
    random = random;
  }

  unfoldable pub behind_rounds : {random : Option K} {random_data : Option T} {random_columns : Option (List (List F))} → IsRandomization ops i degree_bits random random_data random_columns → (rounds : List (OpenedRound F E K T)) × AreBehind random_data random_columns rounds
  behind_rounds (without_masks unmasked) = (
    proof_rounds ops i degree_bits columns preprocessed chunks commitment quotient prover_data quotient_data zeta next_zeta preprocessed_data key_is None None None,
    behind_with None None (stand_unmasked ops.opening.scheme i.scheme ops.opening.fields.base ops.opening.fields.ring ops.opening.fields.embed zeta next_zeta degree_bits columns preprocessed chunks ops.opening.is_zk commitment quotient prover_data quotient_data
        (opens_next_row i.main_next_columns) (opens_next_row i.preprocessed_next_columns) preprocessed_data
        made.bound.ready.committed.stands made.quotient_committed.stands made.bound.ready.preprocessed) (all_handed_unmasked ops.opening.scheme i.scheme ops.opening.fields.base ops.opening.fields.ring ops.opening.fields.embed zeta next_zeta degree_bits columns preprocessed chunks ops.opening.is_zk commitment quotient prover_data quotient_data
        (opens_next_row i.main_next_columns) (opens_next_row i.preprocessed_next_columns) preprocessed_data)
        (all_values_unmasked ops.opening.scheme i.scheme ops.opening.fields.base ops.opening.fields.ring ops.opening.fields.embed zeta next_zeta degree_bits columns preprocessed chunks ops.opening.is_zk commitment quotient prover_data quotient_data
        (opens_next_row i.main_next_columns) (opens_next_row i.preprocessed_next_columns) preprocessed_data) (sym unmasked),
  )
  behind_rounds (with_masks {commitment = k} {prover_data = t} {columns = cs} masked is_random) = (
    proof_rounds ops i degree_bits columns preprocessed chunks commitment quotient prover_data quotient_data zeta next_zeta preprocessed_data key_is (Some k) (Some t) (Some cs),
    behind_with (Some t) (Some cs) (stand_masked ops.opening.scheme i.scheme ops.opening.fields.base ops.opening.fields.ring ops.opening.fields.embed zeta next_zeta degree_bits columns preprocessed chunks ops.opening.is_zk commitment quotient prover_data quotient_data
        (opens_next_row i.main_next_columns) (opens_next_row i.preprocessed_next_columns) preprocessed_data k t cs
        is_random.stands made.bound.ready.committed.stands made.quotient_committed.stands made.bound.ready.preprocessed) (all_handed_masked ops.opening.scheme i.scheme ops.opening.fields.base ops.opening.fields.ring ops.opening.fields.embed zeta next_zeta degree_bits columns preprocessed chunks ops.opening.is_zk commitment quotient prover_data quotient_data
        (opens_next_row i.main_next_columns) (opens_next_row i.preprocessed_next_columns) preprocessed_data k t cs)
        (all_values_masked ops.opening.scheme i.scheme ops.opening.fields.base ops.opening.fields.ring ops.opening.fields.embed zeta next_zeta degree_bits columns preprocessed chunks ops.opening.is_zk commitment quotient prover_data quotient_data
        (opens_next_row i.main_next_columns) (opens_next_row i.preprocessed_next_columns) preprocessed_data k t cs) (sym masked),
  )
