use Rattle.std.proofs.Common.{◌∙◌, refl, rules}
use Rattle.stark_prover.proofs.PartsSteps.{data_clear}
use Rattle.stark_prover.proofs.prover.prove_over_transcript.Goals as goal

pub proof_from_transcript-requires-clause-seeded : goal.proof_from_transcript-requires-clause-seeded
proof_from_transcript-requires-clause-seeded g c = record {
  opened = search rules;
  described = search rules;
  seeded = search rules;
  there = data_clear _ _ c.args.instance.now.preprocessed _ (c.in_ok-transcript.ensures.described ∙ c.in_ok-shape.ensures) refl c.requires.there c.requires.width;
}
