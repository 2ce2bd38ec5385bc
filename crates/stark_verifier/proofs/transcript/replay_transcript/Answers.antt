use Rattle.std.proofs.Common.{rules}
use Rattle.stark_verifier.proofs.CheckSteps.{shaped_public_values}
use Rattle.stark_verifier.proofs.transcript.replay_transcript.Goals as goal

pub replay-requires-clause-opened : goal.replay-requires-clause-opened
replay-requires-clause-opened g c = record {
  counted = shaped_public_values c.requires.shaped;
  is_first = search rules;
  is_described = search rules;
  is_seeded = search rules;
}
