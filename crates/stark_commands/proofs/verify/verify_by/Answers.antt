use Rattle.std.proofs.Common.{ap}
use Rattle.stark_commands.specs.ProofInput.{named_challenger}
use Rattle.stark_commands.proofs.VerdictSteps.{verdict_by_hashing, verdict_by_script}
use Rattle.stark_commands.proofs.verify.verify_by.Goals as goal

pub returns-in-Sha256 : goal.returns-in-Sha256
returns-in-Sha256 g c = verdict_by_hashing _ _ _ _ _ _ _ _ _ _ _ (ap named_challenger c.in-Sha256.is) c.new-sha256.ensures c.verify_proof.ensures

pub returns-in-Script : goal.returns-in-Script
returns-in-Script g c = verdict_by_script _ _ _ _ _ _ _ _ _ _ _ _ (ap named_challenger c.in-Script.is) c.new-script.ensures c.verify_proof-in-Script.ensures
