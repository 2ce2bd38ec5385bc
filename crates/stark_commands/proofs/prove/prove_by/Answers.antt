use Rattle.std.proofs.Common.{ap, refl}
use Rattle.stark_commands.specs.ProofInput.{named_challenger}
use Rattle.stark_commands.proofs.Proved.{proved_by_hashing, proved_by_script}
use Rattle.stark_commands.proofs.prove.prove_by.Goals as goal

pub returns-in-Sha256 : goal.returns-in-Sha256
returns-in-Sha256 g c = λ height rows. proved_by_hashing _ _ _ _ _ _ _ _ height _ _ _ _ _ _ _ (ap named_challenger c.in-Sha256.is) refl (c.prove_trace.ensures height rows)

pub returns-in-Script : goal.returns-in-Script
returns-in-Script g c = λ height rows. proved_by_script _ _ _ _ _ _ _ _ height _ _ _ _ _ _ _ _ (ap named_challenger c.in-Script.is) c.new-script.ensures (c.prove_trace-in-Script.ensures height rows)
