use Rattle.std.proofs.Common.{subst}
use Rattle.stark_clear.specs.Stops.{StopsAt}
use Rattle.stark_clear.specs.declared.clear.pcs.ClearPcs.{ClearPcs}
use Rattle.stark_clear.specs.declared.clear.call.ClearCall.TheVariants.{CommitPreprocessing}
use Rattle.stark_commands.proofs.verify.verify_in_the_clear.Goals as goal

pub verify_with_key-requires-clause-sets_up : goal.verify_with_key-requires-clause-sets_up
verify_with_key-requires-clause-sets_up g c = λ coset values width reason stops. subst (λ (s : ClearPcs _). StopsAt s.stops_at CommitPreprocessing) c.requires.stops_nowhere stops
