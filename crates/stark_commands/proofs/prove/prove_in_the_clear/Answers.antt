use Rattle.std.proofs.Common.{subst}
use Rattle.stark_clear.specs.Stops.{StopsAt}
use Rattle.stark_clear.specs.declared.clear.pcs.ClearPcs.{ClearPcs}
use Rattle.stark_clear.specs.declared.clear.call.ClearCall.TheVariants.{CommitPreprocessing, Verify}
use Rattle.stark_commands.proofs.prove.prove_in_the_clear.Goals as goal

pub prove_with_own_columns-requires-clause-complete : goal.prove_with_own_columns-requires-clause-complete
prove_with_own_columns-requires-clause-complete g c = λ stops. subst (λ (s : ClearPcs _). StopsAt s.stops_at Verify) c.requires.stops_nowhere stops

pub prove_with_own_columns-requires-clause-sets_up : goal.prove_with_own_columns-requires-clause-sets_up
prove_with_own_columns-requires-clause-sets_up g c = λ coset values width reason stops. subst (λ (s : ClearPcs _). StopsAt s.stops_at CommitPreprocessing) c.requires.stops_nowhere stops
