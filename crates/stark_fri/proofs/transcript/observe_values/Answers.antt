use Rattle.stark_fri.specs.Transcript.{observed_extension}
use Rattle.stark_fri.proofs.ObserveSteps.{all_observed_as_they_are, one_more_as_it_is}
use Rattle.stark_fri.proofs.transcript.observe_values.Invariants.{calls_of}
use Rattle.stark_fri.proofs.transcript.observe_values.Goals as goal

pub loop-value-preserved : goal.loop-value-preserved
loop-value-preserved g c =
    one_more_as_it_is (observed_extension (calls_of g)) c.args.values.now c.loop-value.value-index c.value-item.result c.loop-value.challenger c.observe_extension.new.challenger _
    c.loop-value-test.true c.value-item.is c.observe_extension.ensures c.loop-value.invariant

pub returns : goal.returns
returns g c = all_observed_as_they_are (observed_extension (calls_of g)) c.args.values.now c.loop-value.value-index c.loop-value.challenger _ c.loop-value-test.false c.loop-value.invariant
