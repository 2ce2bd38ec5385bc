use Rattle.std.proofs.Common.{◌≡◌, drop}
use Rattle.stark_support.specs.Sponge.{observed_all}
use Rattle.stark_fri.specs.Parts.{ObservingCalls}
use Rattle.stark_fri.specs.Transcript.{observed_extension}
use Rattle.stark_fri.proofs.Members.{observing_by}
use Rattle.stark_fri.proofs.transcript.observe_values.Given as goal

abbrev pub calls_of : (g : goal.Over) → ObservingCalls g.row.C.Denot g.row.F.Denot g.row.EF.Denot
calls_of g = observing_by g.F.PrimeField64 g.EF.ExtensionField g.C.CanObserve-1 g.C.CanObserve-2

abbrev pub invariant-loop-value : goal.invariant-loop-value
invariant-loop-value g l =
    let observe = observed_extension (calls_of g) in
    observed_all observe (drop l.value-index l.values) l.challenger ≡ observed_all observe l.fn.values l.fn.challenger
