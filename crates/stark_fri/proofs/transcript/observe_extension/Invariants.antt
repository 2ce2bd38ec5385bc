use Rattle.std.proofs.Common.{◌≡◌, drop}
use Rattle.stark_support.specs.Sponge.{observed_all}
use Rattle.stark_fri.proofs.transcript.observe_extension.Given as goal

-- What is left to observe, observed from here, gives what all of it gives from the start.
abbrev pub invariant-loop-index : goal.invariant-loop-index
invariant-loop-index g l =
    let coordinates = g.EF.ExtensionField.coordinates l.x in
    observed_all g.C.CanObserve-1.after_observe (drop l.index coordinates) l.challenger ≡ observed_all g.C.CanObserve-1.after_observe coordinates l.fn.challenger
