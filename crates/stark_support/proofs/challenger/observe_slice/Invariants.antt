use Rattle.std.proofs.Common.{◌≡◌, drop}
use Rattle.stark_support.specs.Sponge.{observed_all}
use Rattle.stark_support.proofs.challenger.observe_slice.Given as goal

-- What is left to observe, observed from here, gives what all of it gives from the start.
abbrev pub invariant-loop-value : goal.invariant-loop-value
invariant-loop-value g l = observed_all g.C.CanObserve.after_observe (drop l.value-index l.values) l.challenger ≡ observed_all g.C.CanObserve.after_observe l.fn.values l.fn.challenger
