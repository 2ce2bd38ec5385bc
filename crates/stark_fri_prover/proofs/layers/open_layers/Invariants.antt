use Rattle.stark_fri_prover.proofs.WaySteps.{WayTo}
use Rattle.stark_fri_prover.proofs.layers.open_layers.Given as goal

abbrev pub invariant-loop-layer : goal.invariant-loop-layer
invariant-loop-layer g l = WayTo l.layers l.fn.start l.layer-index l.place l.opened.items
