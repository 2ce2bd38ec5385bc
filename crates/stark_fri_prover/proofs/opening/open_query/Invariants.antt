use Rattle.std.proofs.Common.{take}
use Rattle.stark_merkle.specs.Tree.{digests_in}
use Rattle.stark_fri_prover.specs.Layers.{OpensRows}
use Rattle.stark_fri_prover.proofs.opening.open_query.Given as goal

abbrev pub invariant-loop-round : goal.invariant-loop-round
invariant-loop-round g l = OpensRows (λ d. d.extended.items) (λ d. digests_in d.layers.items) l.place (take l.round-index l.rounds) l.inputs.items
