use Rattle.std.proofs.Common.{take}
use Rattle.stark_merkle.specs.Tree.{digests_in}
use Rattle.stark_fri_prover.specs.Layers.{OpensEach}
use Rattle.stark_fri_prover.proofs.opening.open_queries.Given as goal

abbrev pub invariant-loop-place : goal.invariant-loop-place
invariant-loop-place g l = OpensEach (λ d. d.extended.items) (λ d. digests_in d.layers.items) l.rounds l.layers (take l.place-index l.places) l.queries.items
