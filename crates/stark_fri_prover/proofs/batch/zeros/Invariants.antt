use Rattle.stark_fri_prover.specs.Batch.{AreZeros}
use Rattle.stark_fri_prover.proofs.batch.zeros.Given as goal

abbrev pub invariant-loop-place : goal.invariant-loop-place
invariant-loop-place g l = AreZeros g.E.Field.ring l._place l.list.items
