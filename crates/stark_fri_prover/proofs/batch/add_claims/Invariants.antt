use Rattle.std.proofs.Common.{◌≡◌, ◌++◌, ◌-◌, length}
use Rattle.stark_support.specs.Powers.{power}
use Rattle.stark_fri_prover.specs.Batch.{weights_from}
use Rattle.stark_fri_prover.proofs.batch.add_claims.Given as goal

abbrev pub invariant-loop-column : goal.invariant-loop-column
invariant-loop-column g l = record {
  weights : l.weights.items ++ weights_from g.EF.Field.ring l.alpha l.factor (length l.columns - l._column-index) ≡ weights_from g.EF.Field.ring l.alpha l.fn.first (length l.columns);
  factor : l.factor ≡ g.EF.Field.ring.mul l.fn.first (power g.EF.Field.ring l.alpha l._column-index);
}
