use Rattle.std.proofs.Common.{take, map}
use Rattle.stark_columns.specs.Columns.{columns_list}
use Rattle.stark_fri_prover.specs.Commit.{AreExtended}
use Rattle.stark_fri_prover.proofs.commit.extended_rows.Given as goal

abbrev pub invariant-loop-index : goal.invariant-loop-index
invariant-loop-index g l =
    AreExtended g.F.Field.ring g.F.TwoAdicField.root (record { shift = l.domain.shift; log_size = l.domain.log_size }) (take l.index (map columns_list l.matrices)) l.extended.items
