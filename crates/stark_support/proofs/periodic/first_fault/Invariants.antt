use Rattle.std.proofs.Common.{◌≡◌, map, drop, vec_len}
use Rattle.stark_support.specs.Periodic.{first_fault}
use Rattle.stark_support.proofs.periodic.first_fault.Given as goal

abbrev pub invariant-loop-index : goal.invariant-loop-index
invariant-loop-index g l = first_fault l.trace_len l.index (map vec_len (drop l.index l.columns)) ≡ first_fault l.trace_len 0 (map vec_len l.columns)
