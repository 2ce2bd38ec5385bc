use Rattle.std.proofs.Common.{sym, vec_len}
use Rattle.stark_support.specs.PeriodicFacts.{all_fit, powers}
use Rattle.stark_support.proofs.periodic.PeriodicColumns.new.Goals as goal

pub invariant_of-result : goal.invariant_of-result
invariant_of-result g c = record { fit = all_fit vec_len c.args.trace_len 0 c.args.columns.now (sym c.in-None.ensures) }

pub returns-in-None-clause-powers : goal.returns-in-None-clause-powers
returns-in-None-clause-powers g c = powers vec_len c.args.trace_len c.args.columns.now (all_fit vec_len c.args.trace_len 0 c.args.columns.now (sym c.in-None.ensures))
