use Rattle.stark_lookup_check.specs.Balance.{entries_of}
use Rattle.stark_lookup_check.proofs.BalanceSteps.{ZeroBefore}
use Rattle.stark_lookup_check.proofs.balance.first_unbalanced.Given as goal

abbrev pub invariant-loop-place : goal.invariant-loop-place
invariant-loop-place g l = ZeroBefore g.F.Field.ring (entries_of l.entries) l.place
