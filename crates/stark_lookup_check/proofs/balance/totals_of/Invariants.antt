use Rattle.std.proofs.Common.{take}
use Rattle.stark_lookup_check.specs.Balance.{entries_of}
use Rattle.stark_lookup_check.specs.Totals.{AreTotalsOf}
use Rattle.stark_lookup_check.proofs.balance.totals_of.Given as goal

abbrev pub invariant-loop-entry : goal.invariant-loop-entry
invariant-loop-entry g l = AreTotalsOf g.F.Field.ring g.F.PrimeField64.number_of (entries_of (take l.entry-index l.entries)) l.totals
