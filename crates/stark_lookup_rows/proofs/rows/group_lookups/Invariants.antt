use Rattle.std.proofs.Common.{◌≡◌, ◌++◌, drop}
use Rattle.stark_lookup_rows.specs.RowEntries.{lookup_numbers}
use Rattle.stark_lookup_rows.proofs.rows.group_lookups.Given as goal

abbrev pub invariant-loop-lookup : goal.invariant-loop-lookup
invariant-loop-lookup l = (l.number ≡ l.lookup-index) × (l.all.items ++ lookup_numbers l.lookup-index (drop l.lookup-index l.given.lookups.items) ≡ lookup_numbers 0 l.given.lookups.items)
