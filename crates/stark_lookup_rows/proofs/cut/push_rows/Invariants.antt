use Rattle.std.proofs.Common.{map}
use Rattle.stark_lookup_rows.specs.Cut.{cut_lookups, entries_view}
use Rattle.stark_lookup_rows.proofs.RowsInTurn.{AreCutBelow}
use Rattle.stark_lookup_rows.proofs.cut.push_rows.Given as goal

abbrev pub invariant-loop : goal.invariant-loop
invariant-loop g l = AreCutBelow (cut_lookups g.F.Field.ring l.given.width l.given.lookups.items) l.size l.fn.values (map entries_view l.fn.all.items) l.counter (map entries_view l.all.items) l.rest
