use Rattle.std.proofs.Common.{length, map, nat_lt}
use Rattle.stark_lookup_rows.specs.Cut.{entries_view, groups_size, lookup_of}
use Rattle.stark_lookup_rows.proofs.CuttingSteps.{SoFar}
use Rattle.stark_lookup_rows.proofs.cut.push_lookups.Given as goal

abbrev pub invariant-loop-lookup : goal.invariant-loop-lookup
invariant-loop-lookup g l =
    SoFar (λ x. groups_size x.groups.items) (λ number. g.F.Field.ring.add number g.F.Field.ring.one) (lookup_of g.F.Field.ring l.width (nat_lt 1 (length l.lookups))) g.F.Field.ring.zero l.lookups l.fn.values (map entries_view l.fn.all.items)
    l.lookup-index l.number (map entries_view l.all.items) l.rest
