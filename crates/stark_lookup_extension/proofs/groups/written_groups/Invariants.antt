use Rattle.stark_lookup_extension.proofs.GroupSteps.{GroupsSoFar}
use Rattle.stark_lookup_extension.proofs.groups.written_groups.Given as goal

abbrev pub invariant-loop-lookup : goal.invariant-loop-lookup
invariant-loop-lookup g l = GroupsSoFar g.F.Field.ring l.given l.fn.list l.lookup-index l.number l.all.items l.list
