use Rattle.std.proofs.Common.{map}
use Rattle.stark_lookup_rows.specs.Cut.{entries_view, group_of, group_size, same_state}
use Rattle.stark_lookup_rows.proofs.CuttingSteps.{SoFar}
use Rattle.stark_lookup_rows.proofs.cut.push_groups.Given as goal

abbrev pub invariant-loop-group : goal.invariant-loop-group
invariant-loop-group g l =
    SoFar (λ group. group_size group.items) same_state (group_of g.F.Field.ring l.form.width l.form.tag.items) tt l.groups l.fn.values (map entries_view l.fn.all.items) l.group-index tt (map entries_view l.all.items) l.rest
