use Rattle.std.proofs.Common.{[], map}
use Rattle.stark_lookup_rows.specs.Cut.{entry_of, entry_view, interaction_size, same_state}
use Rattle.stark_lookup_rows.proofs.CuttingSteps.{SoFar}
use Rattle.stark_lookup_rows.proofs.cut.group_from.Given as goal

abbrev pub invariant-loop-given : goal.invariant-loop-given
invariant-loop-given g l = SoFar interaction_size same_state (entry_of g.F.Field.ring l.form.width l.form.tag.items) tt l.group l.fn.values [] l.given-index tt (map entry_view l.all.items) l.rest
