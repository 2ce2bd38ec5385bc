use Rattle.std.proofs.Common.{subst}
use Rattle.stark_lookup_air.specs.LookupConstraints.{light_trees}
use Rattle.stark_lookup_extension.specs.Written.{WritesCombination, WritesDifference}
use Rattle.stark_lookup_extension.proofs.EquationSteps.{gap_steps}
use Rattle.stark_lookup_extension.proofs.Folding.{mapped_ok}
use Rattle.stark_lookup_extension.proofs.equations.gap.Goals as goal

pub returns : goal.returns
returns g c = mapped_ok _ _ c.difference.result c.difference.ensures (λ all made same.
    let b = c.combination.new.list in
    let d = c.difference.new.list in
    let compressed = c.in_ok-compressed.compressed.items in
    gap_steps (light_trees same g.F.Field.ring) c.args.draws.now c.args.list.now b d c.args.tuple.now compressed all.items
    (subst (λ rows. WritesCombination g.F.Field.ring c.args.list.now c.args.tuple.now rows compressed b) c.deref.ensures.value c.in_ok-compressed.ensures same)
    (subst (λ xs. WritesDifference g.F.Field.ring b xs compressed all.items d) c.deref-2.ensures.value (subst (λ ys. WritesDifference g.F.Field.ring b c.deref-2.result.now ys all.items d) c.deref-3.ensures.value made) same))
