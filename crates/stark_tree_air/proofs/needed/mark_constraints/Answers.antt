use Rattle.std.proofs.Common.{◌<◌, arith, get_or, length, subst, sym}
use Rattle.stark_tree_air.specs.declared.node.TreeConstraint.TheVariants.{Base}
use Rattle.stark_tree_air.proofs.NeededSteps.{place_fits}
use Rattle.stark_tree_air.proofs.Steps.{at_place, constraint_fits}
use Rattle.stark_tree_air.proofs.needed.mark_constraints.Goals as goal

pub bounds-marks-constraint_place : goal.bounds-marks-constraint_place
bounds-marks-constraint_place c =
    let cs = c.args.constraints.now in
    let i = c.loop-constraint.constraint-index in
    let within : i < length cs = omega arith in
    subst (λ p. p < length c.loop-constraint.marks) (sym c.constraint_place.ensures)
    (place_fits _ _ (constraint_fits _ cs i (get_or cs i (Base 0)) within (at_place cs i _ _ within) c.loop-constraint.invariant.1))
