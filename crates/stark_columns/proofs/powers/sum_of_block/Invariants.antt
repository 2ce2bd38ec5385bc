use Rattle.std.proofs.Common.{◌≡◌, ◌≤◌, drop, map}
use Rattle.stark_support.specs.Extension.{basis_sum}
use Rattle.stark_columns.proofs.powers.sum_of_block.Given as goal

abbrev pub invariant-loop-place : goal.invariant-loop-place
invariant-loop-place g l =
    let ring = g.EF.Field.ring in
    let embed = g.EF.ExtensionField.embed in
    (l.place ≤ g.EF.ExtensionField.DIMENSION)
    × (l.sum ≡ basis_sum ring (λ c. c) (drop l.place g.EF.ExtensionField.basis) (map embed (drop l.place (g.EF.ExtensionField.coordinates (basis_sum ring embed l.coefficients l.powers)))))

abbrev pub decreases-loop-place : goal.decreases-loop-place
decreases-loop-place g l = l.place
