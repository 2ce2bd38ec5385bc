use Rattle.std.proofs.Common.{◌≡◌, ◌++◌, ◌-◌, map}
use Rattle.stark_support.specs.Powers.{power}
use Rattle.stark_support.specs.Points.{powers_from}
use Rattle.stark_columns.proofs.columns.domain_points.Given as goal

abbrev pub invariant-loop-row : goal.invariant-loop-row
invariant-loop-row g l =
    (l.power ≡ power g.F.Field.ring l.generator l._row)
    × (l.points.items ++ map (g.F.Field.ring.mul l.domain.shift) (powers_from g.F.Field.ring l.generator l._row (l._row-end - l._row)) ≡ map (g.F.Field.ring.mul l.domain.shift) (powers_from g.F.Field.ring l.generator 0 l._row-end))
