use Rattle.std.proofs.Common.{◌≡◌, ◌++◌, ◌-◌}
use Rattle.stark_support.specs.Powers.{power}
use Rattle.stark_support.specs.Points.{powers_from}
use Rattle.stark_columns.proofs.powers.point_powers.Given as goal

abbrev pub invariant-loop-index : goal.invariant-loop-index
invariant-loop-index g l =
    (l.powers.items ++ powers_from g.EF.Field.ring l.point l._index (l.count - l._index) ≡ powers_from g.EF.Field.ring l.point 0 l.count)
    × (l.power ≡ power g.EF.Field.ring l.point l._index)
