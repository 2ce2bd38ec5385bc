use Rattle.std.proofs.Common.{◌≡◌, ◌-◌, ◌^◌, length}
use Rattle.stark_support.specs.Folding.{IsValueThrough}
use Rattle.stark_support.specs.Interpolation.{interpolation}
use Rattle.stark_support.specs.Points.{powers_from}
use Rattle.stark_support.specs.Polynomial.{value_over}
use Rattle.stark_support.specs.TwoAdic.{HasOrder}
use Rattle.stark_support.proofs.folding.value_through.Given as goal

abbrev pub invariant-loop-fold : goal.invariant-loop-fold
invariant-loop-fold g l =
    (length l.left.items ≡ 2 ^ (l._fold-end - l._fold))
    × HasOrder g.F.Field.ring l.root (length l.left.items)
    × IsValueThrough g.EF.Field.ring (g.EF.ExtensionField.embed l.root) l.left.items l.at
    (value_over g.EF.Field.ring g.EF.ExtensionField.embed (interpolation g.F.Field.ring g.F.Field.inverse_of (powers_from g.F.Field.ring l.fn.generator 0 (length l.fn.values)) l.fn.values) l.fn.point)
