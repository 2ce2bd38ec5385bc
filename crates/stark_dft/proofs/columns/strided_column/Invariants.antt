use Rattle.std.proofs.Common.{◌≡◌, length}
use Rattle.stark_support.specs.Polynomial.{value}
use Rattle.stark_dft.specs.Passes.{entry}
use Rattle.stark_dft.specs.Strided.{strided}
use Rattle.stark_dft.proofs.columns.strided_column.Given as goal

abbrev pub invariant-loop-i : goal.invariant-loop-i
invariant-loop-i g l = l.p.items ≡ strided (entry g.F.Field.ring l.rows) l.first l.step l.i

abbrev pub invariant-loop-place : goal.invariant-loop-place
invariant-loop-place g l =
    (length l.p.items ≡ l._place) × ((x : g.row.F.Denot) → value g.F.Field.ring l.p.items x ≡ value g.F.Field.ring (strided (entry g.F.Field.ring l.rows) l.first l.step l.count) x)
