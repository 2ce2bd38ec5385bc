use Rattle.std.proofs.Common.{◌≡◌, ◌++◌, drop}
use Rattle.stark_support.specs.Polynomial.{scaled}
use Rattle.stark_clear.proofs.masked.columns.masked.Given as goal

abbrev pub invariant-loop-coefficient : goal.invariant-loop-coefficient
invariant-loop-coefficient g l = l.p.items ++ scaled g.F.Field.ring l.scale (drop l.coefficient-index l.mask) ≡ l.plain ++ scaled g.F.Field.ring l.scale l.mask
