use Rattle.std.proofs.Common.{◌≡◌, ◌+◌, ◌*◌}
use Rattle.stark_dft.specs.Passes.{IsInterpolatedBelow, point_at}
use Rattle.stark_dft.proofs.PassSteps.{IsPartlyInterpolated}
use Rattle.stark_dft.proofs.passes.interpolation_pass.Given as goal

abbrev pub invariant-loop-block : goal.invariant-loop-block
invariant-loop-block g l = record {
  point : l.inverse ≡ point_at g.F.Field.ring l.fn.first l.ratio l._block;
  low : l.low ≡ l._block * l.half;
  done : IsInterpolatedBelow g.F.Field.ring l.half l.fn.first l.ratio l.middle l.low l.source l.target;
}

abbrev pub invariant-loop-place : goal.invariant-loop-place
invariant-loop-place g l = IsPartlyInterpolated g.F.Field.ring l.half l.fn.first l.ratio l.middle l.place l.low l.source l.target

abbrev pub invariant-loop-other : goal.invariant-loop-other
invariant-loop-other g l = IsPartlyInterpolated g.F.Field.ring l.half l.fn.first l.ratio l.middle (l.low + l.half) l.other l.source l.target
