use Rattle.std.proofs.Common.{◌≡◌, ◌++◌, drop}
use Rattle.stark_lookup_trace.specs.AuxiliaryColumns.{products}
use Rattle.stark_lookup_trace.proofs.helpers.products.Given as goal

abbrev pub invariant-loop-place : goal.invariant-loop-place
invariant-loop-place g l = l.all.items ++ products g.K.Field.ring (drop l.place l.xs) (drop l.place l.ys) ≡ products g.K.Field.ring l.xs l.ys
