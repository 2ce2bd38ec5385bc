use Rattle.std.proofs.Common.{◌≡◌, ◌*◌, ◌++◌, drop}
use Rattle.stark_folding.specs.Fold.{folded}
use Rattle.stark_folding.proofs.fold.fold_coefficients.Given as goal

abbrev pub invariant-loop-i : goal.invariant-loop-i
invariant-loop-i g l = l.half.items ++ folded g.F.Field.ring l.beta (drop (2 * l.i) l.p) ≡ folded g.F.Field.ring l.beta l.p
