use Rattle.std.proofs.Common.{◌≡◌, map, take}
use Rattle.stark_lookup_check.proofs.totals.numbers_of.Given as goal

abbrev pub invariant-loop-x : goal.invariant-loop-x
invariant-loop-x g l = l.numbers.items ≡ map g.F.PrimeField64.number_of (take l.x-index l.tuple)
