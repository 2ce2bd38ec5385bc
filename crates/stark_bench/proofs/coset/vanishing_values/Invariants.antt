use Rattle.std.proofs.Common.{◌≡◌, ◌^◌, map, take}
use Rattle.stark_support.specs.Coset.{subgroup_vanishing}
use Rattle.stark_bench.proofs.coset.vanishing_values.Given as goal

abbrev pub invariant-loop-x : goal.invariant-loop-x
invariant-loop-x g l = l.values.items ≡ map (λ x. subgroup_vanishing g.F.Field.ring (2 ^ l.log_size) x) (take l.x-index l.elements)
