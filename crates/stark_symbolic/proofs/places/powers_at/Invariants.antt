use Rattle.std.proofs.Common.{◌≡◌, ◌-◌, map, take}
use Rattle.stark_support.specs.Powers.{power}
use Rattle.stark_symbolic.proofs.places.powers_at.Given as goal

abbrev pub invariant-loop-place : goal.invariant-loop-place
invariant-loop-place g l = l.powers.items ≡ map (λ i. power g.EF.Field.ring l.alpha (l.total - 1 - i)) (take l.place-index l.places)
