use Rattle.std.proofs.Common.{◌≡◌, ◌∷◌, ◌++◌, ◌-◌}
use Rattle.stark_lookup.specs.LookupDraws.{powers_from}
use Rattle.stark_lookup.proofs.values.drawn_elements.Given as goal

abbrev pub invariant-loop-left : goal.invariant-loop-left
invariant-loop-left g l = l.all.items ++ powers_from g.EF.Field.ring l.draws.beta l.power l.left ≡ l.draws.gamma ∷ powers_from g.EF.Field.ring l.draws.beta l.draws.beta (l.width - 1)

abbrev pub decreases-loop-left : goal.decreases-loop-left
decreases-loop-left g l = l.left
