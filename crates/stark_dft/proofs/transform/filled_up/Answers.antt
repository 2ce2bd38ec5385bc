use Rattle.std.proofs.Common.{rules, ◌≡◌, ◌∙◌, ◌+◌, ◌++◌, ◌∷◌, [], ap, length}
use Rattle.stark_dft.specs.Passes.{entry}
use Rattle.stark_dft.specs.RootFacts.{zero_behind}
use Rattle.stark_dft.proofs.transform.filled_up.Goals as goal

pub loop-place-preserved : goal.loop-place-preserved
loop-place-preserved g c =
    let number : length c.push.new.self.items ≡ c.loop-place._place + 1 = search rules in
    let pushed : c.push.new.self.items ≡ c.loop-place.filled.items ++ g.F.Field.ring.zero ∷ [] = search rules in
    (number, λ j. ap (λ t. entry g.F.Field.ring t j) pushed ∙ zero_behind g.met.F.Field.field_laws.of_ring c.loop-place.filled.items j ∙ c.loop-place.invariant.1 j)
