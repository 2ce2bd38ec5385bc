use Rattle.std.proofs.Common.{◌∙◌, ap, sym, refl, add-one, rules}
use Rattle.stark_support.specs.Powers.{squarings}
use Rattle.stark_support.proofs.powers.squared_times.Goals as goal

pub loop-step-init : goal.loop-step-init
unfolding squarings
loop-step-init g c = refl

pub loop-step-preserved : goal.loop-step-preserved
unfolding squarings
loop-step-preserved g c =
    g.met.F.Field.mul_is _ _ _ c.mul-power.ensures ∙ ap (λ t. g.F.Field.ring.mul t t) c.loop-step.invariant ∙ ap (λ n. squarings g.F.Field.ring c.args.x n) (sym (add-one c.loop-step._step))

pub returns : goal.returns
returns g c = search rules
