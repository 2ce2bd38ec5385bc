use Rattle.std.proofs.Common.{◌∙◌, ap, sym, refl, add-one, rules}
use Rattle.stark_support.specs.Powers.{squarings}
use Rattle.stark_fields.specs.Residues.{residue_ring}
use Rattle.stark_fields.proofs.residue.Residue.squared.Goals as goal

pub loop-step-init : goal.loop-step-init
unfolding squarings
loop-step-init g c = refl

pub loop-step-preserved : goal.loop-step-preserved
unfolding squarings
loop-step-preserved g c =
    c.mul-square.ensures ∙ ap (λ t. residue_ring.mul t t) c.loop-step.invariant ∙ ap (λ n. squarings residue_ring c.args.self n) (sym (add-one c.loop-step._step))

pub returns : goal.returns
returns g c = search rules
