use Rattle.std.proofs.Common.{◌∙◌, subst, map}
use Rattle.stark_air.specs.Tree.{constant}
use Rattle.stark_lookup_extension.specs.Written.{Stand, WritesKnown}
use Rattle.stark_lookup_extension.proofs.Folding.{mapped_ok}
use Rattle.stark_lookup_extension.proofs.leaves.element_constants.Goals as goal

pub returns : goal.returns
returns g c = mapped_ok _ _ c.constants.result c.constants.ensures (λ all made.
    subst (λ ks. WritesKnown Stand (map constant ks) c.args.list.now all.items c.constants.new.list) (c.deref.ensures.value ∙ c.in_ok-values.ensures) made)
