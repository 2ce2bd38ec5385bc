use Rattle.std.proofs.Common.{◌∙◌, ap}
use Rattle.stark_support.proofs.field.is_zero.Goals as goal

pub returns : goal.returns
returns g c = c.eq.ensures ∙ ap (g.F.PartialEq.eq c.args.element) (c.ZERO.ensures ∙ g.met.F.Field.zero_is)
