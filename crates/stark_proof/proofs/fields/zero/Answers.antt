use Rattle.std.proofs.Common.{◌∙◌}
use Rattle.stark_proof.proofs.fields.zero.Goals as goal

pub returns : goal.returns
returns g c = c.ZERO.ensures ∙ g.met.F.Field.zero_is
