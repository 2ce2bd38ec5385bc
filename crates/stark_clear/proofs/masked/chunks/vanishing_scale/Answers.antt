use Rattle.std.proofs.Common.{◌∙◌, ◌^◌, ap}
use Rattle.stark_support.specs.Powers.{power}
use Rattle.stark_support.specs.PowerFacts.{squarings_is_power}
use Rattle.stark_clear.proofs.masked.chunks.vanishing_scale.Goals as goal

pub returns : goal.returns
returns g c =
    c.squared_times.ensures ∙ squarings_is_power g.met.F.Field.field_laws.of_ring c.inverse.result c.args.coset.now.log_size ∙ ap (λ s. power g.F.Field.ring s (2 ^ c.args.coset.now.log_size)) c.inverse.ensures
