use Rattle.std.proofs.Common.{◌∙◌, ap}
use Rattle.stark_support.specs.Ring.{difference}
use Rattle.stark_support.specs.PowerFacts.{squarings_is_power}
use Rattle.stark_bench.proofs.coset.subgroup_vanishing.Goals as goal

pub returns : goal.returns
returns g c =
    let field = g.met.E.Field in
    field.sub_is _ _ _ c.sub.ensures ∙
    ap (λ t. difference g.E.Field.ring t c.ONE.result) (c.squared_times.ensures ∙ squarings_is_power field.field_laws.of_ring c.args.x c.args.log_size) ∙
    ap (difference g.E.Field.ring _) (c.ONE.ensures ∙ field.one_is)
