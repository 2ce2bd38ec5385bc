use Rattle.std.proofs.Common.{◌∙◌, ap, refl, sym}
use Rattle.std.specs.Option.{option_copied}
use Rattle.stark_support.specs.Claims.{point_view}
use Rattle.stark_fri.proofs.ClaimSteps.{one_width}
use Rattle.stark_fri.proofs.claims.has_one_width.Goals as goal

pub returns-in-Some : goal.returns-in-Some
returns-in-Some g c =
    one_width point_view c.args.points.now c.in-Some.first.now _ c.points_have_count.result (sym c.first.ensures.value ∙ ap option_copied c.in-Some.is) refl c.points_have_count.ensures
