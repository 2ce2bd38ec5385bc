use Rattle.std.proofs.Common.{◌∙◌, ap}
use Rattle.stark_lookup_check.proofs.TotalSteps.{adds_at}
use Rattle.stark_lookup_check.proofs.totals.add_at.Goals as goal

pub returns : goal.returns
returns g c =
    adds_at g.F.Field.ring c.args.totals.now c.insert.new.self c.args.key c.args.x c.add-next.result (g.met.F.Field.add_is _ _ _ c.add-next.ensures ∙ ap (λ t. g.F.Field.ring.add t c.args.x) c.total_at.ensures) c.in_ok-insert.ensures.updates
