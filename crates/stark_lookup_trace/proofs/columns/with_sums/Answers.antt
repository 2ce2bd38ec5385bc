use Rattle.std.proofs.Common.{◌≡◌, ◌∙◌, ◌*◌, ap, arith, sym}
use Rattle.stark_lookup_trace.proofs.SumSteps.{whole_rows}
use Rattle.stark_lookup_trace.proofs.columns.with_sums.Goals as goal

pub new-requires : goal.new-requires
new-requires g c =
    let all : c.loop-row.row ≡ c.args.rows = omega (arith, c.loop-row-test.false, c.loop-row.auto.row-end) in
    whole_rows g.K.Field.ring c.args.size c.args.helpers.now c.loop-row.row c.loop-row.values.items (c.requires.whole ∙ ap (λ k. k * c.args.size) (sym all)) c.loop-row.invariant.0
