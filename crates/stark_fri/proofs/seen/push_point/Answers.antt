use Rattle.std.proofs.Common.{◌<◌, ap, arith, length}
use Rattle.std.specs.List.{zip}
use Rattle.stark_support.specs.Claims.{point_view}
use Rattle.stark_fri.specs.Query.{seen_at}
use Rattle.stark_fri.proofs.ListSteps.{all_values, one_more_value, zip_ended, zip_place, zip_within}
use Rattle.stark_fri.proofs.seen.push_point.Invariants.{fields_of}
use Rattle.stark_fri.proofs.seen.push_point.Goals as goal

pub loop-c-preserved : goal.loop-c-preserved
loop-c-preserved g c =
    let fields = fields_of g in
    let p = point_view c.args.point.now in
    let row = c.args.row.now in
    let i = c.loop-c.c in
    let x = c.index-row-c.result in
    let v = c.index-claimed-c.result in
    let turn = c.loop-c-test.true in
    let end = c.min-c-end.ensures in
    let in_row : i < length row = omega (arith, turn, end) in
    let in_values : i < length p.1 = omega (arith, turn, end) in
    one_more_value (seen_at fields p.0) (zip row p.1) i (x, v) (c.from_base.result, v, p.0) c.loop-c.seen.items c.push.new.self.items _
    (zip_within row p.1 i (omega (arith, in_row, in_values))) (zip_place row p.1 i x v in_row in_values c.index-row-c.is c.index-claimed-c.is)
    (ap (λ t. (t, v, p.0)) c.from_base.ensures) c.in_ok-push.ensures.items c.loop-c.invariant

pub returns : goal.returns
returns g c =
    let fields = fields_of g in
    let p = point_view c.args.point.now in
    let row = c.args.row.now in
    let ended = c.loop-c-test.false in
    let end = c.min-c-end.ensures in
    all_values (seen_at fields p.0) (zip row p.1) c.loop-c.c c.loop-c.seen.items _ (zip_ended row p.1 c.loop-c.c (omega (arith, ended, end))) c.loop-c.invariant
