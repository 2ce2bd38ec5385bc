use Rattle.std.proofs.Common.{◌≡◌, ◌<◌, ◌+◌, ◌-◌, ◌%◌, arith, refl}
use Rattle.stark_support.proofs.CellSteps.{not_round, once_round, reduced}
use Rattle.stark_support.proofs.matrix.row_after.Goals as goal

pub returns-then-more-height : goal.returns-then-more-height
returns-then-more-height c = not_round c.args.r c.args.further c.args.height _ refl (omega (arith, c.if-more-height.true))

pub returns-else-more-height : goal.returns-else-more-height
returns-else-more-height c =
    let r = c.args.r in
    let further = c.args.further in
    let height = c.args.height in
    let first = reduced r height c.requires in
    let more = reduced further height c.requires in
    let e : height + (further % height - (height - r % height)) ≡ r % height + further % height = omega (arith, first, more, c.if-more-height.false) in
    let b : further % height - (height - r % height) < height = omega (arith, first, more) in
    once_round r further height _ e b
