use Rattle.std.proofs.Common.{◌∙◌, ◌<◌, ◌+◌, ◌*◌, ◌/◌, ap, sym, arith, length}
use Rattle.std.specs.List.{slice_get}
use Rattle.std.proofs.Math.Nat.{mod-eq_of_lt}
use Rattle.stark_support.proofs.matrix.RowMajorMatrix.packed_down.Goals as goal

pub returns-then-WIDTH-left : goal.returns-then-WIDTH-left
returns-then-WIDTH-left g c i below =
    let values = c.args.self.now.values.items in
    let height = length values / c.args.self.now.width in
    let among : c.args.r + i < height = omega (arith, c.requires.rows, c.WIDTH.ensures, c.if-WIDTH-left.true, below) in
    c.packed_straight.ensures i below ∙ ap (λ n. slice_get values (n * c.args.self.now.width + c.args.column)) (sym (mod-eq_of_lt among))
