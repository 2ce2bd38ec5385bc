use Rattle.std.proofs.Common.{◌≡◌, ◌∙◌, ◌<◌, ◌+◌, ◌*◌, ◌/◌, ◌%◌, Some, ap, sym, length, subst}
use Rattle.std.specs.List.{slice_get}
use Rattle.std.proofs.lemmas.Option.{slice_get-get_or}
use Rattle.stark_support.proofs.CellSteps.{cell_within, reduced}
use Rattle.stark_support.proofs.matrix.RowMajorMatrix.cell_down.Goals as goal

pub returns : goal.returns
returns g c =
    let values = c.args.self.now.values.items in
    let width = c.args.self.now.width in
    let height = length values / width in
    let row : c.row_after.result ≡ (c.args.r + c.args.further) % height = c.row_after.ensures ∙ ap (λ n. (c.args.r + c.args.further) % n) c.height.ensures in
    let below = subst (λ n. n < height) (sym row) (reduced (c.args.r + c.args.further) height c.requires.rows) in
    ap (λ n. slice_get values (n * width + c.args.column)) (sym row)
    ∙ slice_get-get_or values (c.row_after.result * width + c.args.column) c.index.result.now (cell_within c.row_after.result width c.args.column (length values) below c.requires.column)
    ∙ ap Some (sym c.index.ensures)
