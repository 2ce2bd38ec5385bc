use Rattle.std.proofs.Common.{◌≡◌, ◌≤◌, ◌/◌, ◌^◌, ◌∙◌, ap, arith, length, subst}
use Rattle.stark_support.specs.LogarithmFacts.{exponent_at_most}
use Rattle.stark_support.proofs.CellSteps.{cell_within}
use Rattle.stark_support.specs.Polynomial.{value}
use Rattle.stark_columns.specs.ColumnPoints.{AreColumns, IsPolynomialBelow}
use Rattle.stark_columns.specs.Columns.{columns_list}
use Rattle.stark_columns.specs.RowFacts.{all_listed, natural_rows}
use Rattle.stark_columns.proofs.columns.columns_of.Goals as goal

pub subgroup-natural-requires : goal.subgroup-natural-requires
subgroup-natural-requires g c =
    let at_most : c.log2_strict_usize.result ≤ c.args.domain.now.log_size =
    exponent_at_most c.log2_strict_usize.result c.args.domain.now.log_size (omega (arith, c.log2_strict_usize.ensures, c.height.ensures, c.requires.room)) in
    let within = c.args.domain.now.within in
    omega (arith, at_most, within)

pub interpolated_columns-requires-clause-room : goal.interpolated_columns-requires-clause-room
interpolated_columns-requires-clause-room g c =
    let size : 2 ^ c.subgroup-natural.result.log_size ≡ length c.args.matrix.now.values.items / c.args.matrix.now.width = ap (λ k. 2 ^ k) c.subgroup-natural.ensures.size ∙ c.log2_strict_usize.ensures ∙ c.height.ensures in
    omega (arith, size, c.requires.room, c.size.ensures)

pub interpolated_columns-requires-clause-within : goal.interpolated_columns-requires-clause-within
interpolated_columns-requires-clause-within g c = λ column r inside below.
    let size : 2 ^ c.subgroup-natural.result.log_size ≡ length c.args.matrix.now.values.items / c.args.matrix.now.width = ap (λ k. 2 ^ k) c.subgroup-natural.ensures.size ∙ c.log2_strict_usize.ensures ∙ c.height.ensures in
    let cell = cell_within r c.args.matrix.now.width column (length c.args.matrix.now.values.items) (omega (arith, size, below)) inside in
    let same : length c.deref.result.now ≡ length c.args.matrix.now.values.items = ap length c.deref.ensures.value in
    omega (arith, cell, same)

pub returns-clause-full : goal.returns-clause-full
returns-clause-full g c =
    all_listed (λ column. length column ≡ 2 ^ c.args.domain.now.log_size) (columns_list c.in_ok-columns.columns) (λ i p there. c.in_ok-columns.ensures.column i p there ∙ c.size.ensures)

pub returns-clause-rows : goal.returns-clause-rows
returns-clause-rows g c = λ k power.
    let size : 2 ^ c.subgroup-natural.result.log_size ≡ length c.args.matrix.now.values.items / c.args.matrix.now.width = ap (λ n. 2 ^ n) c.subgroup-natural.ensures.size ∙ c.log2_strict_usize.ensures ∙ c.height.ensures in
    natural_rows g.F.Field.ring g.F.TwoAdicField.root (record { shift = c.subgroup-natural.result.shift; log_size = c.subgroup-natural.result.log_size }) c.args.matrix.now.values.items c.args.matrix.now.width c.size.result (columns_list c.in_ok-columns.columns)
    (subst (λ t. AreColumns g.F.Field.ring g.F.TwoAdicField.root (record { shift = c.subgroup-natural.result.shift; log_size = c.subgroup-natural.result.log_size }) t 0 c.args.matrix.now.width c.args.matrix.now.width c.size.result (columns_list c.in_ok-columns.columns)) c.deref.ensures.value c.in_ok-columns.ensures) c.subgroup-natural.ensures.shift size k power

pub returns-clause-plain : goal.returns-clause-plain
returns-clause-plain g c =
    let size : 2 ^ c.subgroup-natural.result.log_size ≡ length c.args.matrix.now.values.items / c.args.matrix.now.width = ap (λ n. 2 ^ n) c.subgroup-natural.ensures.size ∙ c.log2_strict_usize.ensures ∙ c.height.ensures in
    all_listed (λ column. IsPolynomialBelow g.F.Field.ring (length c.args.matrix.now.values.items / c.args.matrix.now.width) (value g.F.Field.ring column)) (columns_list c.in_ok-columns.columns)
    (λ i p there. subst (λ n. IsPolynomialBelow g.F.Field.ring n (value g.F.Field.ring p)) size (c.in_ok-columns.ensures.plain i p there))
