use Rattle.std.proofs.Common.{◌≡◌, ◌≤◌, ◌-◌, ◌/◌, ◌^◌, ◌∙◌, ap, sym, arith, length, subst}
use Rattle.std.specs.List.{AllByRecursion}
use Rattle.stark_support.specs.LogarithmFacts.{exponent_at_most}
use Rattle.stark_support.specs.Scheme.{TakesRows, matrix_row, natural_coset}
use Rattle.stark_columns.specs.Columns.{column_list, columns_list}
use Rattle.stark_clear.specs.Masks.{mask_lists}
use Rattle.stark_clear.proofs.MaskSteps.{lists_full, lists_length}
use Rattle.stark_clear.proofs.MaskedColumns.{joined_columns}
use Rattle.stark_clear.proofs.MaskedRows.{masked_lengths, masked_rows}
use Rattle.stark_clear.proofs.masked.commit.masked_columns_of.Goals as goal

pub subgroup-natural-requires : goal.subgroup-natural-requires
subgroup-natural-requires g c =
    let height = c.log2_strict_usize.ensures ∙ c.height.ensures in
    omega (arith, exponent_at_most c.log2_strict_usize.result c.args.domain.now.log_size (omega (arith, height, c.requires.room)), c.args.domain.now.within)

pub returns-clause-full : goal.returns-clause-full
returns-clause-full g c =
    let ring = g.F.Field.ring in
    let height = length c.args.matrix.now.values.items / c.args.matrix.now.width in
    let size : 2 ^ c.subgroup-natural.result.log_size ≡ length c.args.matrix.now.values.items / c.args.matrix.now.width = ap (λ n. 2 ^ n) c.subgroup-natural.ensures.size ∙ c.log2_strict_usize.ensures ∙ c.height.ensures in
    let rest = 2 ^ c.args.domain.now.log_size - height in
    subst (AllByRecursion (λ column. length column ≡ 2 ^ c.args.domain.now.log_size))
    (sym (joined_columns ring column_list (columns_list c.in_ok-columns.columns) c.deref.result.now c.in_ok-plain.plain.items c.deref-2.result.now c.in_ok-lists.lists.items _ (mask_lists ring c.args.masks.now 0 c.args.matrix.now.width rest) c.ONE.result ring.one
    c.in_ok-columns.ensures c.deref.ensures.value c.deref-2.ensures.value c.in_ok-lists.ensures.lists (ap (mask_lists ring c.args.masks.now 0 c.args.matrix.now.width) (omega (arith, c.size.ensures, c.height-2.ensures))) (c.ONE.ensures ∙ g.met.F.Field.one_is)))
    (masked_lengths ring ring.one height rest (2 ^ c.args.domain.now.log_size) (columns_list c.in_ok-plain.plain) (mask_lists ring c.args.masks.now 0 c.args.matrix.now.width rest)
    (subst (λ n. AllByRecursion (λ column. length column ≡ n) (columns_list c.in_ok-plain.plain)) size c.in_ok-plain.ensures.full)
    (lists_full ring c.args.masks.now 0 c.args.matrix.now.width rest) (omega (arith, c.requires.room)))

pub returns-clause-rows : goal.returns-clause-rows
returns-clause-rows g c = λ k power.
    let ring = g.F.Field.ring in
    let height = length c.args.matrix.now.values.items / c.args.matrix.now.width in
    let size : 2 ^ c.subgroup-natural.result.log_size ≡ 2 ^ k = ap (λ n. 2 ^ n) c.subgroup-natural.ensures.size ∙ c.log2_strict_usize.ensures ∙ c.height.ensures ∙ sym power in
    let rest = 2 ^ c.args.domain.now.log_size - height in
    let at_most : k ≤ c.args.domain.now.log_size = exponent_at_most k c.args.domain.now.log_size (omega (arith, power, c.requires.room)) in
    let within = c.args.domain.now.within in
    subst (TakesRows ring g.F.TwoAdicField.root (natural_coset ring k) c.args.matrix.now.width (matrix_row c.args.matrix.now.values.items c.args.matrix.now.width))
    (sym (joined_columns ring column_list (columns_list c.in_ok-columns.columns) c.deref.result.now c.in_ok-plain.plain.items c.deref-2.result.now c.in_ok-lists.lists.items _ (mask_lists ring c.args.masks.now 0 c.args.matrix.now.width rest) c.ONE.result ring.one
    c.in_ok-columns.ensures c.deref.ensures.value c.deref-2.ensures.value c.in_ok-lists.ensures.lists (ap (mask_lists ring c.args.masks.now 0 c.args.matrix.now.width) (omega (arith, c.size.ensures, c.height-2.ensures))) (c.ONE.ensures ∙ g.met.F.Field.one_is)))
    (masked_rows g.met.F.Field.field_laws g.F.TwoAdicField.TWO_ADICITY g.F.TwoAdicField.root g.F.Field.GENERATOR g.met.F.TwoAdicField.two_adic k c.args.matrix.now.width
    (matrix_row c.args.matrix.now.values.items c.args.matrix.now.width) (columns_list c.in_ok-plain.plain) (mask_lists ring c.args.masks.now 0 c.args.matrix.now.width rest)
    (omega (arith, at_most, within)) (lists_length ring c.args.masks.now 0 c.args.matrix.now.width rest)
    (subst (λ n. AllByRecursion (λ column. length column ≡ n) (columns_list c.in_ok-plain.plain)) size c.in_ok-plain.ensures.full) (c.in_ok-plain.ensures.rows k power))

pub returns-clause-masked : goal.returns-clause-masked
returns-clause-masked g c =
    let ring = g.F.Field.ring in
    let height = length c.args.matrix.now.values.items / c.args.matrix.now.width in
    let size : 2 ^ c.subgroup-natural.result.log_size ≡ length c.args.matrix.now.values.items / c.args.matrix.now.width = ap (λ n. 2 ^ n) c.subgroup-natural.ensures.size ∙ c.log2_strict_usize.ensures ∙ c.height.ensures in
    let rest = 2 ^ c.args.domain.now.log_size - height in
    record {
      plain = columns_list c.in_ok-plain.plain;
      bounded = subst (λ n. AllByRecursion (λ column. length column ≡ n) (columns_list c.in_ok-plain.plain)) size c.in_ok-plain.ensures.full;
      sum = joined_columns ring column_list (columns_list c.in_ok-columns.columns) c.deref.result.now c.in_ok-plain.plain.items c.deref-2.result.now c.in_ok-lists.lists.items _ (mask_lists ring c.args.masks.now 0 c.args.matrix.now.width rest) c.ONE.result ring.one
          c.in_ok-columns.ensures c.deref.ensures.value c.deref-2.ensures.value c.in_ok-lists.ensures.lists (ap (mask_lists ring c.args.masks.now 0 c.args.matrix.now.width) (omega (arith, c.size.ensures, c.height-2.ensures))) (c.ONE.ensures ∙ g.met.F.Field.one_is);
    }
