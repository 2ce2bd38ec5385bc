use Rattle.std.proofs.Common.{◌≡◌, ◌∙◌, ◌-◌, ◌^◌, ◌≤◌, arith, subst, sym}
use Rattle.stark_support.specs.LogarithmFacts.{exponent_at_most}
use Rattle.stark_support.specs.Coset.{AreValuesOn}
use Rattle.stark_support.specs.Polynomial.{value}
use Rattle.stark_dft.proofs.PeriodicSteps.{extended_value, through}
use Rattle.stark_dft.proofs.periodic.extended_column.Goals as goal

pub overflow_sub-log_repeats : goal.overflow_sub-log_repeats
overflow_sub-log_repeats g c = exponent_at_most c.log2_strict_usize-log_column.result c.args.log_height (omega (arith, c.log2_strict_usize-log_column.ensures, c.requires.within))

pub interpolate_on_coset-requires-clause-within : goal.interpolate_on_coset-requires-clause-within
interpolate_on_coset-requires-clause-within g c =
    through (exponent_at_most c.log2_strict_usize-log_column.result c.args.log_height (omega (arith, c.log2_strict_usize-log_column.ensures, c.requires.within))) c.requires.height

pub values_on_part-requires-clause-degree : goal.values_on_part-requires-clause-degree
values_on_part-requires-clause-degree g c =
    through (exponent_at_most c.log2_strict_usize-log_column.result c.args.log_height (omega (arith, c.log2_strict_usize-log_column.ensures, c.requires.within))) c.requires.height

pub returns-clause-rows : goal.returns-clause-rows
returns-clause-rows g c = λ r.
    let ring = g.F.Field.ring in
    let root = g.F.TwoAdicField.root in
    let n = c.args.log_height in
    let m = c.args.log_size in
    let k = c.log2_strict_usize-log_column.result in
    let p = c.in_ok-coefficients.coefficients.items in
    let values = c.in_ok-values.values.items in
    let smaller : k ≤ n = exponent_at_most k n (omega (arith, c.log2_strict_usize-log_column.ensures, c.requires.within)) in
    let one : c.ONE.result ≡ ring.one = c.ONE.ensures ∙ g.met.F.Field.one_is in
    extended_value g.met.F.Field.field_laws g.F.TwoAdicField.TWO_ADICITY root g.F.Field.GENERATOR g.met.F.TwoAdicField.two_adic n k m c.args.shift c.args.column.now p values r
    smaller c.requires.height c.requires.size (sym c.log2_strict_usize-log_column.ensures) c.in_ok-coefficients.ensures.number
    (subst (λ s. AreValuesOn ring root (record { shift = s; log_size = k }) (2 ^ k) (value ring p) c.args.column.now) one c.in_ok-coefficients.ensures.takes)
    (subst (λ s. AreValuesOn ring root (record { shift = s; log_size = m - (n - k) }) (2 ^ (m - (n - k))) (value ring p) values) c.squared_times.ensures
    (subst (λ q. AreValuesOn ring root (record { shift = c.squared_times.result; log_size = q }) (2 ^ q) (value ring p) values) c.saturating_sub.ensures
    (subst (λ t. AreValuesOn ring root (record { shift = c.squared_times.result; log_size = c.saturating_sub.result }) (2 ^ c.saturating_sub.result) (value ring t) values) c.deref.ensures.value c.in_ok-values.ensures)))
