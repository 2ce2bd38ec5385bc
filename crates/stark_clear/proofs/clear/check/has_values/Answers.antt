use Rattle.std.proofs.Common.{rules, arith, ◌≡◌, ◌∙◌, ap, sym, length}
use Rattle.stark_support.specs.Polynomial.{value_over}
use Rattle.stark_clear.specs.ClearClaims.{HasValue}
use Rattle.stark_columns.specs.Columns.{column_list}
use Rattle.stark_support.proofs.Loops.{shown, refuted, both_step, both_stop, both_end, same_lengths}
use Rattle.stark_clear.proofs.clear.check.has_values.Goals as goal

pub returns-then-values-columns : goal.returns-then-values-columns
returns-then-values-columns g c = refuted (λ w. c.if-values-columns.true (same_lengths column_list (λ v. v) (HasValue g.EF.Field.ring g.EF.ExtensionField.embed c.args.point) c.args.columns.now c.args.values.now w))

pub returns-then-ne : goal.returns-then-ne
returns-then-ne g c =
    let ring = g.EF.Field.ring in
    let embed = g.EF.ExtensionField.embed in
    let is_value : c.column_value.result ≡ value_over ring embed c.index-columns-i.result.items c.args.point = c.column_value.ensures ∙ ap (λ p. value_over ring embed p c.args.point) c.deref.ensures.value in
    let differ : c.index-values-i.result ≡ c.column_value.result → ⊥ = search rules in
    let n : length c.args.values.now ≡ length c.args.columns.now = search rules in
    refuted (both_stop column_list (λ v. v) (HasValue ring embed c.args.point) c.args.columns.now c.args.values.now c.loop-i.i c.index-columns-i.result c.index-values-i.result c.loop-i-test.true (omega arith) c.index-columns-i.is c.index-values-i.is
    (λ w. differ (w ∙ sym is_value)) c.loop-i.invariant)

pub loop-i-preserved : goal.loop-i-preserved
loop-i-preserved g c =
    let ring = g.EF.Field.ring in
    let embed = g.EF.ExtensionField.embed in
    let is_value : c.column_value.result ≡ value_over ring embed c.index-columns-i.result.items c.args.point = c.column_value.ensures ∙ ap (λ p. value_over ring embed p c.args.point) c.deref.ensures.value in
    let same : c.index-values-i.result ≡ c.column_value.result = search rules in
    let n : length c.args.values.now ≡ length c.args.columns.now = search rules in
    both_step column_list (λ v. v) (HasValue ring embed c.args.point) c.args.columns.now c.args.values.now c.loop-i.i c.index-columns-i.result c.index-values-i.result c.loop-i-test.true (omega arith) c.index-columns-i.is c.index-values-i.is (same ∙ is_value) c.loop-i.invariant

pub returns : goal.returns
returns g c =
    let n : length c.args.values.now ≡ length c.args.columns.now = search rules in
    shown (both_end column_list (λ v. v) (HasValue g.EF.Field.ring g.EF.ExtensionField.embed c.args.point) c.args.columns.now c.args.values.now c.loop-i.i c.loop-i-test.false n c.loop-i.invariant)
