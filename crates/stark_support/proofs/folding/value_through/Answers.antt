use Rattle.std.proofs.Common.{◌≡◌, ◌∙◌, ◌-◌, ◌/◌, ◌^◌, ◌<◌, arith, ap, length, sym, subst}
use Rattle.std.proofs.lemmas.List.{length-map}
use Rattle.std.proofs.lemmas.Option.{slice_get_read}
use Rattle.stark_support.specs.Folding.{IsValueThrough}
use Rattle.stark_support.specs.FoldingFacts.{interpolation_through, order_of_square, value_through_one}
use Rattle.stark_support.specs.Interpolation.{interpolation}
use Rattle.stark_support.specs.LogarithmFacts.{two_power_at_most}
use Rattle.stark_support.specs.Points.{powers_from}
use Rattle.stark_support.specs.Polynomial.{value_over}
use Rattle.stark_support.specs.TwoAdic.{HasOrder}
use Rattle.stark_support.proofs.FoldingSteps.{all_left, halved, one_left}
use Rattle.stark_support.proofs.folding.value_through.Goals as goal

pub loop-fold-init : goal.loop-fold-init
loop-fold-init g c =
    let embed = g.EF.ExtensionField.embed in
    let values = c.args.values.now in
    let size : length c.in_ok-left.left.items ≡ length values = ap length c.in_ok-left.ensures ∙ length-map values embed in (
      all_left (length c.in_ok-left.left.items) c.log2_strict_usize-fold-end.result (size ∙ sym c.log2_strict_usize-fold-end.ensures),
      subst (HasOrder g.F.Field.ring c.args.generator) (sym size) c.requires.order,
      interpolation_through g.met.F.Field.field_laws g.met.EF.ExtensionField.embeds.keeps c.args.generator values c.requires.order c.in_ok-left.left.items c.args.point c.in_ok-left.ensures,
    )

pub folded_values-requires-clause-even : goal.folded_values-requires-clause-even
folded_values-requires-clause-even g c =
    let size : length c.deref.result.now ≡ 2 ^ (c.log2_strict_usize-fold-end.result - c.loop-fold._fold) = ap length c.deref.ensures.value ∙ c.loop-fold.invariant.0 in
    (halved (length c.deref.result.now) c.log2_strict_usize-fold-end.result c.loop-fold._fold c.loop-fold-test.true size).0

pub loop-fold-preserved : goal.loop-fold-preserved
loop-fold-preserved g c =
    let base = g.F.Field.ring in
    let k = c.log2_strict_usize-fold-end.result in
    let i = c.loop-fold._fold in
    let values = c.deref.result.now in
    let root = c.loop-fold.root in
    let at = c.loop-fold.at in
    let left = c.loop-fold.left.items in
    let fewer = c.in_ok-left-2.left.items in
    let same : values ≡ left = c.deref.ensures.value in
    let size : length left ≡ 2 ^ (k - i) = c.loop-fold.invariant.0 in
    let half = halved (length left) k i c.loop-fold-test.true size in
    let number : length fewer ≡ length left / 2 = c.in_ok-left-2.ensures.number ∙ ap (λ t. length t / 2) same in
    let some : 0 < length left = omega (arith, two_power_at_most 0 (k - i) (omega arith), size) in
    let square : c.mul-root.result ≡ base.mul root root = g.met.F.Field.mul_is _ _ _ c.mul-root.ensures in
    let point : c.mul-at.result ≡ g.EF.Field.ring.mul at at = g.met.EF.Field.mul_is _ _ _ c.mul-at.ensures in
    let embed = g.EF.ExtensionField.embed in
    let v = value_over g.EF.Field.ring embed (interpolation base g.F.Field.inverse_of (powers_from base c.args.generator 0 (length c.args.values.now)) c.args.values.now) c.args.point in (
      number ∙ half.1,
      subst (HasOrder base c.mul-root.result) (sym number) (subst (λ t. HasOrder base t (length left / 2)) (sym square)
          (order_of_square g.met.F.Field.field_laws g.met.EF.ExtensionField.embeds.keeps root (length left) some half.0 c.loop-fold.invariant.1)),
      subst (λ t. IsValueThrough g.EF.Field.ring (embed t) fewer c.mul-at.result v) (sym square) (subst (λ t. IsValueThrough g.EF.Field.ring (embed (base.mul root root)) fewer t v) (sym point)
          (c.in_ok-left-2.ensures.through v (subst (λ t. IsValueThrough g.EF.Field.ring (embed root) t at v) (sym same) c.loop-fold.invariant.2))),
    )

pub returns : goal.returns
returns g c =
    let left = c.loop-fold.left.items in
    let one : length left ≡ 1 = one_left (length left) c.log2_strict_usize-fold-end.result c.loop-fold._fold c.loop-fold-test.false c.loop-fold.invariant.0 in
    let v = value_over g.EF.Field.ring g.EF.ExtensionField.embed (interpolation g.F.Field.ring g.F.Field.inverse_of (powers_from g.F.Field.ring c.args.generator 0 (length c.args.values.now)) c.args.values.now) c.args.point in
    value_through_one g.met.EF.Field.field_laws.of_ring (g.EF.ExtensionField.embed c.loop-fold.root) c.loop-fold.at v c.index.result.now left one
    (slice_get_read left 1 0 c.index.result.now (sym one) (omega arith) c.index.ensures) c.loop-fold.invariant.2
