use Rattle.std.proofs.Common.{◌≡◌, ◌∙◌, ◌+◌, ◌/◌, arith, ap, length, refl, sym, subst}
use Rattle.std.proofs.lemmas.Option.{slice_get_read}
use Rattle.stark_support.specs.Folding.{IsValueThrough}
use Rattle.stark_support.specs.FoldingFacts.{embedded_half, embedded_half_way, embedded_undone, folded_through, half_of_two, none_folded, one_more_folded}
use Rattle.stark_support.specs.ListFacts.{one_more_number}
use Rattle.stark_support.specs.Powers.{power}
use Rattle.stark_support.proofs.FoldingSteps.{entry_is, ratio_next, ratio_start, two_halves}
use Rattle.stark_support.proofs.folding.folded_values.Goals as goal

pub inverse-requires : goal.inverse-requires
inverse-requires g c =
    let ring = g.F.Field.ring in
    half_of_two g.met.F.Field.field_laws g.met.EF.ExtensionField.embeds.keeps c.args.generator (length c.args.values.now) c.requires.some c.requires.even c.requires.order c.add.result
    (g.met.F.Field.add_is _ _ _ c.add.ensures ∙ ap (λ x. ring.add x c.ONE-2.result) (c.ONE.ensures ∙ g.met.F.Field.one_is) ∙ ap (ring.add ring.one) (c.ONE-2.ensures ∙ g.met.F.Field.one_is))

pub loop-index-init : goal.loop-index-init
loop-index-init g c = (
  ap length c.new-folded.ensures.items,
  ratio_start g.met.EF.Field.field_laws.of_ring c.args.point c.from_base-step.result,
  none_folded g.EF.Field.ring (g.EF.ExtensionField.embed c.args.generator) c.args.point c.args.values.now (length c.args.values.now / 2) c.new-folded.result.items c.new-folded.ensures.items,
)

pub loop-index-preserved : goal.loop-index-preserved
loop-index-preserved g c =
    let ring = g.EF.Field.ring in
    let laws = g.met.EF.Field.field_laws.of_ring in
    let x = c.args.point in
    let w = c.from_base-step.result in
    let n = c.loop-index.index in
    let values = c.args.values.now in
    let whole : length values ≡ length values / 2 + length values / 2 = two_halves (length values) c.requires.even in
    let below = c.loop-index-test.true in
    let a = c.index-values-index.result in
    let b = c.index-values-index-in-loop-index.result in
    let base = g.met.F.Field.field_laws in
    let keeps = g.met.EF.ExtensionField.embeds.keeps in
    let two : c.add.result ≡ g.F.Field.ring.add g.F.Field.ring.one g.F.Field.ring.one =
    g.met.F.Field.add_is _ _ _ c.add.ensures ∙ ap (λ t. g.F.Field.ring.add t c.ONE-2.result) (c.ONE.ensures ∙ g.met.F.Field.one_is) ∙ ap (g.F.Field.ring.add g.F.Field.ring.one) (c.ONE-2.ensures ∙ g.met.F.Field.one_is) in
    let half : ring.mul (ring.add ring.one ring.one) c.from_base-half.result ≡ ring.one =
    ap (ring.mul (ring.add ring.one ring.one)) (c.from_base-half.ensures ∙ ap g.EF.ExtensionField.embed c.inverse.ensures)
    ∙ embedded_half base keeps c.args.generator (length values) c.requires.some c.requires.even c.requires.order c.add.result two in
    let undone : ring.mul (g.EF.ExtensionField.embed c.args.generator) w ≡ ring.one =
    ap (ring.mul (g.EF.ExtensionField.embed c.args.generator)) (c.from_base-step.ensures ∙ ap g.EF.ExtensionField.embed c.power_of.ensures)
    ∙ embedded_undone base keeps c.args.generator (length values) c.requires.some c.requires.even c.requires.order in
    let minus = embedded_half_way base keeps c.args.generator (length values) c.requires.some c.requires.even c.requires.order in
    let ratio : c.loop-index.ratio ≡ ring.mul x (power ring w n) = c.loop-index.invariant.1 in (
      one_more_number c.loop-index.folded.items _ _ n c.loop-index.invariant.0 c.in_ok-push.ensures.items,
      ratio_next laws x w n c.loop-index.ratio c.mul-ratio.result (g.met.EF.Field.mul_is _ _ _ c.mul-ratio.ensures) ratio,
      one_more_folded laws (g.EF.ExtensionField.embed c.args.generator) w c.from_base-half.result (length values / 2) minus undone half x values n a b c.mul-in-loop-index.result
          c.loop-index.folded.items _ below (slice_get_read values (length values) n a refl (omega (arith, below, whole)) c.index-values-index.is)
          (slice_get_read values (length values) (n + length values / 2) b refl (omega (arith, below, whole)) c.index-values-index-in-loop-index.is)
          (entry_is ring c.from_base-half.result a b (ring.mul x (power ring w n)) c.loop-index.ratio c.add-in-loop-index.result c.sub.result c.mul.result c.add-in-loop-index-2.result c.mul-in-loop-index.result
          (g.met.EF.Field.add_is _ _ _ c.add-in-loop-index.ensures) (g.met.EF.Field.sub_is _ _ _ c.sub.ensures) (g.met.EF.Field.mul_is _ _ _ c.mul.ensures) (g.met.EF.Field.add_is _ _ _ c.add-in-loop-index-2.ensures)
          (g.met.EF.Field.mul_is _ _ _ c.mul-in-loop-index.ensures) ratio)
          c.in_ok-push.ensures.items c.loop-index.invariant.2,
    )

pub returns-clause-through : goal.returns-clause-through
returns-clause-through g c = λ v through.
    let values = c.args.values.now in
    let below = c.loop-index-test.false in
    let ended : c.loop-index.index ≡ length values / 2 = omega (arith, below) in
    subst (λ t. IsValueThrough g.EF.Field.ring t c.loop-index.folded.items (g.EF.Field.ring.mul c.args.point c.args.point) v) (sym (g.met.EF.ExtensionField.embeds.keeps.mul c.args.generator c.args.generator))
    (folded_through g.met.EF.Field.field_laws.of_ring (g.EF.ExtensionField.embed c.args.generator) c.args.point values c.loop-index.folded.items (length values / 2) c.loop-index.index v
    (two_halves (length values) c.requires.even) (c.loop-index.invariant.0 ∙ ended) ended c.loop-index.invariant.2 through)
