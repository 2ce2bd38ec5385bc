use Rattle.std.proofs.Common.{◌∙◌, ap, map}
use Rattle.stark_logup.specs.Columns.{entry_of}
use Rattle.stark_logup.specs.Fractions.{denominator, numerator}
use Rattle.stark_lookup_trace.proofs.SumSteps.{one_more_fraction}
use Rattle.stark_lookup_trace.proofs.helpers.fractions_of.Goals as goal

pub loop-group-preserved : goal.loop-group-preserved
loop-group-preserved g c =
    let ring = g.K.Field.ring in
    let gamma = c.args.gamma in
    let group = c.group-item.result in
    let fraction = c.group_fraction-fraction.ensures in (
      one_more_fraction (numerator ring gamma) c.args.groups.now c.loop-group.group-index group _ c.loop-group.numerators.items _ c.loop-group-test.true c.group-item.is
          (fraction.numerator ∙ ap (λ t. numerator ring gamma (map entry_of t)) c.deref.ensures.value) c.in_ok-push.ensures.items c.loop-group.invariant.0,
      one_more_fraction (denominator ring gamma) c.args.groups.now c.loop-group.group-index group _ c.loop-group.denominators.items _ c.loop-group-test.true c.group-item.is
          (fraction.denominator ∙ ap (λ t. denominator ring gamma (map entry_of t)) c.deref.ensures.value) c.in_ok-push-2.ensures.items c.loop-group.invariant.1,
    )
