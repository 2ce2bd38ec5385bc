use Rattle.std.proofs.Common.{◌+◌, ◌-◌, ◌≡◌, ap, arith, length, ◌∙◌}
use Rattle.stark_fields.proofs.WeightedSums.{one_more_term, sum_from, sum_of_none}
use Rattle.stark_fields.proofs.lanes.arithmetic.weighted_sum.Goals as goal

pub loop-index-init : goal.loop-index-init
loop-index-init g c = (omega arith, sum_of_none c.args.values.now c.args.weights.now (length c.args.values.now) c.from-sum.result c.ZERO.result (omega arith) c.ZERO.ensures c.from-sum.ensures)

pub factors_at-requires-clause-value : goal.factors_at-requires-clause-value
factors_at-requires-clause-value g c = omega (arith, c.loop-index-test.true, c.loop-index.invariant.0, c.requires)

pub factors_at-requires-clause-weight : goal.factors_at-requires-clause-weight
factors_at-requires-clause-weight g c = omega (arith, c.loop-index-test.true, c.loop-index.invariant.0, c.requires)

pub factors_at-requires-in-loop-index-clause-value : goal.factors_at-requires-in-loop-index-clause-value
factors_at-requires-in-loop-index-clause-value g c = omega (arith, c.loop-index-test.true, c.loop-index.invariant.0, c.requires)

pub factors_at-requires-in-loop-index-clause-weight : goal.factors_at-requires-in-loop-index-clause-weight
factors_at-requires-in-loop-index-clause-weight g c = omega (arith, c.loop-index-test.true, c.loop-index.invariant.0, c.requires)

pub factors_at-requires-in-loop-index-2-clause-value : goal.factors_at-requires-in-loop-index-2-clause-value
factors_at-requires-in-loop-index-2-clause-value g c = omega (arith, c.loop-index-test.true, c.loop-index.invariant.0, c.requires)

pub factors_at-requires-in-loop-index-2-clause-weight : goal.factors_at-requires-in-loop-index-2-clause-weight
factors_at-requires-in-loop-index-2-clause-weight g c = omega (arith, c.loop-index-test.true, c.loop-index.invariant.0, c.requires)

pub factors_at-requires-in-loop-index-3-clause-value : goal.factors_at-requires-in-loop-index-3-clause-value
factors_at-requires-in-loop-index-3-clause-value g c = omega (arith, c.loop-index-test.true, c.loop-index.invariant.0, c.requires)

pub factors_at-requires-in-loop-index-3-clause-weight : goal.factors_at-requires-in-loop-index-3-clause-weight
factors_at-requires-in-loop-index-3-clause-weight g c = omega (arith, c.loop-index-test.true, c.loop-index.invariant.0, c.requires)

pub factors_at-requires-in-loop-index-4-clause-value : goal.factors_at-requires-in-loop-index-4-clause-value
factors_at-requires-in-loop-index-4-clause-value g c = omega (arith, c.loop-index-test.true, c.loop-index.invariant.0, c.requires)

pub factors_at-requires-in-loop-index-4-clause-weight : goal.factors_at-requires-in-loop-index-4-clause-weight
factors_at-requires-in-loop-index-4-clause-weight g c = omega (arith, c.loop-index-test.true, c.loop-index.invariant.0, c.requires)

pub loop-index-preserved : goal.loop-index-preserved
loop-index-preserved g c =
    let values = c.args.values.now in
    let weights = c.args.weights.now in
    let i = c.loop-index.index - 5 in
    let fifth = one_more_term values weights (i + 4) c.loop-index.index c.factors_at-in-loop-index-4.result.0 c.factors_at-in-loop-index-4.result.1 _ (omega (arith, c.loop-index-test.true)) (record { value = c.factors_at-in-loop-index-4.ensures.value; weight = c.factors_at-in-loop-index-4.ensures.weight }) c.loop-index.invariant.1 in
    let fourth = one_more_term values weights (i + 3) (i + 4) c.factors_at-in-loop-index-3.result.0 c.factors_at-in-loop-index-3.result.1 _ (omega (arith, c.loop-index-test.true)) (record { value = c.factors_at-in-loop-index-3.ensures.value; weight = c.factors_at-in-loop-index-3.ensures.weight }) fifth in
    let third = one_more_term values weights (i + 2) (i + 3) c.factors_at-in-loop-index-2.result.0 c.factors_at-in-loop-index-2.result.1 _ (omega (arith, c.loop-index-test.true)) (record { value = c.factors_at-in-loop-index-2.ensures.value; weight = c.factors_at-in-loop-index-2.ensures.weight }) fourth in
    let second = one_more_term values weights (i + 1) (i + 2) c.factors_at-in-loop-index.result.0 c.factors_at-in-loop-index.result.1 _ (omega (arith, c.loop-index-test.true)) (record { value = c.factors_at-in-loop-index.ensures.value; weight = c.factors_at-in-loop-index.ensures.weight }) third in
    let first = one_more_term values weights i (i + 1) c.factors_at.result.0 c.factors_at.result.1 _ (omega (arith, c.loop-index-test.true)) (record { value = c.factors_at.ensures.value; weight = c.factors_at.ensures.weight }) second in
    (omega (arith, c.loop-index.invariant.0), c.five_terms_more-sum.ensures ∙ first)

pub loop-index-2-init : goal.loop-index-2-init
loop-index-2-init g c = c.loop-index.invariant

pub factors_at-requires-in-loop-index-2-2-clause-value : goal.factors_at-requires-in-loop-index-2-2-clause-value
factors_at-requires-in-loop-index-2-2-clause-value g c = omega (arith, c.loop-index-2-test.true, c.loop-index-2.invariant.0, c.requires)

pub factors_at-requires-in-loop-index-2-2-clause-weight : goal.factors_at-requires-in-loop-index-2-2-clause-weight
factors_at-requires-in-loop-index-2-2-clause-weight g c = omega (arith, c.loop-index-2-test.true, c.loop-index-2.invariant.0, c.requires)

pub loop-index-2-preserved : goal.loop-index-2-preserved
loop-index-2-preserved g c =
    let more = one_more_term c.args.values.now c.args.weights.now (c.loop-index-2.index - 1) c.loop-index-2.index c.factors_at-in-loop-index-2-2.result.0 c.factors_at-in-loop-index-2-2.result.1 c.loop-index-2.sum (omega (arith, c.loop-index-2-test.true)) (record { value = c.factors_at-in-loop-index-2-2.ensures.value; weight = c.factors_at-in-loop-index-2-2.ensures.weight }) c.loop-index-2.invariant.1 in
    (omega (arith, c.loop-index-2.invariant.0), c.one_term_more-sum.ensures ∙ more)

pub returns : goal.returns
returns g c =
    let none : c.loop-index-2.index ≡ 0 = omega (arith, c.loop-index-2-test.false) in
    c.loop-index-2.invariant.1 ∙ ap (sum_from c.args.values.now c.args.weights.now) none
