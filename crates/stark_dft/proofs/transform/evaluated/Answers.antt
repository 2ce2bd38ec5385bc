use Rattle.std.proofs.Common.{◌≡◌, ◌∙◌, ◌+◌, ◌-◌, ◌*◌, ◌/◌, ◌^◌, ap, sym, arith, length, refl}
use Rattle.std.proofs.lemmas.List.{with_items_is}
use Rattle.stark_dft.specs.RootFacts.{start_values, half_block, twice_blocks, all_blocks, power_fits}
use Rattle.stark_dft.proofs.Levels.{evaluated_vector, evaluated_all}
use Rattle.stark_dft.proofs.transform.evaluated.Goals as goal

pub loop-level-init : goal.loop-level-init
loop-level-init g c =
    let same : c.args.log_size ≡ c.args.log_size - 0 = omega arith in
    record {
      block = c.len-block.ensures ∙ c.args.coefficients.ok.0 ∙ c.requires.size ∙ ap (λ n. c.args.width * 2 ^ n) same;
      blocks = refl;
      source_length = c.requires.size;
      target_length = c.in_ok-target.ensures.number ∙ c.len-block.ensures ∙ c.args.coefficients.ok.0 ∙ c.requires.size;
      values = start_values g.met.F.Field.field_laws.of_ring c.args.coefficients.items c.args.coefficients.items _ 1 _ refl (λ j. refl);
    }

pub evaluation_pass-requires-clause-source_length : goal.evaluation_pass-requires-clause-source_length
evaluation_pass-requires-clause-source_length g c =
    ap length c.deref.ensures.value ∙ c.loop-level.invariant.source_length
    ∙ sym (all_blocks c.args.width c.args.log_size c.loop-level.level (c.loop-level.block / 2) c.loop-level.blocks c.loop-level-test.true
    (half_block c.args.width c.args.log_size c.loop-level.level c.loop-level.block c.loop-level-test.true c.loop-level.invariant.block) c.loop-level.invariant.blocks)

pub overflow_mul-blocks : goal.overflow_mul-blocks
overflow_mul-blocks g c =
    let twice = twice_blocks c.loop-level.level c.loop-level.blocks c.loop-level.invariant.blocks in
    let below = power_fits (c.loop-level.level + 1) c.args.log_size g.F.TwoAdicField.TWO_ADICITY (omega (arith, c.loop-level-test.true)) c.requires.within g.met.F.TwoAdicField.two_adic.bounded in
    omega (arith, twice, below)

pub loop-level-preserved : goal.loop-level-preserved
loop-level-preserved g c =
    let new : c.swap.new.x.items ≡ c.evaluation_pass.new.target =
    ap (λ v. v.items) c.swap.ensures.x_after ∙ with_items_is c.loop-level.target c.evaluation_pass.new.target (omega (arith, c.evaluation_pass.auto.target, c.deref_mut.ensures.len)) in
    let old : c.swap.new.y.items ≡ c.loop-level.source.items = ap (λ v. v.items) c.swap.ensures.y_after in
    record {
      block = half_block c.args.width c.args.log_size c.loop-level.level c.loop-level.block c.loop-level-test.true c.loop-level.invariant.block;
      blocks = twice_blocks c.loop-level.level c.loop-level.blocks c.loop-level.invariant.blocks;
      source_length = ap length new ∙ c.evaluation_pass.auto.target ∙ ap length c.deref_mut.ensures.value ∙ c.loop-level.invariant.target_length;
      target_length = ap length old ∙ c.loop-level.invariant.source_length;
      values = evaluated_vector g.met.F.Field.field_laws g.F.TwoAdicField.TWO_ADICITY g.F.TwoAdicField.root g.F.Field.GENERATOR g.met.F.TwoAdicField.two_adic
          c.args.shift c.args.log_size c.loop-level.level c.args.width c.loop-level.block c.loop-level.blocks c.squared_times-first.result c.two_adic_generator-ratio.result _
          c.deref.result.now c.evaluation_pass.new.target c.loop-level.source.items c.swap.new.x.items c.deref.ensures.value new c.loop-level-test.true c.requires.within
          c.loop-level.invariant.block c.loop-level.invariant.blocks c.squared_times-first.ensures c.two_adic_generator-ratio.ensures c.evaluation_pass.ensures c.loop-level.invariant.values;
    }

pub returns : goal.returns
returns g c =
    evaluated_all g.met.F.Field.field_laws g.F.TwoAdicField.TWO_ADICITY g.F.TwoAdicField.root g.F.Field.GENERATOR g.met.F.TwoAdicField.two_adic
    c.args.shift c.args.log_size c.loop-level.level c.args.width c.loop-level.block c.loop-level.blocks c.args.coefficients.items c.loop-level.source.items
    c.loop-level-test.false c.loop-level.auto.level-end c.loop-level.invariant.block c.loop-level.invariant.blocks c.loop-level.invariant.source_length c.loop-level.invariant.values
