use Rattle.std.proofs.Common.{◌≡◌, ◌∙◌, ◌-◌, ◌*◌, ◌%◌, ◌^◌, ap, sym, arith, length, rules}
use Rattle.std.proofs.lemmas.Nat.{one_shl}
use Rattle.std.proofs.lemmas.List.{with_items_is, length-map}
use Rattle.stark_support.specs.Powers.{power}
use Rattle.stark_support.specs.CosetFacts.{root_nonzero}
use Rattle.stark_dft.specs.RootFacts.{squarings_nonzero}
use Rattle.stark_dft.proofs.Levels.{fewer_blocks, whole_length, larger_block, twice_fits, interpolated_start, interpolated_vector, interpolated_all}
use Rattle.stark_dft.proofs.transform.interpolated.Goals as goal

pub loop-done-init : goal.loop-done-init
loop-done-init g c =
    let ring = g.F.Field.ring in
    let bounded = g.met.F.TwoAdicField.two_adic.bounded in
    let whole : 1 * 2 ^ c.args.log_size % 2 ^ 64 ≡ 2 ^ c.args.log_size = one_shl c.args.log_size 64 (omega (arith, bounded, c.requires.within)) in
    let same : c.args.log_size ≡ c.args.log_size - 0 = omega arith in
    let two : c.add.result ≡ ring.add ring.one ring.one = search rules in
    let number : length c.scaled-source.result.items ≡ c.args.width * 2 ^ c.args.log_size =
    ap length c.scaled-source.ensures ∙ length-map c.args.values.items (ring.mul c.power_of.result) ∙ c.requires.size in
    record {
      block = omega arith;
      blocks = whole ∙ ap (λ n. 2 ^ n) same;
      source_length = number;
      target_length = c.in_ok-target.ensures.number ∙ c.len.ensures ∙ c.scaled-source.result.ok.0 ∙ number;
      leads = interpolated_start g.met.F.Field.field_laws g.F.TwoAdicField.TWO_ADICITY g.F.TwoAdicField.root g.F.Field.GENERATOR g.met.F.TwoAdicField.two_adic
          c.args.shift c.args.log_size c.args.width _ c.power_of.result c.args.values.items c.scaled-source.result.items whole
          (c.power_of.ensures ∙ ap (λ t. power ring t c.args.log_size) (c.inverse-half.ensures ∙ ap g.F.Field.inverse_of two)) c.requires.size c.scaled-source.ensures;
    }

pub inverse-first-requires : goal.inverse-first-requires
inverse-first-requires g c e =
    squarings_nonzero g.met.F.Field.field_laws g.F.TwoAdicField.TWO_ADICITY g.F.TwoAdicField.root g.F.Field.GENERATOR g.met.F.TwoAdicField.two_adic c.args.shift c.loop-done.done c.requires.nonzero (sym c.squared_times.ensures ∙ e)

pub inverse-ratio-requires : goal.inverse-ratio-requires
inverse-ratio-requires g c e =
    root_nonzero g.met.F.Field.field_laws g.F.TwoAdicField.TWO_ADICITY g.F.TwoAdicField.root g.F.Field.GENERATOR g.met.F.TwoAdicField.two_adic (c.args.log_size - c.loop-done.done) (omega (arith, c.requires.within)) (sym c.two_adic_generator.ensures ∙ e)

pub interpolation_pass-requires-clause-source_length : goal.interpolation_pass-requires-clause-source_length
interpolation_pass-requires-clause-source_length g c =
    ap length c.deref.ensures.value ∙ c.loop-done.invariant.source_length
    ∙ sym (whole_length c.args.log_size c.loop-done.done c.args.width c.loop-done.block c.loop-done.blocks c.loop-done-test.true c.loop-done.invariant.block c.loop-done.invariant.blocks)

pub overflow_mul-block : goal.overflow_mul-block
overflow_mul-block g c =
    let fits = twice_fits c.args.log_size c.loop-done.done c.args.width c.loop-done.block c.loop-done.blocks c.loop-done-test.true c.loop-done.invariant.block c.loop-done.invariant.blocks
    (omega (arith, c.loop-done.invariant.source_length, c.deref.ensures.len)) in
    omega arith

pub loop-done-preserved : goal.loop-done-preserved
loop-done-preserved g c =
    let new : c.swap.new.x.items ≡ c.interpolation_pass.new.target =
    ap (λ v. v.items) c.swap.ensures.x_after ∙ with_items_is c.loop-done.target c.interpolation_pass.new.target (omega (arith, c.interpolation_pass.auto.target, c.deref_mut.ensures.len)) in
    let old : c.swap.new.y.items ≡ c.loop-done.source.items = ap (λ v. v.items) c.swap.ensures.y_after in
    record {
      block = larger_block c.args.width c.loop-done.done c.loop-done.block c.loop-done.invariant.block;
      blocks = fewer_blocks c.args.log_size c.loop-done.done c.loop-done.blocks c.loop-done-test.true c.loop-done.invariant.blocks;
      source_length = ap length new ∙ c.interpolation_pass.auto.target ∙ ap length c.deref_mut.ensures.value ∙ c.loop-done.invariant.target_length;
      target_length = ap length old ∙ c.loop-done.invariant.source_length;
      leads = interpolated_vector g.met.F.Field.field_laws g.F.TwoAdicField.TWO_ADICITY g.F.TwoAdicField.root g.F.Field.GENERATOR g.met.F.TwoAdicField.two_adic
          c.args.shift c.args.log_size c.loop-done.done c.args.width c.loop-done.block c.loop-done.blocks c.inverse-first.result c.inverse-ratio.result c.args.values.items
          c.deref.result.now c.interpolation_pass.new.target c.loop-done.source.items c.swap.new.x.items c.deref.ensures.value new c.loop-done-test.true c.requires.within c.requires.nonzero c.loop-done.invariant.blocks
          (c.inverse-first.ensures ∙ ap g.F.Field.inverse_of c.squared_times.ensures) (c.inverse-ratio.ensures ∙ ap g.F.Field.inverse_of c.two_adic_generator.ensures) c.interpolation_pass.ensures c.loop-done.invariant.leads;
    }

pub returns-clause-rows : goal.returns-clause-rows
returns-clause-rows g c =
    interpolated_all g.met.F.Field.field_laws g.F.TwoAdicField.TWO_ADICITY g.F.TwoAdicField.root g.F.Field.GENERATOR g.met.F.TwoAdicField.two_adic
    c.args.shift c.args.log_size c.loop-done.done c.args.width c.loop-done.block c.loop-done.blocks c.args.values.items c.loop-done.source.items
    c.loop-done-test.false c.loop-done.auto.done-end c.loop-done.invariant.blocks c.requires.size c.loop-done.invariant.leads
