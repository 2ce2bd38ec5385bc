use Rattle.std.proofs.Common.{◌≡◌, ◌∙◌, ◌-◌, ◌/◌, ◌^◌, ap, arith, length, sym}
use Rattle.stark_support.specs.Coset.{IsTwoAdicCoset, TwoAdicCoset}
use Rattle.stark_support.specs.CosetFacts.{point_nonzero}
use Rattle.stark_support.specs.Powers.{power}
use Rattle.stark_folding.proofs.Steps.{codeword_all, codeword_more, codeword_none, half_length, next_power, zeroth_power}
use Rattle.stark_folding.proofs.fold.fold_codeword.Goals as goal

pub loop-i-init : goal.loop-i-init
loop-i-init g c = (
  zeroth_power g.F.Field.ring c.two_adic_generator-generator.result c.ONE-power.result (c.ONE-power.ensures ∙ g.met.F.Field.one_is),
  codeword_none g.met.F.Field.field_laws g.F.TwoAdicField.TWO_ADICITY g.F.TwoAdicField.root g.F.Field.GENERATOR g.met.F.TwoAdicField.two_adic (record { shift = c.args.shift; log_size = c.args.log_size }) c.args.beta c.args.codeword.now
      c.new-half.result.items c.new-half.ensures.items,
)

pub fold_pair-requires : goal.fold_pair-requires
fold_pair-requires g c = λ e.
    let coset : TwoAdicCoset g.row.F.Denot = record { shift = c.args.shift; log_size = c.args.log_size } in
    let valid : IsTwoAdicCoset g.F.Field.ring g.F.TwoAdicField.TWO_ADICITY coset = record { shift_nonzero = c.requires.shift; within = c.requires.within } in
    point_nonzero g.met.F.Field.field_laws g.F.TwoAdicField.TWO_ADICITY g.F.TwoAdicField.root g.F.Field.GENERATOR g.met.F.TwoAdicField.two_adic coset valid c.loop-i.i
    (ap (g.F.Field.ring.mul c.args.shift) (sym (c.loop-i.invariant.0 ∙ ap (λ w. power g.F.Field.ring w c.loop-i.i) c.two_adic_generator-generator.ensures)) ∙ sym (g.met.F.Field.mul_is _ _ _ c.mul.ensures) ∙ e)

pub loop-i-preserved : goal.loop-i-preserved
loop-i-preserved g c =
    let coset : TwoAdicCoset g.row.F.Denot = record { shift = c.args.shift; log_size = c.args.log_size } in
    let valid : IsTwoAdicCoset g.F.Field.ring g.F.TwoAdicField.TWO_ADICITY coset = record { shift_nonzero = c.requires.shift; within = c.requires.within } in
    let half : length c.args.codeword.now / 2 ≡ 2 ^ (c.args.log_size - 1) = half_length (length c.args.codeword.now) c.args.log_size c.requires.some c.requires.size in
    let turn = c.loop-i-test.true in (
      g.met.F.Field.mul_is _ _ _ c.mul-power.ensures ∙ next_power g.F.Field.ring c.two_adic_generator-generator.result c.loop-i.i c.loop-i.power c.loop-i.invariant.0,
      codeword_more g.met.F.Field.field_laws g.F.TwoAdicField.TWO_ADICITY g.F.TwoAdicField.root g.F.Field.GENERATOR g.met.F.TwoAdicField.two_adic coset c.args.beta c.args.codeword.now valid c.requires.some
          c.loop-i.i (length c.args.codeword.now / 2) c.mul.result c.index-codeword-i.result c.index-codeword-i-in-loop-i.result c.fold_pair.result c.loop-i.half.items _
          c.requires.size half (omega arith)
          (g.met.F.Field.mul_is _ _ _ c.mul.ensures ∙ ap (g.F.Field.ring.mul c.args.shift) (c.loop-i.invariant.0 ∙ ap (λ w. power g.F.Field.ring w c.loop-i.i) c.two_adic_generator-generator.ensures))
          c.index-codeword-i.is c.index-codeword-i-in-loop-i.is c.fold_pair.ensures c.in_ok-push.ensures.items c.loop-i.invariant.1,
    )

pub returns : goal.returns
returns g c =
    let half : length c.args.codeword.now / 2 ≡ 2 ^ (c.args.log_size - 1) = half_length (length c.args.codeword.now) c.args.log_size c.requires.some c.requires.size in
    let ended = c.loop-i-test.false in
    codeword_all g.met.F.Field.field_laws g.F.TwoAdicField.TWO_ADICITY g.F.TwoAdicField.root g.F.Field.GENERATOR g.met.F.TwoAdicField.two_adic (record { shift = c.args.shift; log_size = c.args.log_size }) c.args.beta c.args.codeword.now
    c.loop-i.i _ c.loop-i.half.items (omega arith) c.loop-i.invariant.1
