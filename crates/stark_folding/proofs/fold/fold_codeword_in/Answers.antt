use Rattle.std.proofs.Common.{◌≡◌, ◌≢◌, ◌∙◌, ◌-◌, ◌/◌, ◌^◌, ℕ, ap, arith, length, sym}
use Rattle.stark_support.specs.Coset.{IsTwoAdicCoset, TwoAdicCoset, coset_point}
use Rattle.stark_support.specs.CosetFacts.{point_nonzero, root_nonzero}
use Rattle.stark_support.specs.Embedding.{embedded_two_adic}
use Rattle.stark_support.specs.TwoAdic.{TwoAdicLaws}
use Rattle.stark_folding.specs.Fold.{half_of}
use Rattle.stark_folding.specs.FoldFacts.{two_nonzero}
use Rattle.stark_folding.proofs.Steps.{codeword_all, codeword_more, codeword_none, first_weight, half_length, next_weight, weighted_pair}
use Rattle.stark_folding.proofs.fold.fold_codeword_in.Given as given
use Rattle.stark_folding.proofs.fold.fold_codeword_in.Goals as goal

-- The roots of one and the generator, in the extension.
abbrev root_in : (g : given.Over) → ℕ → g.row.EF.Denot
root_in g k = g.EF.ExtensionField.embed (g.F.TwoAdicField.root k)

abbrev generator_in : (g : given.Over) → g.row.EF.Denot
generator_in g = g.EF.ExtensionField.embed g.F.Field.GENERATOR

abbrev roots_in : (g : given.Over) → TwoAdicLaws g.EF.Field.ring g.F.TwoAdicField.TWO_ADICITY (root_in g) (generator_in g)
roots_in g = embedded_two_adic g.met.EF.ExtensionField.embeds g.F.TwoAdicField.TWO_ADICITY g.F.TwoAdicField.root g.F.Field.GENERATOR g.met.F.TwoAdicField.two_adic

two_nonzero_in : (g : given.Over) (x y z : g.row.EF.Denot) → x ≡ g.EF.Field.ring.one → y ≡ g.EF.Field.ring.one → z ≡ g.EF.Field.ring.add x y → z ≢ g.EF.Field.ring.zero
two_nonzero_in g x y z one one_too sum e =
    let ring = g.EF.Field.ring in
    two_nonzero g.met.EF.Field.field_laws g.F.TwoAdicField.TWO_ADICITY (root_in g) (generator_in g) (roots_in g)
    (ap (λ t. ring.add t ring.one) (sym one) ∙ ap (ring.add x) (sym one_too) ∙ sym sum ∙ e)

pub inverse-one_half-requires : goal.inverse-one_half-requires
inverse-one_half-requires g c =
    two_nonzero_in g c.ONE.result c.ONE-2.result c.add.result (c.ONE.ensures ∙ g.met.EF.Field.one_is) (c.ONE-2.ensures ∙ g.met.EF.Field.one_is) (g.met.EF.Field.add_is _ _ _ c.add.ensures)

pub inverse-step-requires : goal.inverse-step-requires
inverse-step-requires g c = λ e.
    root_nonzero g.met.EF.Field.field_laws g.F.TwoAdicField.TWO_ADICITY (root_in g) (generator_in g) (roots_in g) c.args.log_size c.requires.within
    (ap g.EF.ExtensionField.embed (sym c.two_adic_generator.ensures) ∙ sym c.from_base-generator.ensures ∙ e)

abbrev coset_in : (g : given.Over) → g.row.F.Denot → ℕ → TwoAdicCoset g.row.EF.Denot
coset_in g shift log_size = record { shift = g.EF.ExtensionField.embed shift; log_size = log_size }

-- Half, as the body has it.
half_in : (g : given.Over) (x y z h : g.row.EF.Denot) → x ≡ g.EF.Field.ring.one → y ≡ g.EF.Field.ring.one → z ≡ g.EF.Field.ring.add x y → h ≡ g.EF.Field.inverse_of z
    → h ≡ half_of g.EF.Field.ring g.EF.Field.inverse_of
half_in g x y z h one one_too sum is =
    let ring = g.EF.Field.ring in
    is ∙ ap g.EF.Field.inverse_of (sum ∙ ap (λ t. ring.add t y) one ∙ ap (ring.add ring.one) one_too)

shift_nonzero_in : (g : given.Over) (shift : g.row.F.Denot) → shift ≢ g.F.Field.ring.zero → g.EF.ExtensionField.embed shift ≢ g.EF.Field.ring.zero
shift_nonzero_in g shift nonzero e = nonzero (g.met.EF.ExtensionField.embeds.injective _ _ (e ∙ sym g.met.EF.ExtensionField.embeds.keeps.zero))

pub loop-i-init : goal.loop-i-init
loop-i-init g c =
    let ring = g.EF.Field.ring in
    let shift = g.EF.ExtensionField.embed c.args.shift in
    let half : c.inverse-one_half.result ≡ half_of ring g.EF.Field.inverse_of
    = half_in g c.ONE.result c.ONE-2.result c.add.result c.inverse-one_half.result (c.ONE.ensures ∙ g.met.EF.Field.one_is) (c.ONE-2.ensures ∙ g.met.EF.Field.one_is) (g.met.EF.Field.add_is _ _ _ c.add.ensures) c.inverse-one_half.ensures in (
      first_weight g.met.EF.Field.field_laws c.args.beta shift (root_in g c.args.log_size) c.mul-weight.result (shift_nonzero_in g c.args.shift c.requires.shift)
          (g.met.EF.Field.mul_is _ _ _ c.mul-weight.ensures
          ∙ ap (λ t. ring.mul t c.inverse.result) (g.met.EF.Field.mul_is _ _ _ c.mul.ensures ∙ ap (λ t. ring.mul t c.args.beta) half)
          ∙ ap (ring.mul (ring.mul (half_of ring g.EF.Field.inverse_of) c.args.beta)) (c.inverse.ensures ∙ ap g.EF.Field.inverse_of c.from_base.ensures)),
      codeword_none g.met.EF.Field.field_laws g.F.TwoAdicField.TWO_ADICITY (root_in g) (generator_in g) (roots_in g) (coset_in g c.args.shift c.args.log_size) c.args.beta c.args.codeword.now
          c.in_ok-half.half.items c.in_ok-half.ensures.items,
    )

pub loop-i-preserved : goal.loop-i-preserved
loop-i-preserved g c =
    let ring = g.EF.Field.ring in
    let laws = g.met.EF.Field.field_laws in
    let n = c.loop-i.i in
    let shift = g.EF.ExtensionField.embed c.args.shift in
    let coset = coset_in g c.args.shift c.args.log_size in
    let point = coset_point ring (root_in g) coset n in
    let valid : IsTwoAdicCoset ring g.F.TwoAdicField.TWO_ADICITY coset = record { shift_nonzero = shift_nonzero_in g c.args.shift c.requires.shift; within = c.requires.within } in
    let count : length c.args.codeword.now / 2 ≡ 2 ^ (c.args.log_size - 1) = half_length (length c.args.codeword.now) c.args.log_size c.requires.some c.requires.size in
    let turn = c.loop-i-test.true in
    let generator : c.from_base-generator.result ≡ root_in g c.args.log_size = c.from_base-generator.ensures ∙ ap g.EF.ExtensionField.embed c.two_adic_generator.ensures in
    let two = two_nonzero_in g ring.one ring.one (ring.add ring.one ring.one) (λ _. ring.one) (λ _. ring.one) (λ _. ring.add ring.one ring.one) in
    let half : c.inverse-one_half.result ≡ half_of ring g.EF.Field.inverse_of
    = half_in g c.ONE.result c.ONE-2.result c.add.result c.inverse-one_half.result (c.ONE.ensures ∙ g.met.EF.Field.one_is) (c.ONE-2.ensures ∙ g.met.EF.Field.one_is) (g.met.EF.Field.add_is _ _ _ c.add.ensures) c.inverse-one_half.ensures in
    let a = c.index-codeword-i-in-loop-i.result in
    let b = c.index-codeword-i.result in
    let w = c.loop-i.weight in (
      next_weight laws c.args.beta shift (root_in g c.args.log_size) c.inverse-step.result w c.mul-weight-in-loop-i.result n
          (ap (ring.mul (root_in g c.args.log_size)) (c.inverse-step.ensures ∙ ap g.EF.Field.inverse_of generator)
          ∙ laws.mul_inverse (root_in g c.args.log_size) (root_nonzero laws g.F.TwoAdicField.TWO_ADICITY (root_in g) (generator_in g) (roots_in g) c.args.log_size c.requires.within))
          (g.met.EF.Field.mul_is _ _ _ c.mul-weight-in-loop-i.ensures) c.loop-i.invariant.0,
      codeword_more laws g.F.TwoAdicField.TWO_ADICITY (root_in g) (generator_in g) (roots_in g) coset c.args.beta c.args.codeword.now valid c.requires.some
          n (length c.args.codeword.now / 2) point a b c.add-in-loop-i-2.result c.loop-i.half.items _ c.requires.size count (omega arith) (λ _. point)
          c.index-codeword-i-in-loop-i.is c.index-codeword-i.is
          (weighted_pair laws c.args.beta point w a b c.add-in-loop-i-2.result two
          (point_nonzero laws g.F.TwoAdicField.TWO_ADICITY (root_in g) (generator_in g) (roots_in g) coset valid n) c.loop-i.invariant.0
          (g.met.EF.Field.add_is _ _ _ c.add-in-loop-i-2.ensures
          ∙ ap (ring.add b) (g.met.EF.Field.mul_is _ _ _ c.mul-in-loop-i.ensures
          ∙ ap (λ t. ring.mul t c.sub.result) (g.met.EF.Field.add_is _ _ _ c.add-in-loop-i.ensures ∙ ap (λ t. ring.add t w) half)
          ∙ ap (ring.mul (ring.add (half_of ring g.EF.Field.inverse_of) w)) (g.met.EF.Field.sub_is _ _ _ c.sub.ensures))))
          c.in_ok-push.ensures.items c.loop-i.invariant.1,
    )

pub returns : goal.returns
returns g c =
    let count : length c.args.codeword.now / 2 ≡ 2 ^ (c.args.log_size - 1) = half_length (length c.args.codeword.now) c.args.log_size c.requires.some c.requires.size in
    let ended = c.loop-i-test.false in
    codeword_all g.met.EF.Field.field_laws g.F.TwoAdicField.TWO_ADICITY (root_in g) (generator_in g) (roots_in g) (coset_in g c.args.shift c.args.log_size) c.args.beta c.args.codeword.now
    c.loop-i.i _ c.loop-i.half.items (omega arith) c.loop-i.invariant.1
