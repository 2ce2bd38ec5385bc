use Rattle.std.proofs.Common.{◌≡◌, ◌∙◌, ◌*◌, ◌^◌, ap, arith, sym, refl, [], length, ℕ, None}
use Rattle.stark_support.specs.CosetFacts.{root_has_order, root_nonzero}
use Rattle.stark_support.specs.FieldPair.{FieldsOps}
use Rattle.stark_protocol.proofs.Carried.{on_ok}
use Rattle.stark_prover.specs.Completeness.{declared_row}
use Rattle.guide_tests.specs.Counting.{counted_from}
use Rattle.guide_tests.proofs.CountingSteps.{counted_length, degrees_fit, drawn_with, fields_with, holds_in_each_row}
use Rattle.guide_tests.proofs.counting.count.Goals as goal

-- so many values in one column
height_of : (h width count : ℕ) → count ≡ 2 ^ h → width ≡ 1 → count ≡ 2 ^ h * width
height_of h width count e one = e ∙ (let once : 2 ^ h ≡ 2 ^ h * 1 = omega arith in once) ∙ ap (λ w. 2 ^ h * w) (sym one)

pub power_of_two-requires : goal.power_of_two-requires
power_of_two-requires g c = omega (arith, c.requires.group, g.met.SC.Pcs.Domain.Val.TwoAdicField.two_adic.bounded)

pub prove_and_verify-requires-clause-height : goal.prove_and_verify-requires-clause-height
prove_and_verify-requires-clause-height g c =
    let ring = g.SC.Pcs.Domain.Val.Field.ring in
    let are = ap (λ v. v.items) c.new_col-trace.ensures.values ∙ c.in_ok-numbers.ensures ∙ ap (counted_from ring c.args.start 0) c.power_of_two.ensures in
    (c.args.log_height, height_of c.args.log_height _ _ (ap length are ∙ counted_length ring c.args.start 0 (2 ^ c.args.log_height)) c.new_col-trace.ensures.width, c.requires.within, tt)

pub prove_and_verify-requires-clause-fits : goal.prove_and_verify-requires-clause-fits
prove_and_verify-requires-clause-fits g c =
    let one = c.new_col-trace.ensures.width in
    record {
      columns = omega (arith, one);
      width = one;
      public_values = ap length (c.deref.ensures.value ∙ c.in_ok-public_values.ensures);
      there = refl;
      stands = ([], refl, refl);
    }

pub returns : goal.returns
returns g c = record {
  accepted =
      let val = g.SC.Pcs.Domain.Val in
      let challenge = g.SC.Challenge in
      let ring = val.Field.ring in
      let h = c.args.log_height in
      let laws = g.met.SC.Pcs.Domain.Val.Field.field_laws in
      let two_adic = g.met.SC.Pcs.Domain.Val.TwoAdicField.two_adic in
      let fields : FieldsOps g.row.SC-Pcs-Domain-Val.Denot g.row.SC-Challenge.Denot =
      fields_with ring val.Field.inverse_of val.PartialEq.eq val.TwoAdicField.TWO_ADICITY val.TwoAdicField.root val.Field.GENERATOR challenge.Field.ring challenge.Field.inverse_of challenge.ExtensionField.embed challenge.ExtensionField.DIMENSION challenge.ExtensionField.basis in
      let are = ap (λ v. v.items) c.new_col-trace.ensures.values ∙ c.in_ok-numbers.ensures ∙ ap (counted_from ring c.args.start 0) c.power_of_two.ensures in
      let is_public = c.deref.ensures.value ∙ c.in_ok-public_values.ensures in
      on_ok _ _ c.prove_and_verify.result (λ made complete least whole drawn_here.
      let drawn = drawn_with _ _ _ c.deref.result.now is_public drawn_here in
      complete h (record { rows = height_of h _ _ (ap length are ∙ counted_length ring c.args.start 0 (2 ^ h)) c.new_col-trace.ensures.width; least = least; complete = whole }) (record {
        set_up = refl;
        satisfied = holds_in_each_row fields laws h (root_has_order laws val.TwoAdicField.TWO_ADICITY val.TwoAdicField.root val.Field.GENERATOR two_adic h c.requires.group)
            (root_nonzero laws val.TwoAdicField.TWO_ADICITY val.TwoAdicField.root val.Field.GENERATOR two_adic h c.requires.group) c.args.start val.Element.ONE g.met.SC.Pcs.Domain.Val.Field.one_is (declared_row None) _ _ _ are c.new_col-trace.ensures.width is_public;
        sized = degrees_fit val.Element.ONE g.SC.Pcs.Pcs.ZK h;
        alpha = drawn.alpha;
        zeta = drawn.zeta;
        drawn = drawn.drawn;
        outside = drawn.outside;
      })) c.prove_and_verify.ensures.complete;
}
