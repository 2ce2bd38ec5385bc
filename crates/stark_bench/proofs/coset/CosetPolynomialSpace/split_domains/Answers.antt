use Rattle.std.proofs.Common.{◌≡◌, ◌≤◌, ◌-◌, ◌^◌, ◌∙◌, ap, sym, map, arith}
use Rattle.stark_support.specs.Coset.{TwoAdicCoset}
use Rattle.stark_support.specs.CosetFacts.{point_nonzero}
use Rattle.stark_support.specs.LogarithmFacts.{exponent_at_most, same_exponent}
use Rattle.stark_support.specs.PartFacts.{no_parts, first_shift, next_shift, one_more_seen, all_parts}
use Rattle.stark_bench.proofs.coset.CosetPolynomialSpace.split_domains.Goals as goal

pub overflow_sub-log_size : goal.overflow_sub-log_size
overflow_sub-log_size g c = exponent_at_most c.log2_strict_usize.result c.args.self.now.log_size (omega (arith, c.log2_strict_usize.ensures, c.requires.within))

pub loop-part-init : goal.loop-part-init
loop-part-init g c = record {
  listed = λ log_parts e. no_parts g.met.F.Field.field_laws g.F.TwoAdicField.root _ log_parts _ (ap (map _) c.new-parts.ensures.items);
  shift = first_shift g.met.F.Field.field_laws g.F.TwoAdicField.root (record { shift = c.args.self.now.shift; log_size = c.args.self.now.log_size }) 0;
}

pub new-requires-clause-nonzero : goal.new-requires-clause-nonzero
new-requires-clause-nonzero g c =
    let coset : TwoAdicCoset g.row.F.Denot = record { shift = c.args.self.now.shift; log_size = c.args.self.now.log_size } in
    λ e. point_nonzero g.met.F.Field.field_laws _ _ _ g.met.F.TwoAdicField.two_adic coset (record { shift_nonzero = c.args.self.now.shift_nonzero; within = c.args.self.now.within }) c.loop-part._part
    (sym c.loop-part.invariant.shift ∙ e)

pub loop-part-preserved : goal.loop-part-preserved
loop-part-preserved g c =
    let laws = g.met.F.Field.field_laws in
    let ring = g.F.Field.ring in
    let root = g.F.TwoAdicField.root in
    let n = c.loop-part._part in
    let coset : TwoAdicCoset g.row.F.Denot = record { shift = c.args.self.now.shift; log_size = c.args.self.now.log_size } in
    record {
      listed = λ log_parts e.
          let same : c.log2_strict_usize.result ≡ log_parts = same_exponent c.log2_strict_usize.result log_parts (c.log2_strict_usize.ensures ∙ sym e) in
          one_more_seen laws root coset log_parts _ n _ _ _ (c.loop-part.invariant.listed log_parts e) c.in_ok-push.ensures.items
          (c.new.ensures.shift ∙ c.loop-part.invariant.shift) (c.new.ensures.size ∙ ap (λ k. coset.log_size - k) same);
      shift = g.met.F.Field.mul_is _ _ _ c.mul-shift.ensures ∙ ap (ring.mul c.loop-part.shift) c.two_adic_generator-generator.ensures ∙ next_shift laws root coset 0 n c.loop-part.shift c.loop-part.invariant.shift;
    }

pub returns : goal.returns
returns g c = λ log_parts e.
    let coset : TwoAdicCoset g.row.F.Denot = record { shift = c.args.self.now.shift; log_size = c.args.self.now.log_size } in
    let ended : c.loop-part._part ≡ 2 ^ log_parts = omega (arith, e) in
    let fits : log_parts ≤ c.args.self.now.log_size = exponent_at_most log_parts c.args.self.now.log_size (omega (arith, e, c.requires.within)) in
    all_parts g.met.F.Field.field_laws g.F.TwoAdicField.root coset log_parts g.F.TwoAdicField.TWO_ADICITY g.F.Field.GENERATOR g.met.F.TwoAdicField.two_adic
    (record { shift_nonzero = c.args.self.now.shift_nonzero; within = c.args.self.now.within }) fits c.loop-part._part _ ended (c.loop-part.invariant.listed log_parts e)
