use Rattle.std.proofs.Common.{◌∙◌, ◌-◌, ap, arith, length, sym}
use Rattle.std.proofs.lemmas.List.{drop_all}
use Rattle.stark_support.specs.Polynomial.{value}
use Rattle.stark_fri_prover.proofs.BatchSteps.{carried, length_kept, raised_all, raised_more, raised_none}
use Rattle.stark_fri_prover.proofs.batch.add_quotient.Goals as goal

pub loop-i-init : goal.loop-i-init
loop-i-init g c =
    let ring = g.E.Field.ring in
    let p = c.args.polynomial.now in
    record {
      within = omega arith;
      number = λ _. length c.args.sum.now;
      carry = c.ZERO-carry.ensures ∙ g.met.E.Field.zero_is ∙ ap (λ t. value ring t c.args.point) (sym (drop_all (length p) p (omega arith)));
      sum = raised_none g.met.E.Field.field_laws.of_ring c.args.point p c.args.sum.now (length p - 1) (omega arith);
    }

pub loop-i-preserved : goal.loop-i-preserved
loop-i-preserved g c =
    let ring = g.E.Field.ring in
    let laws = g.met.E.Field.field_laws.of_ring in
    let p = c.args.polynomial.now in
    let i = c.loop-i.i in
    let turn = c.loop-i-test.true in
    let inv = c.loop-i.invariant in
    let carry = carried laws c.args.point p c.args.sum.now i (i - 1) c.index-polynomial-i.result c.loop-i.carry c.add-carry.result (omega arith) inv.within c.index-polynomial-i.is inv.carry
    (g.met.E.Field.add_is _ _ _ c.add-carry.ensures ∙ ap (ring.add c.index-polynomial-i.result) (g.met.E.Field.mul_is _ _ _ c.mul.ensures)) in
    record {
      within = omega (arith, inv.within);
      number = length_kept c.loop-i.sum (i - 1 - 1) c.add.result ∙ inv.number;
      carry = carry;
      sum = raised_more laws c.args.point p c.args.sum.now (i - 1) (i - 1 - 1) c.add-carry.result c.index-sum-i.result c.add.result c.loop-i.sum (omega arith) (omega (arith, inv.within))
          (inv.number ∙ sym c.requires) carry c.index-sum-i.is (g.met.E.Field.add_is _ _ _ c.add.ensures) inv.sum;
    }

pub returns : goal.returns
returns g c =
    let ended = c.loop-i-test.false in
    record {
      number = c.loop-i.invariant.number;
      values = raised_all g.met.E.Field.field_laws.of_ring c.args.point c.args.polynomial.now c.args.sum.now (c.loop-i.i - 1) c.loop-i.sum (omega arith) c.loop-i.invariant.sum;
    }
