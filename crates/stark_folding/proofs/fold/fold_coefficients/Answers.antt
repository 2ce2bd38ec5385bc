use Rattle.std.proofs.Common.{◌∙◌, ◌+◌, ◌*◌, ◌-◌, ◌≡◌, ap, arith, length, get_or}
use Rattle.stark_folding.proofs.Steps.{folded_even, folded_more, folded_odd}
use Rattle.stark_folding.proofs.fold.fold_coefficients.Goals as goal
use Rattle.stark_folding.proofs.fold.fold_coefficients.Goals.{then-p-eq1+in_ok-push-2, else-p-eq1}

pub loop-i-preserved : goal.loop-i-preserved
loop-i-preserved g c =
    let turn = c.loop-i-test.true in
    folded_more g.F.Field.ring c.args.beta c.args.p.now c.loop-i.i c.index-p-i.result c.index-p-i-in-loop-i.result c.add.result c.loop-i.half.items _ _ (omega arith) c.index-p-i.is c.index-p-i-in-loop-i.is
    (g.met.F.Field.add_is _ _ _ c.add.ensures ∙ ap (g.F.Field.ring.add c.index-p-i.result) (g.met.F.Field.mul_is _ _ _ c.mul.ensures)) c.in_ok-push.ensures.items c.loop-i.invariant

pub returns : goal.returns
returns g c =
    let ended = c.loop-i-test.false in
    elim c.if-p-eq1.branch [
      | then-p-eq1+in_ok-push-2 w ↦
          let odd = w.if-p-eq1.true in
          let count : length c.args.p.now ≡ 2 * c.loop-i.i + 1 = omega (arith, odd, ended) in
          let last : length c.args.p.now - 1 ≡ 2 * c.loop-i.i = omega arith in
          folded_odd g.F.Field.ring c.args.beta c.args.p.now c.loop-i.i w.index-p-p.result c.loop-i.half.items _ _ count
          (w.index-p-p.is ∙ ap (λ n. get_or c.args.p.now n w.index-p-p.result) last) (ap (λ v. v.items) w.half-is ∙ w.in_ok-push-2.ensures.items) c.loop-i.invariant
      | else-p-eq1 w ↦
          let even = w.if-p-eq1.false in
          folded_even g.F.Field.ring c.args.beta c.args.p.now c.loop-i.i c.loop-i.half.items _ _ (omega (arith, even, ended)) (ap (λ v. v.items) w.half-is) c.loop-i.invariant
    ]
