use Rattle.std.proofs.Common.{rules, ◌≡◌, ◌∙◌, ◌+◌, ◌*◌, ◌++◌, ◌∷◌, [], ap, arith, length, refl}
use Rattle.stark_support.specs.Polynomial.{value}
use Rattle.stark_dft.specs.Passes.{entry}
use Rattle.stark_dft.specs.Strided.{strided}
use Rattle.stark_dft.specs.SplitFacts.{one_more_strided, strided_length, value_with_zero}
use Rattle.stark_dft.proofs.PassSteps.{was_read}
use Rattle.stark_dft.proofs.columns.strided_column.Goals as goal

pub loop-i-preserved : goal.loop-i-preserved
loop-i-preserved g c =
    let place = c.args.first + c.loop-i.i * c.args.step in
    one_more_strided (entry g.F.Field.ring c.args.rows.now) c.args.first c.args.step c.loop-i.i c.loop-i.p.items c.push.new.self.items c.index-rows-first.result
    (was_read g.F.Field.ring c.args.rows.now place place c.index-rows-first.result (c.requires.inside c.loop-i.i c.loop-i-test.true) c.index-rows-first.is refl)
    c.in_ok-push.ensures.items c.loop-i.invariant

pub loop-place-init : goal.loop-place-init
loop-place-init g c =
    let all : c.loop-i.i ≡ c.args.count = omega arith in
    let listed : c.loop-i.p.items ≡ strided (entry g.F.Field.ring c.args.rows.now) c.args.first c.args.step c.args.count = c.loop-i.invariant ∙ ap (strided (entry g.F.Field.ring c.args.rows.now) c.args.first c.args.step) all in (
      ap length listed ∙ strided_length g.met.F.Field.field_laws.of_ring (entry g.F.Field.ring c.args.rows.now) c.args.first c.args.step c.args.count,
      λ x. ap (λ t. value g.F.Field.ring t x) listed,
    )

pub loop-place-preserved : goal.loop-place-preserved
loop-place-preserved g c =
    let number : length c.push-in-loop-place.new.self.items ≡ c.loop-place._place + 1 = search rules in
    let pushed : c.push-in-loop-place.new.self.items ≡ c.loop-place.p.items ++ g.F.Field.ring.zero ∷ [] = search rules in
    (number, λ x. ap (λ t. value g.F.Field.ring t x) pushed ∙ value_with_zero g.met.F.Field.field_laws.of_ring c.loop-place.p.items x ∙ c.loop-place.invariant.1 x)
