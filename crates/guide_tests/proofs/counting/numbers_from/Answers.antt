use Rattle.std.proofs.Common.{◌∙◌, arith, refl}
use Rattle.stark_support.proofs.InOrder.{next_listed, none_listed}
use Rattle.guide_tests.specs.Counting.{count_at, counted_from}
use Rattle.guide_tests.proofs.CountingSteps.{next_number}
use Rattle.guide_tests.proofs.counting.numbers_from.Goals as goal

pub loop-index-init : goal.loop-index-init
loop-index-init g c = (none_listed (count_at g.F.Field.ring c.args.start) (counted_from g.F.Field.ring c.args.start) (λ m n. refl) c.args.count c.new-numbers.result.items c.new-numbers.ensures.items, refl)

pub loop-index-preserved : goal.loop-index-preserved
loop-index-preserved g c =
    let ring = g.F.Field.ring in
    let i = c.loop-index._index in (
      next_listed (count_at ring c.args.start) (counted_from ring c.args.start) (λ m n. refl) c.args.count i c.loop-index.numbers.items c.push.new.self.items _ c.loop-index.number (omega arith) c.loop-index.invariant.1 c.in_ok-push.ensures.items c.loop-index.invariant.0,
      g.met.F.Field.add_is _ _ _ c.add-number.ensures ∙ next_number ring c.args.start i c.loop-index.number _ (c.ONE.ensures ∙ g.met.F.Field.one_is) c.loop-index.invariant.1,
    )
