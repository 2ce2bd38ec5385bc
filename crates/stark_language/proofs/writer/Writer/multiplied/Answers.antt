use Rattle.stark_language.specs.Nodes.{multiplied, writer_view}
use Rattle.stark_language.proofs.Naming.{product_ends, product_goes}
use Rattle.stark_language.proofs.writer.Writer.multiplied.Goals as goal

pub loop-step-preserved : goal.loop-step-preserved
loop-step-preserved c =
    product_goes c.args.factor c.args.count c.loop-step._step c.loop-step.product (writer_view c.loop-step.self) (multiplied c.args.factor c.args.count c.args.start (writer_view c.args.self.now)) _ _ c.loop-step-test.true c.in_ok-product.ensures.exact c.loop-step.invariant

pub returns : goal.returns
returns c =
    product_ends c.args.factor c.args.count c.loop-step._step c.loop-step.product (writer_view c.loop-step.self) (multiplied c.args.factor c.args.count c.args.start (writer_view c.args.self.now)) c.loop-step-test.false c.loop-step.invariant
