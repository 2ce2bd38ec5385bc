use Rattle.std.proofs.Common.{arith}
use Rattle.stark_language.specs.Nodes.{writer_view}
use Rattle.stark_language.proofs.Naming.{no_operand, operand_popped}
use Rattle.stark_language.proofs.writer.Writer.pop_operand.Goals as goal

pub returns-in-Some : goal.returns-in-Some
returns-in-Some c = operand_popped (writer_view c.args.self.now) c.pop.new.self.items c.in-Some.node c.in-Some.ensures.items

pub returns-in-None : goal.returns-in-None
returns-in-None c =
    let cases = c.in-None.ensures.cases in
    rw c.fault.ensures (no_operand (writer_view c.args.self.now) (omega (arith, cases.0, c.args.self.now.stack.ok.0)))
