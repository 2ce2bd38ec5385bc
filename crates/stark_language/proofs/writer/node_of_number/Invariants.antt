use Rattle.std.proofs.Common.{◌≡◌, drop}
use Rattle.stark_language.specs.Nodes.{node_of_number}
use Rattle.stark_language.proofs.writer.node_of_number.Given as goal

abbrev pub invariant-loop-entry : goal.invariant-loop-entry
invariant-loop-entry l = node_of_number l.value (drop l.entry-index l.numbers) ≡ node_of_number l.value l.numbers
