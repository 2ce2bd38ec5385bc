use Rattle.std.proofs.Common.{◌≡◌, ◌++◌, drop}
use Rattle.std.specs.Prelude.{flat_map}
use Rattle.stark_statement.specs.StatementBytes.{node_words}
use Rattle.stark_statement.specs.Words.{counted}
use Rattle.stark_statement.proofs.words.push_nodes.Given as goal

-- What is written, with what is left to write, is all.
abbrev pub invariant-loop-node : goal.invariant-loop-node
invariant-loop-node l = l.words.items ++ flat_map node_words (drop l.node-index l.nodes) ≡ l.fn.words.items ++ counted node_words l.fn.nodes
