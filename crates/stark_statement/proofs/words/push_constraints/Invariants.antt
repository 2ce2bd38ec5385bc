use Rattle.std.proofs.Common.{◌≡◌, ◌++◌, drop}
use Rattle.std.specs.Prelude.{flat_map}
use Rattle.stark_statement.specs.StatementBytes.{constraint_words}
use Rattle.stark_statement.specs.Words.{counted}
use Rattle.stark_statement.proofs.words.push_constraints.Given as goal

-- What is written, with what is left to write, is all.
abbrev pub invariant-loop-constraint : goal.invariant-loop-constraint
invariant-loop-constraint l = l.words.items ++ flat_map constraint_words (drop l.constraint-index l.constraints) ≡ l.fn.words.items ++ counted constraint_words l.fn.constraints
