use Rattle.std.proofs.Common.{◌≡◌, ◌++◌, drop}
use Rattle.std.specs.Prelude.{flat_map}
use Rattle.stark_support.specs.Seed.{number}
use Rattle.stark_statement.specs.Words.{labelled}
use Rattle.stark_statement.proofs.writing.labelled.Given as goal

-- What is written, with what is left to write, is all.
abbrev pub invariant-loop-word : goal.invariant-loop-word
invariant-loop-word l = l.bytes.items ++ flat_map number (drop l.word-index l.words) ≡ labelled l.words
