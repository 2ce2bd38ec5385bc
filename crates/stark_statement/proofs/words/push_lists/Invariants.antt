use Rattle.std.proofs.Common.{◌≡◌, ◌++◌, drop, map}
use Rattle.std.specs.Prelude.{flat_map}
use Rattle.stark_statement.specs.StatementBytes.{elements_words}
use Rattle.stark_statement.specs.Words.{counted}
use Rattle.stark_statement.proofs.words.push_lists.Given as goal

-- What is written, with what is left to write, is all.
abbrev pub invariant-loop-list : goal.invariant-loop-list
invariant-loop-list g l =
    l.words.items ++ flat_map (elements_words g.F.PrimeField64.number_of) (map (λ list. list.items) (drop l.list-index l.lists))
    ≡ l.fn.words.items ++ counted (elements_words g.F.PrimeField64.number_of) (map (λ list. list.items) l.fn.lists)
