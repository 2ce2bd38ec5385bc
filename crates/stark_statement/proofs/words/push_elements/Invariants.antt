use Rattle.std.proofs.Common.{◌≡◌, ◌++◌, drop}
use Rattle.std.specs.Prelude.{flat_map}
use Rattle.stark_statement.specs.StatementBytes.{element_words, elements_words}
use Rattle.stark_statement.proofs.words.push_elements.Given as goal

-- What is written, with what is left to write, is all.
abbrev pub invariant-loop-element : goal.invariant-loop-element
invariant-loop-element g l =
    l.words.items ++ flat_map (element_words g.F.PrimeField64.number_of) (drop l.element-index l.elements) ≡ l.fn.words.items ++ elements_words g.F.PrimeField64.number_of l.fn.elements
