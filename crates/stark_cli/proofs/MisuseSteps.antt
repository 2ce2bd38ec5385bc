-- What is said of words after a verb is said of all of them.
use Rattle.std.proofs.Common.{◌≡◌, ◌≤◌, ◌∙◌, ℕ, List, [], ◌∷◌, length, map, get_or, ap, arith, sym}
use Rattle.stark_cli.specs.Misuses.{HasVerb, IsMisuseOf, IsOfVerb}
use Rattle.stark_cli.specs.declared.misuse.Misuse.{Misuse}
use Rattle.stark_cli.specs.declared.misuse.Misuse.TheVariants.{NoVerb, UnknownVerb, UnknownOption, OptionAfterInput, OptionTwice, OptionOfAnotherVerb, NoPath, NoBits, NoStatement, OneWordMore, StandardInputTwice}

-- The first of some words and what stands after it.
pub first_word : {A : Type 0} (bytes : A → List ℕ) (words : List A) (first : A) (word : List ℕ) → 1 ≤ length words → first ≡ get_or words 0 first → word ≡ bytes first → (rest : List (List ℕ)) × (map bytes words ≡ word ∷ rest)
first_word bytes [] first word some is same = absurd (omega arith)
first_word bytes (w ∷ more) first word some is same = (map bytes more, ap (λ b. b ∷ map bytes more) (sym (same ∙ ap bytes is)))

pub said_of_verb : (words : List (List ℕ)) → HasVerb words → (misuse : Misuse) → IsOfVerb misuse → IsMisuseOf words misuse
said_of_verb words has NoVerb h = absurd h
said_of_verb words has (UnknownVerb word) h = absurd h
said_of_verb words has (UnknownOption word) h = has
said_of_verb words has (OptionAfterInput word) h = has
said_of_verb words has (OptionTwice word) h = has
said_of_verb words has (OptionOfAnotherVerb verb word) h = has
said_of_verb words has NoPath h = has
said_of_verb words has NoBits h = has
said_of_verb words has (NoStatement verb) h = has
said_of_verb words has (OneWordMore word) h = has
said_of_verb words has StandardInputTwice h = has
