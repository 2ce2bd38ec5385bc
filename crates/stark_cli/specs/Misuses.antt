-- What is said of words that ask for nothing.
use Rattle.std.specs.Prelude.{◌≡◌, ℕ, List, [], ◌∷◌, IsSome, None}
use Rattle.stark_cli.specs.Arguments.{verb_of}
use Rattle.stark_cli.specs.declared.misuse.Misuse.{Misuse}
use Rattle.stark_cli.specs.declared.misuse.Misuse.TheVariants.{NoVerb, UnknownVerb, UnknownOption, OptionAfterInput, OptionTwice, OptionOfAnotherVerb, NoPath, NoBits, NoStatement, OneWordMore, StandardInputTwice}

-- It is said of words of which the first is a verb.
abbrev pub IsOfVerb : Misuse → Type 0
IsOfVerb NoVerb = ⊥
IsOfVerb (UnknownVerb word) = ⊥
IsOfVerb (UnknownOption word) = Unit {0}
IsOfVerb (OptionAfterInput word) = Unit {0}
IsOfVerb (OptionTwice word) = Unit {0}
IsOfVerb (OptionOfAnotherVerb verb word) = Unit {0}
IsOfVerb NoPath = Unit {0}
IsOfVerb NoBits = Unit {0}
IsOfVerb (NoStatement verb) = Unit {0}
IsOfVerb (OneWordMore word) = Unit {0}
IsOfVerb StandardInputTwice = Unit {0}

-- The first of the words is a verb.
abbrev pub HasVerb : List (List ℕ) → Type 0
HasVerb words = (word : List ℕ) × (rest : List (List ℕ)) × (words ≡ word ∷ rest) × IsSome (verb_of word)

-- A verb is said to be missing where there is no word, and to be unknown where the first word is none; else the first word is one.
abbrev pub IsMisuseOf : List (List ℕ) → Misuse → Type 0
IsMisuseOf words NoVerb = words ≡ []
IsMisuseOf words (UnknownVerb word) = (rest : List (List ℕ)) × (words ≡ word.now ∷ rest) × (verb_of word.now ≡ None)
IsMisuseOf words (UnknownOption word) = HasVerb words
IsMisuseOf words (OptionAfterInput word) = HasVerb words
IsMisuseOf words (OptionTwice word) = HasVerb words
IsMisuseOf words (OptionOfAnotherVerb verb word) = HasVerb words
IsMisuseOf words NoPath = HasVerb words
IsMisuseOf words NoBits = HasVerb words
IsMisuseOf words (NoStatement verb) = HasVerb words
IsMisuseOf words (OneWordMore word) = HasVerb words
IsMisuseOf words StandardInputTwice = HasVerb words
