-- What words about keys ask for.
use Rattle.std.specs.Prelude.{ℕ, Bool, true, false, List, [], ◌∷◌, if◌then◌else◌, Option, None, Some, codes}
use Rattle.std.specs.Str.{bytes_eq}
use Rattle.stark_cli.specs.Arguments.{InputName, input_of, input_view, nothing, path_of, standard}
use Rattle.stark_key_runs.specs.declared.words.KeyMisuse.{KeyMisuse}
use Rattle.stark_key_runs.specs.declared.words.KeyMisuse.TheVariants as misuse
use Rattle.stark_key_runs.specs.declared.words.KeyRequest.{KeyRequest}
use Rattle.stark_key_runs.specs.declared.words.KeyRequest.TheVariants as request

-- what is wrong with words, and the word at fault
pub data KeyFault : Type 0 where
  no_statement : KeyFault
  one_word_more : List ℕ → KeyFault
  unknown_option : List ℕ → KeyFault
  no_key : KeyFault
  key_twice : KeyFault
  key_after_input : KeyFault
  with_floor : KeyFault
  standard_input_twice : KeyFault

-- a statement's key; a verdict with the key of a path, on a statement and a proof; or nothing
pub data KeyAsked : Type 0 where
  make : InputName → KeyAsked
  judge : List ℕ → InputName → InputName → KeyAsked
  misused : KeyFault → KeyAsked

abbrev pub misuse_view : KeyMisuse → KeyFault
misuse_view misuse.NoStatement = no_statement
misuse_view (misuse.OneWordMore word) = one_word_more word.now
misuse_view (misuse.UnknownOption word) = unknown_option word.now
misuse_view misuse.NoKey = no_key
misuse_view misuse.KeyTwice = key_twice
misuse_view misuse.KeyAfterInput = key_after_input
misuse_view misuse.WithFloor = with_floor
misuse_view misuse.StandardInputTwice = standard_input_twice

abbrev pub request_view : KeyRequest → KeyAsked
request_view (request.Make statement) = make (input_view statement)
request_view (request.Judge key statement proof) = judge key.now (input_view statement) (input_view proof)
request_view (request.Misused fault) = misused (misuse_view fault)

-- a key of the input that a word names
abbrev pub made_of : List ℕ → Option InputName → KeyAsked
made_of word None = misused (unknown_option word)
made_of word (Some statement) = make statement

unfoldable pub making : List (List ℕ) → KeyAsked
making [] = misused no_statement
making (word ∷ []) = made_of word (input_of word)
making (word ∷ second ∷ rest) = misused (one_word_more second)

-- standard input can't be read twice
abbrev pub judged : List ℕ → InputName → InputName → KeyAsked
judged key standard standard = misused standard_input_twice
judged key statement proof = judge key statement proof

abbrev pub judged_one : List ℕ → List ℕ → Option InputName → KeyAsked
judged_one key word None = misused (unknown_option word)
judged_one key word (Some statement) = judged key statement standard

abbrev pub judged_two : List ℕ → List ℕ → Option InputName → List ℕ → Option InputName → KeyAsked
judged_two key word None second proof = misused (unknown_option word)
judged_two key word (Some statement) second None = misused (unknown_option second)
judged_two key word (Some statement) second (Some proof) = judged key statement proof

-- a proof that isn't named is standard input
unfoldable pub inputs_asked : List ℕ → List (List ℕ) → KeyAsked
inputs_asked key [] = misused no_statement
inputs_asked key (word ∷ []) = judged_one key word (input_of word)
inputs_asked key (word ∷ second ∷ []) = judged_two key word (input_of word) second (input_of second)
inputs_asked key (word ∷ second ∷ more ∷ rest) = misused (one_word_more more)

-- the inputs, where a key is named before them
abbrev pub inputs_if : Option (List ℕ) → List (List ℕ) → KeyAsked
inputs_if None words = misused key_after_input
inputs_if (Some key) words = inputs_asked key words

-- the path of a key, and what is asked with it
abbrev pub with_key_path : Option (List ℕ) → (List ℕ → KeyAsked) → KeyAsked
with_key_path None asked = misused no_key
with_key_path (Some key) asked = asked key

-- Options stand before the inputs, each a word, and `--key` with the path of the key after it, once.
abbrev mutual
  pub judging : Option (List ℕ) → List (List ℕ) → KeyAsked
  judging key [] = misused no_statement
  judging key (word ∷ rest) =
      if bytes_eq word (codes "--quiet") then judging key rest
      else if bytes_eq word (codes "--at-least") then misused with_floor
      else if bytes_eq word (codes "--key") then key_given key rest
      else inputs_if key (word ∷ rest)

  -- the same where the first word is the path that `--key` names
  pub key_given : Option (List ℕ) → List (List ℕ) → KeyAsked
  key_given (Some key) rest = misused key_twice
  key_given None [] = misused no_key
  key_given None (path ∷ rest) = with_key_path (path_of path) (λ key. judging (Some key) rest)

-- one of the words is `--key`
abbrev pub is_key_named : List (List ℕ) → Bool
is_key_named [] = false
is_key_named (word ∷ rest) = if bytes_eq word (codes "--key") then true else is_key_named rest

-- what words ask for, where they are about keys
unfoldable pub key_asked_of : List (List ℕ) → Option KeyAsked
key_asked_of [] = None
key_asked_of (verb ∷ rest) =
    if bytes_eq verb (codes "key") then Some (making rest)
    else if bytes_eq verb (codes "verify") then (if is_key_named rest then Some (judging None rest) else None)
    else None
