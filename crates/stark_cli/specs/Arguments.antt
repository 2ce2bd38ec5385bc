-- What the words after the name of `voskligan` ask for.
use Rattle.std.specs.Prelude.{ℕ, ◌^◌, Bool, true, false, ◌&&◌, ◌||◌, List, [], ◌∷◌, length, if◌then◌else◌, Option, None, Some, is_none, nat_eq, nat_lt, option_map, option_copied, option_and_then, codes}
use Rattle.std.specs.Char.{digit_value}
use Rattle.std.specs.List.{list_all, starts_with}
use Rattle.std.specs.Str.{bytes_eq}
use Rattle.std.specs.Str.Parse.{digits_value, without_leading_plus}
use Rattle.stark_cli.specs.declared.arguments.InputWord.{InputWord}
use Rattle.stark_cli.specs.declared.arguments.InputWord.TheVariants as word
use Rattle.stark_cli.specs.declared.arguments.Inputs.{Inputs}
use Rattle.stark_cli.specs.declared.arguments.Options.{Options}
use Rattle.stark_cli.specs.declared.arguments.Request.{Request}
use Rattle.stark_cli.specs.declared.arguments.Request.TheVariants as request
use Rattle.stark_cli.specs.declared.arguments.Task.{Task}
use Rattle.stark_cli.specs.declared.statements.Verb.{Verb}
use Rattle.stark_cli.specs.declared.statements.Verb.TheVariants.{Show, Trace, Verify, VerifyAtLeast}
use Rattle.stark_answers.specs.declared.task.ProofForm.TheVariants.{Bytes, Json}
use Rattle.stark_answers.specs.declared.task.TraceTask.TheVariants.{Check, Prove, ProveUnchecked}

-- what is read: nothing, standard input, or the file of a path
pub data InputName : Type 0 where
  nothing : InputName
  standard : InputName
  file : List ℕ → InputName

-- a statement, and a proof or a trace
pub record InputNames : Type 0 where
  pub statement : InputName
  pub second : InputName

-- a verb with its options, of which `--at-least`, `--unchecked` and `--binary` make it another verb
pub record AskedVerb : Type 0 where
  pub verb : Verb
  pub output : Option (List ℕ)
  pub quiet : Bool

-- such a verb with what it reads
pub record AskedTask : Type 0 where
  pub asked : AskedVerb
  pub inputs : InputNames

-- what words ask for
pub data Asked : Type 0 where
  help : Asked
  version : Asked
  unknown : Asked
  run : AskedTask → Asked

abbrev pub input_view : InputWord → InputName
input_view word.Nothing = nothing
input_view word.Standard = standard
input_view (word.File path) = file path.now

abbrev pub inputs_view : Inputs → InputNames
inputs_view inputs = record { statement = input_view inputs.statement; second = input_view inputs.second }

abbrev pub options_view : Options → AskedVerb
options_view o = record { verb = o.verb; output = option_copied o.output; quiet = o.quiet }

abbrev pub task_view : Task → AskedTask
task_view t = record {
  asked = record { verb = t.verb; output = option_copied t.output; quiet = t.quiet };
  inputs = record { statement = input_view t.statement; second = input_view t.second };
}

abbrev pub request_view : Request → Asked
request_view request.Help = help
request_view request.Version = version
request_view request.Unknown = unknown
request_view (request.Run t) = run (task_view t)

unfoldable pub verb_of : List ℕ → Option Verb
verb_of w =
    if bytes_eq w (codes "verify") then Some Verify
    else if bytes_eq w (codes "prove") then Some (Trace (Prove Json))
    else if bytes_eq w (codes "check") then Some (Trace Check)
    else if bytes_eq w (codes "show") then Some Show
    else None

-- a path is any word but `-` and those that begin as an option does
unfoldable pub path_of : List ℕ → Option (List ℕ)
path_of w = if bytes_eq w (codes "-") || starts_with nat_eq w (codes "--") then None else Some w

-- the word `-` is standard input
unfoldable pub input_of : List ℕ → Option InputName
input_of w = if bytes_eq w (codes "-") then Some standard else option_map file (path_of w)

-- standard input can't be read twice
abbrev pub unless_twice : InputName → InputName → Option InputNames
unless_twice standard standard = None
unless_twice statement second = Some (record { statement = statement; second = second })

-- a last word that is left out is standard input; to show takes no second word
abbrev pub with_one : Verb → InputName → Option InputNames
with_one Show statement = Some (record { statement = statement; second = nothing })
with_one Verify statement = unless_twice statement standard
with_one (VerifyAtLeast floor) statement = unless_twice statement standard
with_one (Trace asked) statement = unless_twice statement standard

abbrev pub with_two : Verb → InputName → InputName → Option InputNames
with_two Show statement second = None
with_two Verify statement second = unless_twice statement second
with_two (VerifyAtLeast floor) statement second = unless_twice statement second
with_two (Trace asked) statement second = unless_twice statement second

-- the words that name a verb's inputs
unfoldable pub inputs_of : Verb → List (List ℕ) → Option InputNames
inputs_of verb [] = None
inputs_of verb (statement ∷ []) = option_and_then (with_one verb) (input_of statement)
inputs_of verb (statement ∷ second ∷ []) = option_and_then (λ first. option_and_then (with_two verb first) (input_of second)) (input_of statement)
inputs_of verb (statement ∷ second ∷ more ∷ rest) = None

-- a verb without options
abbrev pub without_options : Verb → AskedVerb
without_options verb = record { verb = verb; output = None; quiet = false }

abbrev pub is_show : Verb → Bool
is_show Show = true
is_show Verify = false
is_show (VerifyAtLeast floor) = false
is_show (Trace asked) = false

-- one more option, if the verb takes it and hasn't got it
unfoldable pub with_quiet : AskedVerb → Option AskedVerb
with_quiet asked = if is_show asked.verb || asked.quiet then None else Some (record { verb = asked.verb; output = asked.output; quiet = true })

-- one digit or more, and nothing else
abbrev pub is_numeral : List ℕ → Bool
is_numeral digits = nat_lt 0 (length digits) && list_all (λ d. nat_lt (digit_value d) 10) digits

-- the number of bits that a word is, in decimal digits, before which a plus may stand; none where it is no such number, or 2 ^ 64 and more
unfoldable pub bits_of : List ℕ → Option ℕ
bits_of w =
    let digits = without_leading_plus w in
    if is_numeral digits && nat_lt (digits_value 10 digits) (2 ^ 64) then Some (digits_value 10 digits) else None

abbrev pub floor_verb : ℕ → Verb → Option Verb
floor_verb floor Verify = Some (VerifyAtLeast floor)
floor_verb floor (VerifyAtLeast other) = None
floor_verb floor (Trace asked) = None
floor_verb floor Show = None

unfoldable pub with_floor : List ℕ → AskedVerb → Option AskedVerb
with_floor word asked =
    option_and_then (λ floor. option_map (λ verb. record { verb = verb; output = asked.output; quiet = asked.quiet }) (floor_verb floor asked.verb)) (bits_of word)

abbrev pub unchecked_verb : Verb → Option Verb
unchecked_verb (Trace (Prove form)) = Some (Trace (ProveUnchecked form))
unchecked_verb (Trace (ProveUnchecked form)) = None
unchecked_verb (Trace Check) = None
unchecked_verb Verify = None
unchecked_verb (VerifyAtLeast floor) = None
unchecked_verb Show = None

unfoldable pub with_unchecked : AskedVerb → Option AskedVerb
with_unchecked asked = option_map (λ verb. record { verb = verb; output = asked.output; quiet = asked.quiet }) (unchecked_verb asked.verb)

abbrev pub binary_verb : Verb → Option Verb
binary_verb (Trace (Prove Json)) = Some (Trace (Prove Bytes))
binary_verb (Trace (Prove Bytes)) = None
binary_verb (Trace (ProveUnchecked Json)) = Some (Trace (ProveUnchecked Bytes))
binary_verb (Trace (ProveUnchecked Bytes)) = None
binary_verb (Trace Check) = None
binary_verb Verify = None
binary_verb (VerifyAtLeast floor) = None
binary_verb Show = None

unfoldable pub with_binary : AskedVerb → Option AskedVerb
with_binary asked = option_map (λ verb. record { verb = verb; output = asked.output; quiet = asked.quiet }) (binary_verb asked.verb)

abbrev pub is_prover : Verb → Bool
is_prover (Trace (Prove form)) = true
is_prover (Trace (ProveUnchecked form)) = true
is_prover (Trace Check) = false
is_prover Verify = false
is_prover (VerifyAtLeast floor) = false
is_prover Show = false

unfoldable pub with_output : List ℕ → AskedVerb → Option AskedVerb
with_output word asked =
    if is_prover asked.verb && is_none asked.output then option_map (λ path. record { verb = asked.verb; output = Some path; quiet = asked.quiet }) (path_of word)
    else None

-- a verb and its options with the words that name its inputs
unfoldable pub with_inputs : AskedVerb → List (List ℕ) → Option AskedTask
with_inputs asked words = option_map (λ inputs. record { asked = asked; inputs = inputs }) (inputs_of asked.verb words)

-- the words after a verb: its options, one by one, and then its inputs
abbrev mutual
  pub task_of : AskedVerb → List (List ℕ) → Option AskedTask
  task_of asked [] = None
  task_of asked (w ∷ rest) =
      if bytes_eq w (codes "--quiet") then option_and_then (λ more. task_of more rest) (with_quiet asked)
      else if bytes_eq w (codes "--at-least") then floored_of asked rest
      else if bytes_eq w (codes "--unchecked") then option_and_then (λ more. task_of more rest) (with_unchecked asked)
      else if bytes_eq w (codes "--binary") then option_and_then (λ more. task_of more rest) (with_binary asked)
      else if bytes_eq w (codes "--output") then output_of asked rest
      else with_inputs asked (w ∷ rest)

  -- the same where the first word is the floor that `--at-least` sets
  pub floored_of : AskedVerb → List (List ℕ) → Option AskedTask
  floored_of asked [] = None
  floored_of asked (w ∷ rest) = option_and_then (λ more. task_of more rest) (with_floor w asked)

  -- the same where the first word is what `--output` names
  pub output_of : AskedVerb → List (List ℕ) → Option AskedTask
  output_of asked [] = None
  output_of asked (w ∷ rest) = option_and_then (λ more. task_of more rest) (with_output w asked)

abbrev pub alone : List ℕ → Asked
alone w =
    if bytes_eq w (codes "--help") || bytes_eq w (codes "-h") || bytes_eq w (codes "help") then help else if bytes_eq w (codes "--version") then version else unknown

abbrev pub or_unknown : Option AskedTask → Asked
or_unknown None = unknown
or_unknown (Some task) = run task

-- what the words ask for, each compared whole
unfoldable pub request_of : List (List ℕ) → Asked
request_of [] = unknown
request_of (w ∷ []) = alone w
request_of (verb ∷ next ∷ rest) = or_unknown (option_and_then (λ v. task_of (without_options v) (next ∷ rest)) (verb_of verb))
