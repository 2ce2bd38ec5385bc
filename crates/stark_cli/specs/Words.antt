-- What the words after the program's name ask for.
use Rattle.std.specs.Prelude.{ℕ, List, [], ◌∷◌, if◌then◌else◌, Option, None, Some, option_map, codes}
use Rattle.std.specs.Str.{bytes_eq}
use Rattle.stark_cli.specs.declared.words.Command.{Command}
use Rattle.stark_cli.specs.declared.words.Command.TheVariants.{Check, Prove, Verify}
use Rattle.stark_commands.specs.declared.sample.SampleAir.{SampleAir}
use Rattle.stark_commands.specs.declared.sample.SampleAir.TheVariants.{Counter, Cubic, Fibonacci, Periodic, Preprocessed, Pair}

-- the AIR of a name, compared whole
unfoldable pub named_air : List ℕ → Option SampleAir
named_air name =
    if bytes_eq name (codes "counter") then Some Counter
    else if bytes_eq name (codes "cubic") then Some Cubic
    else if bytes_eq name (codes "fibonacci") then Some Fibonacci
    else if bytes_eq name (codes "periodic") then Some Periodic
    else if bytes_eq name (codes "preprocessed") then Some Preprocessed
    else if bytes_eq name (codes "pair") then Some Pair
    else None

-- the command that the words name, compared whole
unfoldable pub command_of : List (List ℕ) → Option Command
command_of [] = None
command_of (verb ∷ []) = None
command_of (verb ∷ air ∷ []) =
    if bytes_eq verb (codes "check") then option_map Check (named_air air)
    else if bytes_eq verb (codes "verify") then option_map Verify (named_air air)
    else if bytes_eq verb (codes "prove") then option_map Prove (named_air air)
    else None
command_of (verb ∷ air ∷ more ∷ rest) = None
