-- The program beside the trace.
use Rattle.std.specs.Prelude.{◌≡◌, ◌≢◌, ℕ, zero, suc, ◌*◌, ◌^◌, ◌<◌, List, [], ◌++◌, Option, Some, length}
use Rattle.stark_air.specs.Declaration.{Trace}
use Rattle.stark_machine.specs.declared.program.MachineError.{MachineError}
use Rattle.stark_machine.specs.declared.program.MachineError.TheVariants.{Columns, Height, Rows, OutOfMemory}

-- A list, so many times.
abbrev pub copies : {F : Type 0} → ℕ → List F → List F
copies zero values = []
copies (suc n) values = copies n values ++ values

-- The rows beside the trace are so many copies of the program, 2 ^ log_rows rows of 14 numbers.
pub record RepeatsProgram {F : Type 0} (program : List F) (log_rows : ℕ) (trace : Option (Trace F)) : Type 0 where
  pub count : ℕ
  pub repeated : trace ≡ Some (record { width = 14; values = copies count program })
  pub filled : count * length program ≡ 2 ^ log_rows * 14

-- No number of copies of so many numbers is 2 ^ log_rows rows.
abbrev pub no_copies_fill : ℕ → ℕ → MachineError → Type 0
no_copies_fill numbers log_rows error = (error ≡ Rows) × ((count : ℕ) → count * numbers ≢ 2 ^ log_rows * 14)

-- What is wrong with a program of rows of this width for a trace of 2 ^ log_rows rows.
abbrev pub IsProgramFault : {F : Type 0} → ℕ → List F → ℕ → MachineError → Type 0
IsProgramFault width program log_rows Columns = width ≢ 14
IsProgramFault width program log_rows Height = 59 < log_rows
IsProgramFault width program log_rows Rows = (count : ℕ) → count * length program ≢ 2 ^ log_rows * 14
IsProgramFault width program log_rows OutOfMemory = Unit {0}
