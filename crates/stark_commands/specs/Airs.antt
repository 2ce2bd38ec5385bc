-- The sample AIRs, and what each declares.
use Rattle.std.specs.Prelude.{ℕ, [], ◌∷◌, None, Some}
use Rattle.stark_air.specs.Declaration.{Trace}
use Rattle.stark_support.specs.Logarithm.{IsCeilingOfLog}
use Rattle.stark_parts.specs.Sizing.{constraint_degree, quotient_multiple}
use Rattle.stark_samples.specs.Samples.{column_layout, counter_layout, counter_constraints, cubic_constraints, fibonacci_layout, fibonacci_constraints, periodic_layout, periodic_constraints, preprocessed_layout, preprocessed_constraints, pair_layout, pair_constraints}
use Rattle.stark_fields.specs.Residues.{residue}
use Rattle.stark_commands.specs.Input.{Base}
use Rattle.stark_answers.specs.CheckedAir.{CheckedAir, checked_air}
use Rattle.stark_commands.specs.declared.sample.SampleAir.{SampleAir}
use Rattle.stark_commands.specs.declared.sample.SampleAir.TheVariants.{Counter, Cubic, Fibonacci, Periodic, Preprocessed, Pair}

-- the preprocessed column 1, 2, 3, 4
abbrev pub one_to_four : Trace Base
one_to_four = record { width = 1; values = residue 1 ∷ residue 2 ∷ residue 3 ∷ residue 4 ∷ [] }

-- The quotient of its constraints is cut into 2 ^ log_chunks chunks.
abbrev pub IsCutInto : CheckedAir Base → ℕ → Type 0
IsCutInto air log_chunks = IsCeilingOfLog log_chunks (quotient_multiple (constraint_degree 0 air.constraints air.degree_hint) 0)

-- the sample AIR of a name
abbrev pub sample : SampleAir → CheckedAir Base
sample Counter = checked_air counter_layout (0 ∷ []) [] None (counter_constraints (residue 1)) None []
sample Cubic = checked_air column_layout [] [] None cubic_constraints None []
sample Fibonacci = checked_air fibonacci_layout (0 ∷ 1 ∷ []) [] None fibonacci_constraints None []
sample Periodic = checked_air periodic_layout [] ((residue 0 ∷ residue 1 ∷ []) ∷ []) None periodic_constraints None []
sample Preprocessed = checked_air preprocessed_layout [] [] None preprocessed_constraints (Some one_to_four) []
sample Pair = checked_air pair_layout (0 ∷ 1 ∷ []) [] None (pair_constraints (residue 1)) None []

-- the cubic one's constraint has degree 3, that of the others 2 at most
abbrev pub log_chunks_of : SampleAir → ℕ
log_chunks_of Counter = 0
log_chunks_of Cubic = 1
log_chunks_of Fibonacci = 0
log_chunks_of Periodic = 0
log_chunks_of Preprocessed = 0
log_chunks_of Pair = 0
