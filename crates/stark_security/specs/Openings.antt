-- How many openings a commitment scheme batches.
use Rattle.std.specs.Prelude.{ℕ, ◌+◌, ◌*◌, Bool, true, false, if◌then◌else◌, List}
use Rattle.stark_security.specs.declared.openings.OpeningShape.{OpeningShape}
use Rattle.stark_security.specs.declared.openings.OpeningShape.TheVariants.{TwoAdic, Circle, Hiding}
use Rattle.stark_air.specs.declared.layout.AirLayout.{AirLayout}
use Rattle.stark_transcript.specs.Shape.{opens_next_row}

-- trace and quotient are masked
abbrev pub hides : OpeningShape → Bool
hides TwoAdic = false
hides Circle = false
hides (Hiding n) = true

-- the random columns of each matrix but the preprocessed one
abbrev pub random_columns : OpeningShape → ℕ
random_columns TwoAdic = 0
random_columns Circle = 0
random_columns (Hiding n) = n

-- the powers of the batching challenge for each column and point
abbrev pub powers_of : OpeningShape → ℕ
powers_of TwoAdic = 1
powers_of Circle = 2
powers_of (Hiding n) = 1

-- the points that a column is opened at, by whether its next row is read
abbrev pub points_of : Bool → ℕ
points_of next = if next then 2 else 1

-- Main and preprocessed columns at their points, the chunks' columns at one, and under hiding those of a random codeword.
abbrev pub batched_openings : ℕ → Bool → ℕ → Bool → ℕ → ℕ → OpeningShape → ℕ
batched_openings main_width main_next preprocessed_width preprocessed_next chunks dimension shape =
    (points_of main_next * (main_width + random_columns shape) + points_of preprocessed_next * preprocessed_width + chunks * (dimension + random_columns shape)
    + (if hides shape then dimension + random_columns shape else 0)) * powers_of shape

-- How many openings are batched of an AIR that declares these columns of next rows.
abbrev pub batched_of : AirLayout → List ℕ → List ℕ → ℕ → ℕ → OpeningShape → ℕ
batched_of layout main_next preprocessed_next chunks dimension shape =
    batched_openings layout.main_width (opens_next_row main_next) layout.preprocessed_width (opens_next_row preprocessed_next) chunks dimension shape
