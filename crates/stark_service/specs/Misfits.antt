-- What is said of counts that are those of no trace.
use Rattle.std.specs.Prelude.{◌≡◌, ◌≢◌, ℕ}
use Rattle.stark_answers.specs.declared.shape.CheckShape.{CheckShape}
use Rattle.stark_service.specs.declared.misfit.TraceMisfit.{TraceMisfit}
use Rattle.stark_service.specs.declared.misfit.TraceMisfit.TheVariants.{PublicValues, NoPowerOfTwo, TooManyRows, Width, PreprocessedRows, FixedHeight}

-- The misfit has these counts, and those that it names differ.
module _ (public_values rows width : ℕ) (shape : CheckShape) (log_rows greatest : ℕ) where
  abbrev pub IsOfCounts : TraceMisfit → Type 0
  IsOfCounts (PublicValues expected got) = (got ≡ public_values) × (expected ≡ shape.num_public_values) × (got ≢ expected)
  IsOfCounts (NoPowerOfTwo n) = n ≡ rows
  IsOfCounts (TooManyRows n most) = (n ≡ rows) × (most ≡ greatest)
  IsOfCounts (Width expected got) = (got ≡ width) × (expected ≡ shape.width) × (got ≢ expected)
  IsOfCounts (PreprocessedRows n log) = (n ≡ rows) × (log ≡ log_rows)
  IsOfCounts (FixedHeight n log) = ⊥
