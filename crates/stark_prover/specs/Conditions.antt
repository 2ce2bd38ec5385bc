-- What a prover asks for beside a height.
use Rattle.std.specs.Prelude.{◌≡◌, ◌<◌, List, Option, is_some, length, ltb}
use Rattle.std.specs.Borrow.{Bor}
use Rattle.std.specs.Option.{option_copied}
use Rattle.stark_support.specs.Ring.{RingOps}
use Rattle.stark_support.specs.Scheme.{SchemeOps}
use Rattle.stark_support.specs.declared.matrix.RowMajorMatrix.{RowMajorMatrix}
use Rattle.stark_air.specs.Layout.{Layout}
use Rattle.stark_protocol.specs.declared.preprocessed.PreprocessedProverData.{PreprocessedProverData}
use Rattle.stark_prover.specs.Heights.{HoldsColumns}

-- A trace has the columns that the AIR declares, at least one, and there are as many public values as it has.
-- The data of preprocessed columns are there exactly where the AIR has some, and stand for their number.
pub record FitsAir {S F E C K T P X Y : Type 0} (scheme : SchemeOps S F E C K T P X Y) (s : S) (base : RingOps F) (layout : Layout) (preprocessed_data : Option (Bor (PreprocessedProverData K T))) (trace : RowMajorMatrix F) (values : List F) : Type 0 where
  pub columns : 0 < trace.width
  pub width : trace.width ≡ layout.main
  pub public_values : length values ≡ layout.public_values
  pub there : is_some preprocessed_data ≡ ltb 0 layout.preprocessed
  pub stands : HoldsColumns scheme s base (option_copied preprocessed_data) layout.preprocessed
