-- What the small AIRs mean.
use Rattle.std.specs.Prelude.{ℕ, ◌<◌, List, [], ◌∷◌}
use Rattle.std.proofs.Common.{arith}
use Rattle.stark_air.specs.Layout.{LeavesWithin}
use Rattle.stark_air.specs.Tree.{Constraint}
use Rattle.stark_samples.specs.Samples.{column_layout, is_one_on_first_row, is_zero, mixed_constraints}
use Rattle.stark_samples.specs.declared.small.Asked.{Asked}
use Rattle.stark_samples.specs.declared.small.Asked.TheVariants.{Mixed, FirstRow, Zeros, Nothing}

abbrev pub asked_constraints : {F : Type 0} → F → (ℕ → F) → Asked → List (Constraint F)
asked_constraints one of_number Mixed = mixed_constraints of_number
asked_constraints one of_number FirstRow = is_one_on_first_row one ∷ []
asked_constraints one of_number Zeros = is_zero ∷ []
asked_constraints one of_number Nothing = []

none_past_one : 0 < 1
none_past_one = omega arith

-- They read the current row of one column.
pub asked_within : {F : Type 0} (one : F) (of_number : ℕ → F) (asked : Asked) → LeavesWithin column_layout (asked_constraints one of_number asked)
asked_within one of_number Mixed = ((none_past_one, tt), ((none_past_one, tt), ((none_past_one, tt), tt)))
asked_within one of_number FirstRow = ((tt, tt), tt)
asked_within one of_number Zeros = (none_past_one, tt)
asked_within one of_number Nothing = tt
