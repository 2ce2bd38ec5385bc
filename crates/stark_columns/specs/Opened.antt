-- What is opened of columns.
use Rattle.std.specs.Prelude.{◌≡◌, ℕ, List, [], ◌∷◌, Some, map}
use Rattle.std.specs.List.{slice_get}
use Rattle.stark_support.specs.Ring.{RingOps}
use Rattle.stark_support.specs.Claims.{RoundPoints}
use Rattle.stark_support.specs.Coset.{TwoAdicCoset}
use Rattle.stark_support.specs.Scheme.{HasRows, row_at}
use Rattle.stark_support.specs.declared.matrix.RowMajorMatrix.{RowMajorMatrix}

-- For each matrix, by its columns, their values at each of its points.
unfoldable pub matrices_at : {F E : Type 0} → RingOps E → (F → E) → List (List (List F)) → List (List E) → List (List (List E))
matrices_at ring embed [] points = []
matrices_at ring embed (columns ∷ matrices) [] = []
matrices_at ring embed (columns ∷ matrices) (xs ∷ points) = map (row_at ring embed columns) xs ∷ matrices_at ring embed matrices points

abbrev pub opened_round : {F E : Type 0} → RingOps E → (F → E) → RoundPoints E (List (List (List F))) → List (List (List E))
opened_round ring embed round = matrices_at ring embed round.0 round.1

-- The rows are those of the matrix at the place, where there is one.
abbrev pub AreRowsOf : {F : Type 0} → RingOps F → (ℕ → F) → TwoAdicCoset F → List (List (List F)) → ℕ → RowMajorMatrix F → Type 0
AreRowsOf {F} field root coset matrices place rows = (columns : List (List F)) → slice_get matrices place ≡ Some columns → HasRows field root coset columns rows.values.items rows.width
