-- Columns as they lie in memory, and the columns of committed matrices.
use Rattle.std.specs.Prelude.{◌≡◌, List, length, map}
use Rattle.std.specs.List.{AllByRecursion}
use Rattle.std.specs.declared.vec.Vec.{Vec}
use Rattle.stark_support.specs.Coset.{coset_size}
use Rattle.stark_support.specs.Scheme.{CommittedMatrix}
pub use Rattle.stark_dft.specs.Columns.{column_list}

abbrev pub columns_list : {F A B : Type 0} → Vec (Vec F A) B → List (List F)
columns_list columns = map column_list columns.items

-- Each column has as many coefficients as the domain points.
abbrev pub IsFull : {F : Type 0} → CommittedMatrix F → Type 0
IsFull matrix = AllByRecursion (λ column. length column ≡ coset_size matrix.domain) matrix.columns

abbrev pub columns_of : {F : Type 0} → List (CommittedMatrix F) → List (List (List F))
columns_of matrices = map (λ m. m.columns) matrices
