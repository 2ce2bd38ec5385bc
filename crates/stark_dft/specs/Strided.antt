-- Every so manieth value of a sequence, and the columns of a matrix that stands row after row.
use Rattle.std.specs.Prelude.{◌≡◌, ℕ, zero, suc, ◌+◌, ◌*◌, ◌<◌, List, [], ◌∷◌, length, Some}
use Rattle.std.specs.List.{slice_get}
use Rattle.stark_support.specs.Ring.{RingOps}
use Rattle.stark_support.specs.Coset.{TwoAdicCoset, coset_point, coset_size}
use Rattle.stark_support.specs.Polynomial.{value}
use Rattle.stark_dft.specs.Passes.{entry}

-- f at first, first + step, .., n of them
abbrev pub strided : {A : Type 0} → (ℕ → A) → ℕ → ℕ → ℕ → List A
strided f first step zero = []
strided f first step (suc n) = f first ∷ strided f (first + step) step n

-- column c of a matrix of `height` rows of `width` values
abbrev pub column_of : {K : Type 0} → RingOps K → ℕ → ℕ → List K → ℕ → List K
column_of ring width height rows c = strided (entry ring rows) c width height

-- Row i holds, for each column of coefficients, the polynomial's value at point i of the coset.
pub record AreRowsOn {K : Type 0} (ring : RingOps K) (root : ℕ → K) (coset : TwoAdicCoset K) (width : ℕ) (coefficients values : List K) : Type 0 where
  pub number : length values ≡ width * coset_size coset
  pub value_at : (i c : ℕ) → i < coset_size coset → c < width
      → slice_get values (i * width + c) ≡ Some (value ring (column_of ring width (coset_size coset) coefficients c) (coset_point ring root coset i))
