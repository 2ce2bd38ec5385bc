-- The lists that columns are, and columns that take given values at the points of a coset.
use Rattle.std.specs.Prelude.{◌≡◌, ℕ, ◌+◌, ◌*◌, ◌<◌, List, length, Some, [], get_or}
use Rattle.std.specs.List.{slice_get}
use Rattle.std.specs.declared.vec.Vec.{Vec}
use Rattle.stark_support.specs.Ring.{RingOps}
use Rattle.stark_support.specs.Coset.{TwoAdicCoset, coset_point, coset_size}
use Rattle.stark_support.specs.Polynomial.{HasDegreeBelow, value}
use Rattle.stark_dft.specs.Passes.{entry}
use Rattle.stark_dft.specs.Strided.{strided}

abbrev pub column_list : {F A : Type 0} → Vec F A → List F
column_list column = column.items

-- The function of a polynomial of at most n coefficients.
pub record IsPolynomialBelow {K : Type 0} (ring : RingOps K) (n : ℕ) (f : K → K) : Type 0 where
  pub coefficients : List K
  pub bounded : HasDegreeBelow n coefficients
  pub same : (x : K) → f x ≡ value ring coefficients x

-- `width` columns of `size` coefficients, of which column c takes at point r the value first + c + r * step, and
-- everywhere the value of a polynomial of as many coefficients as the coset has points.
pub record AreColumns {K : Type 0} (ring : RingOps K) (root : ℕ → K) (coset : TwoAdicCoset K) (values : List K) (first step width size : ℕ) (columns : List (List K)) : Type 0 where
  pub count : length columns ≡ width
  pub column : (c : ℕ) (p : List K) → slice_get columns c ≡ Some p → length p ≡ size
  pub takes : (c r : ℕ) (p : List K) → slice_get columns c ≡ Some p → r < coset_size coset → slice_get values (first + c + r * step) ≡ Some (value ring p (coset_point ring root coset r))
  pub plain : (c : ℕ) (p : List K) → slice_get columns c ≡ Some p → IsPolynomialBelow ring (coset_size coset) (value ring p)

-- The first `count` values of a matrix that lies in a list, row after row: row r's are first + r * step, and the next ones.
pub record ArePicked {K : Type 0} (values : List K) (first step width count : ℕ) (rows : List K) : Type 0 where
  pub number : length rows ≡ count
  pub each : (r c : ℕ) → c < width → r * width + c < count → slice_get rows (r * width + c) ≡ slice_get values (first + c + r * step)

-- The columns of rows of coefficients, with zeros behind up to `size`.
pub record AreSplit {K : Type 0} (ring : RingOps K) (rows : List K) (width height size count : ℕ) (columns : List (List K)) : Type 0 where
  pub number : length columns ≡ count
  pub column : (c : ℕ) (p : List K) → slice_get columns c ≡ Some p → length p ≡ size
  pub same : (c : ℕ) (p : List K) → slice_get columns c ≡ Some p → (x : K) → value ring p x ≡ value ring (strided (entry ring rows) c width height) x

-- The first `height` entries of so many columns stand row after row; behind a column's end stands zero.
abbrev pub AreInRows : {K : Type 0} → RingOps K → List (List K) → ℕ → ℕ → List K → Type 0
AreInRows ring columns width height rows = (t c : ℕ) → t < height → c < width → entry ring rows (t * width + c) ≡ entry ring (get_or columns c []) t
