-- How the quotients of what is opened are added up.
use Rattle.std.specs.Prelude.{◌≡◌, ℕ, zero, suc, ◌≤◌, List, [], ◌∷◌, get_or, length, map}
use Rattle.std.specs.Borrow.{Bor}
use Rattle.std.specs.List.{AllByRecursion, flat_map, range_with_len, zip}
use Rattle.std.specs.declared.vec.Vec.{Vec}
use Rattle.stark_columns.specs.Columns.{column_list, columns_list}
use Rattle.stark_support.specs.Claims.{RoundPoints, round_view}
use Rattle.stark_support.specs.Extension.{basis_sum}
use Rattle.stark_support.specs.Polynomial.{IsZeroPolynomial, quotient_by_root, value}
use Rattle.stark_support.specs.Powers.{power}
use Rattle.stark_support.specs.Ring.{RingOps}
use Rattle.stark_folding.specs.Reduce.{Opened, reduced}
use Rattle.stark_fri.specs.Parts.{FriDataView}
use Rattle.stark_fri_prover.specs.Batching.{IsBatch, opened_in_matrix}

-- No column has more coefficients than this: of a matrix, of matrices, and of rounds.
abbrev pub ColumnsFit : {F : Type 0} → ℕ → List (List F) → Type 0
ColumnsFit size columns = AllByRecursion (λ column. length column ≤ size) columns

abbrev pub MatricesFit : {F : Type 0} → ℕ → List (List (List F)) → Type 0
MatricesFit size matrices = AllByRecursion (ColumnsFit size) matrices

abbrev pub RoundsFit : {F E : Type 0} → ℕ → List (RoundPoints E (FriDataView F)) → Type 0
RoundsFit size rounds = AllByRecursion (λ round. MatricesFit size round.0.matrices) rounds

-- So many zeros.
abbrev pub AreZeros : {E : Type 0} → RingOps E → ℕ → List E → Type 0
AreZeros ring count list = (length list ≡ count) × IsZeroPolynomial ring list

-- The columns' coefficients at a place, zero after a column's last one.
abbrev pub coefficients_at : {F : Type 0} → F → ℕ → List (List F) → List F
coefficients_at nothing place columns = map (λ column. get_or column place nothing) columns

-- Their sum, each times its weight.
abbrev pub weighted_at : {F : Type 0} → RingOps F → List (List F) → ℕ → List F → F
weighted_at base columns place weights = basis_sum base (λ c. c) weights (coefficients_at base.zero place columns)

-- A weight, and a number of products of it and the next power of alpha.
unfoldable pub weights_from : {E : Type 0} → RingOps E → E → E → ℕ → List E
weights_from ring alpha first zero = []
weights_from ring alpha first (suc n) = first ∷ weights_from ring alpha (ring.mul first alpha) n

-- The sum of the columns, each times its weight, in a number of coefficients.
abbrev pub combined_at : {F E : Type 0} → RingOps E → (F → E) → F → List E → List (List F) → ℕ → E
combined_at ring embed nothing weights columns place = basis_sum ring (λ c. c) weights (map embed (coefficients_at nothing place columns))

abbrev pub combination : {F E : Type 0} → RingOps E → (F → E) → F → List E → List (List F) → ℕ → List E
combination ring embed nothing weights columns size = map (combined_at ring embed nothing weights columns) (range_with_len 0 size)

-- The quotients of all that is opened are added to a polynomial, each times the next power of alpha, from a factor on; the next
-- factor is the one after them.
pub record AddsOpened {E : Type 0} (ring : RingOps E) (alpha : E) (opened : List (Opened E)) (before after : List E) (first next : E) : Type 0 where
  pub number : length after ≡ length before
  pub values : (x : E) → value ring after x ≡ ring.add (value ring before x) (ring.mul first (value ring (reduced ring alpha opened) x))
  pub factor : next ≡ ring.mul first (power ring alpha (length opened))

-- The columns are added, where they fit.
abbrev pub AddsColumns : {F E : Type 0} → RingOps E → E → List (List F) → List (Opened E) → List E → List E → E → E → Type 0
AddsColumns ring alpha columns opened before after first next = ColumnsFit (length before) columns → AddsOpened ring alpha opened before after first next

abbrev pub AddsMatrices : {F E : Type 0} → RingOps E → E → List (List (List F)) → List (Opened E) → List E → List E → E → E → Type 0
AddsMatrices ring alpha matrices opened before after first next = MatricesFit (length before) matrices → AddsOpened ring alpha opened before after first next

-- The quotient of another polynomial by X - point is added.
pub record AddsQuotient {E : Type 0} (ring : RingOps E) (point : E) (polynomial before after : List E) : Type 0 where
  pub number : length after ≡ length before
  pub values : (x : E) → value ring after x ≡ ring.add (value ring before x) (value ring (quotient_by_root ring point polynomial) x)

-- ---- in memory

-- What one matrix's points add, and what a round's matrices do.
abbrev pub AddsPoints : {F E A : Type 0} → RingOps E → (F → E) → E → List (Vec F A) → List E → List E → List E → E → E → Type 0
AddsPoints ring embed alpha columns points before after first next =
    AddsColumns ring alpha (map column_list columns) (opened_in_matrix embed (map column_list columns, points)) before after first next

abbrev pub AddsRound : {F E A B G : Type 0} → RingOps E → (F → E) → E → List (Vec (Vec F A) B) → List (Vec E G) → List E → List E → E → E → Type 0
AddsRound ring embed alpha matrices points before after first next =
    AddsMatrices ring alpha (map columns_list matrices) (flat_map (opened_in_matrix embed) (zip (map columns_list matrices) (map column_list points))) before after first next

-- Where all columns fit, these coefficients are the batch of what is opened.
abbrev pub Batches : {F E T A B : Type 0} → RingOps E → (F → E) → E → ℕ → (T → FriDataView F) → List (Bor T × Vec (Vec E A) B) → List E → Type 0
Batches ring embed alpha size seen rounds batch =
    RoundsFit size (map (λ r. (seen r.0, r.1)) (map round_view rounds)) → IsBatch ring embed alpha size (map (λ r. (seen r.0, r.1)) (map round_view rounds)) batch
