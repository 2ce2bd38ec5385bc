-- What a commitment scheme's calls answer, and what they keep.
use Rattle.std.specs.Prelude.{◌≡◌, ℕ, ◌+◌, ◌-◌, ◌*◌, ◌^◌, ◌<◌, ◌≤◌, Bool, true, false, List, [], ◌∷◌, map, length, All, Option, Some, slice_get, slice_index_or, slice_range}
use Rattle.stark_support.specs.Ring.{RingOps}
use Rattle.stark_support.specs.Coset.{TwoAdicCoset, coset_size, coset_point, coset_part, coset_vanishing}
use Rattle.stark_support.specs.Recomposition.{weighted_sum}
use Rattle.stark_support.specs.Polynomial.{value_over, HasDegreeBelow, IsZeroPolynomial}
use Rattle.stark_support.specs.Claims.{RoundClaim, RoundPoints}

-- ---- what is committed

-- The subgroup of 2 ^ log_size points, as a coset: the natural domain of that size.
abbrev pub natural_coset : {F : Type 0} → RingOps F → ℕ → TwoAdicCoset F
natural_coset field log_size = record { shift = field.one; log_size = log_size }

-- What one matrix of a commitment stands for: its domain, and a polynomial for each column.
pub record CommittedMatrix (F : Type 0) : Type 0 where
  pub domain : TwoAdicCoset F
  pub columns : List (List F)

-- The degree of each column is below the domain's size.
abbrev pub HasDegreesBelowSize : {F : Type 0} → CommittedMatrix F → Type 0
HasDegreesBelowSize matrix = All (HasDegreeBelow (coset_size matrix.domain)) matrix.columns

-- Row r of a matrix that is given row after row.
abbrev pub matrix_row : {F : Type 0} → List F → ℕ → ℕ → List F
matrix_row values width r = slice_range values (r * width) (r * width + width)

-- The values of columns at a point of an extension.
abbrev pub row_at : {F E : Type 0} → RingOps E → (F → E) → List (List F) → E → List E
row_at ring embed columns x = map (λ p. value_over ring embed p x) columns

-- There are `width` columns, and their values at point r of the coset are row r.
pub record TakesRows {F : Type 0} (field : RingOps F) (root : ℕ → F) (coset : TwoAdicCoset F) (width : ℕ) (row : ℕ → List F) (columns : List (List F)) : Type 0 where
  pub count : length columns ≡ width
  pub rows : (r : ℕ) → r < coset_size coset → row r ≡ row_at field (λ c. c) columns (coset_point field root coset r)

-- Values given row after row are those of columns at the coset's points, a row a point.
pub record HasRows {F : Type 0} (field : RingOps F) (root : ℕ → F) (coset : TwoAdicCoset F) (columns : List (List F)) (values : List F) (width : ℕ) : Type 0 where
  pub takes : TakesRows field root coset width (matrix_row values width) columns
  pub number : length values ≡ coset_size coset * width

-- ---- a quotient in chunks

-- is_zk as a number, which a committed domain's logarithm is greater by
abbrev pub zk_bits : Bool → ℕ
zk_bits true = 1
zk_bits false = 0

-- A column of a chunk: what takes its part of the rows, the mask, and what is committed.
pub record MaskedColumn (F : Type 0) : Type 0 where
  pub plain : List F
  pub mask : List F
  pub column : List F

-- The column is the plain polynomial plus the mask times the part's vanishing polynomial, both of degree below the part's
-- size. Where nothing is masked, the mask is zero.
pub record IsMasked {F E : Type 0} (field : RingOps F) (extension : RingOps E) (inverse : E → E) (embed : F → E) (is_zk : Bool) (part : TwoAdicCoset F) (masked : MaskedColumn F) : Type 0 where
  pub plain_degree : HasDegreeBelow (coset_size part) masked.plain
  pub mask_degree : HasDegreeBelow (coset_size part) masked.mask
  pub unmasked : is_zk ≡ false → IsZeroPolynomial field masked.mask
  pub sum : (x : E) → value_over extension embed masked.column x
      ≡ extension.add (value_over extension embed masked.plain x) (extension.mul (value_over extension embed masked.mask x) (coset_vanishing extension (λ c. c) inverse (coset_size part) (embed part.shift) x))

-- A chunk: the part of the quotient's domain whose rows it takes, and its columns.
pub record QuotientChunk (F : Type 0) : Type 0 where
  pub part : TwoAdicCoset F
  pub columns : List (MaskedColumn F)

-- Chunk i of 2 ^ log_parts takes the rows i, i + 2 ^ log_parts, ..
pub record IsChunk {F E : Type 0} (field : RingOps F) (root : ℕ → F) (extension : RingOps E) (inverse : E → E) (embed : F → E) (is_zk : Bool) (coset : TwoAdicCoset F) (log_parts : ℕ)
    (width : ℕ) (row : ℕ → List F) (i : ℕ) (chunk : QuotientChunk F) : Type 0 where
  pub part : chunk.part ≡ coset_part field root coset log_parts i
  pub masked : All (IsMasked field extension inverse embed is_zk chunk.part) chunk.columns
  pub takes : TakesRows field root chunk.part width (λ r. row (i + r * 2 ^ log_parts)) (map (λ m. m.plain) chunk.columns)

-- What is committed of a chunk, on the natural domain of its part's size times 2 ^ is_zk.
abbrev pub committed_chunk : {F : Type 0} → RingOps F → Bool → QuotientChunk F → CommittedMatrix F
committed_chunk field is_zk chunk = record { domain = natural_coset field (chunk.part.log_size + zk_bits is_zk); columns = map (λ m. m.column) chunk.columns }

-- The chunks of a quotient's rows on a coset. Over the parts' weights the masks of each column cancel: the sum of mask i
-- over the product, over the other parts, of Z_j(first point of part i) is zero.
pub record AreQuotientChunks {F E : Type 0} (field : RingOps F) (root : ℕ → F) (extension : RingOps E) (inverse : E → E) (embed : F → E) (is_zk : Bool) (coset : TwoAdicCoset F) (log_parts : ℕ)
    (width : ℕ) (row : ℕ → List F) (chunks : List (QuotientChunk F)) : Type 0 where
  pub number : length chunks ≡ 2 ^ log_parts
  pub chunk : (i : ℕ) (q : QuotientChunk F) → slice_get chunks i ≡ Some q → IsChunk field root extension inverse embed is_zk coset log_parts width row i q
  pub cancels : (c : ℕ) (x : E) → c < width
      → weighted_sum extension inverse (2 ^ (coset.log_size - log_parts)) (map (λ q. embed q.part.shift) chunks)
      (map (λ q. value_over extension embed (slice_index_or (map (λ m. m.mask) q.columns) c []) x) chunks) ≡ extension.zero

-- ---- what is opened

-- A commitment that is opened, the prover's data of it, what they stand for, and for each matrix the points.
pub record OpenedRound (F E K T : Type 0) : Type 0 where
  pub commitment : K
  pub prover_data : T
  pub matrices : List (CommittedMatrix F)
  pub points : List (List E)

-- For each matrix and each of its points the columns' values there.
abbrev pub true_matrix : {F E : Type 0} → RingOps E → (F → E) → CommittedMatrix F → List E → List (List E)
true_matrix extension embed matrix points = map (row_at extension embed matrix.columns) points

abbrev pub true_matrices : {F E : Type 0} → RingOps E → (F → E) → List (CommittedMatrix F) → List (List E) → List (List (List E))
true_matrices extension embed [] points = []
true_matrices extension embed (m ∷ matrices) [] = []
true_matrices extension embed (m ∷ matrices) (xs ∷ points) = true_matrix extension embed m xs ∷ true_matrices extension embed matrices points

abbrev pub true_values : {F E K T : Type 0} → RingOps E → (F → E) → OpenedRound F E K T → List (List (List E))
true_values extension embed round = true_matrices extension embed round.matrices round.points

-- The claim of these values.
abbrev pub true_matrix_claims : {F E : Type 0} → RingOps E → (F → E) → List (CommittedMatrix F) → List (List E) → List (TwoAdicCoset F × List (E × List E))
true_matrix_claims extension embed [] points = []
true_matrix_claims extension embed (m ∷ matrices) [] = []
true_matrix_claims extension embed (m ∷ matrices) (xs ∷ points) = (m.domain, map (λ x. (x, row_at extension embed m.columns x)) xs) ∷ true_matrix_claims extension embed matrices points

abbrev pub true_claim : {F E K T : Type 0} → RingOps E → (F → E) → OpenedRound F E K T → RoundClaim F E K
true_claim extension embed round = (round.commitment, true_matrix_claims extension embed round.matrices round.points)

-- What the call is handed of it.
abbrev pub handed : {F E K T : Type 0} → OpenedRound F E K T → RoundPoints E T
handed round = (round.prover_data, round.points)

-- ---- the scheme

-- By which call a commitment was made: it is one, with the prover's data, that the call answers of this domain, these values and
-- their width. A scheme may commit otherwise to a trace than to what is known, and by no other call to its own choice.
pub record CommittingCalls (S F K T : Type 0) : Type 1 where
  pub Commits : S → TwoAdicCoset F → List F → ℕ → K × T → Type 0
  pub CommitsPreprocessing : S → TwoAdicCoset F → List F → ℕ → K × T → Type 0
  -- the last number is that of the chunks
  pub CommitsQuotient : S → TwoAdicCoset F → List F → ℕ → ℕ → K × T → Type 0
  pub Randomizes : S → TwoAdicCoset F → K × T → Type 0

-- S is the scheme, F the base field, E the extension, C the challenger, K the commitment, T the prover's data, P the opening
-- proof, X the verifier's error and Y the prover's. Domains are seen as cosets, a matrix as its values and its width.
pub record SchemeOps (S F E C K T P X Y : Type 0) : Type 1 where
  pub log_min_trace_height : S → ℕ
  pub log_max_trace_height : S → ℕ
  -- Verifying refuses no true opening. Of the prover's own refusals this says nothing.
  pub IsComplete : S → Type 0
  -- The commitment, with the prover's data, stands for these matrices.
  pub Stands : S → K → T → List (CommittedMatrix F) → Type 0
  -- This call made the commitment.
  pub calls : CommittingCalls S F K T
  -- The claims hold, by this proof, from this state; the number is the place of the preprocessed round.
  pub Accepts : S → List (RoundClaim F E K) → P → C → Option ℕ → Type 0
  -- This error may be answered of them.
  pub Refuses : S → List (RoundClaim F E K) → P → C → Option ℕ → X → Type 0
  -- The errors that committing and opening may answer.
  pub RefusesCommit : S → TwoAdicCoset F → List F → ℕ → Y → Type 0
  pub RefusesPreprocessing : S → TwoAdicCoset F → List F → ℕ → Y → Type 0
  pub RefusesQuotient : S → TwoAdicCoset F → List F → ℕ → ℕ → Y → Type 0
  pub RefusesRandomization : S → TwoAdicCoset F → Y → Type 0
  pub RefusesOpening : S → List (RoundPoints E T) → C → Option ℕ → Y → Type 0

-- The round stands for its matrices, and each of them has its points.
pub record RoundStands {S F E C K T P X Y : Type 0} (scheme : SchemeOps S F E C K T P X Y) (s : S) (round : OpenedRound F E K T) : Type 0 where
  pub stands : scheme.Stands s round.commitment round.prover_data round.matrices
  pub number : length round.points ≡ length round.matrices

-- No claims are both accepted and refused; what a commitment stands for has degrees below its domains' sizes; heights fit a
-- machine's count of bits.
pub record SchemeLaws {S F E C K T P X Y : Type 0} (scheme : SchemeOps S F E C K T P X Y) : Type 0 where
  pub excludes : (s : S) (claims : List (RoundClaim F E K)) (proof : P) (state : C) (index : Option ℕ) (error : X)
      → scheme.Accepts s claims proof state index → scheme.Refuses s claims proof state index error → ⊥
  pub degrees : (s : S) (commitment : K) (prover_data : T) (matrices : List (CommittedMatrix F)) → scheme.Stands s commitment prover_data matrices → All HasDegreesBelowSize matrices
  pub least_height : (s : S) → scheme.log_min_trace_height s ≤ 63
  pub greatest_height : (s : S) → scheme.log_max_trace_height s ≤ 63
