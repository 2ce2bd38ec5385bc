-- What a scheme's calls promise.
use Rattle.std.specs.Prelude.{◌≡◌, ℕ, ◌/◌, ◌^◌, Bool, List, [], ◌∷◌, map, length, IfOk, Option, Some, Result, slice_get}
use Rattle.std.specs.List.{AllByRecursion}
use Rattle.std.specs.declared.vec.Vec.{Vec}
use Rattle.std.specs.Borrow.{Bor}
use Rattle.stark_support.specs.Ring.{RingOps}
use Rattle.stark_support.specs.FieldPair.{FieldsOps}
use Rattle.stark_support.specs.Claims.{claims_view, opened_view, rounds_view}
use Rattle.stark_support.specs.Coset.{TwoAdicCoset}
use Rattle.stark_support.specs.Scheme.{AreQuotientChunks, CommittedMatrix, HasRows, OpenedRound, QuotientChunk, RoundStands, SchemeOps, TakesRows, committed_chunk, handed, matrix_row, natural_coset, true_claim, true_values}
use Rattle.stark_support.specs.PeriodicTable.{HasPeriodicValues}
use Rattle.stark_support.specs.declared.periodic.PeriodicColumns.{PeriodicColumns}
use Rattle.stark_support.specs.declared.periodic_table.PeriodicLdeTable.{PeriodicLdeTable}
use Rattle.stark_support.specs.declared.matrix.RowMajorMatrix.{RowMajorMatrix}

-- What an opening argument is about. S is the scheme, C the challenger, K the commitment, T the prover's data, P the opening
-- proof, X the verifier's error and Y the prover's.
pub record OpeningOps (S F E C K T P X Y : Type 0) : Type 1 where
  pub fields : FieldsOps F E
  pub is_zk : Bool
  pub scheme : SchemeOps S F E C K T P X Y

module _ {S F E C K T P X Y : Type 0} (scheme : SchemeOps S F E C K T P X Y) where
  -- The commitment stands for columns on the domain that take the matrix's rows on the natural domain of its height.
  abbrev pub CommitsRows : RingOps F → (ℕ → F) → S → TwoAdicCoset F → RowMajorMatrix F → K × T → Type 0
  CommitsRows field root s domain matrix made = (columns : List (List F)) × scheme.Stands s made.0 made.1 (record { domain = domain; columns = columns } ∷ [])
      × ((log_height : ℕ) → 2 ^ log_height ≡ length matrix.values.items / matrix.width
      → TakesRows field root (natural_coset field log_height) matrix.width (matrix_row matrix.values.items matrix.width) columns)

  -- The commitment stands for so many columns on the domain.
  abbrev pub CommitsColumns : S → TwoAdicCoset F → ℕ → K × T → Type 0
  CommitsColumns s domain count made =
      (columns : List (List F)) × scheme.Stands s made.0 made.1 (record { domain = domain; columns = columns } ∷ []) × (length columns ≡ count)

  -- Whatever the prover's data stand for, these are the values of the matrix at that place on a domain, a row a point.
  abbrev pub EvaluatesRows : RingOps F → (ℕ → F) → S → T → ℕ → TwoAdicCoset F → RowMajorMatrix F → Type 0
  EvaluatesRows field root s prover_data index domain rows = (commitment : K) (matrices : List (CommittedMatrix F)) (matrix : CommittedMatrix F)
      → scheme.Stands s commitment prover_data matrices → slice_get matrices index ≡ Some matrix → HasRows field root domain matrix.columns rows.values.items rows.width

  -- Of rounds that stand the true values are opened.
  abbrev pub OpensTrueValues : {A B G A₂ B₂ C₂ G₂ Q : Type 0} → RingOps E → (F → E) → S → Vec (Bor T × Vec (Vec E A) B) G
      → Vec (Vec (Vec (Vec E A₂) B₂) C₂) G₂ × Q → Type 0
  OpensTrueValues extension embed s rounds opened = (made : List (OpenedRound F E K T)) → AllByRecursion (RoundStands scheme s) made
      → rounds_view rounds ≡ map handed made → opened_view opened.0 ≡ map (true_values extension embed) made

  -- A complete scheme accepts the true claims by this proof, that of what was opened.
  abbrev pub ProvesTrueClaims : {A B G Q : Type 0} → RingOps E → (F → E) → S → Vec (Bor T × Vec (Vec E A) B) G → C → Option ℕ → Q × P → Type 0
  ProvesTrueClaims extension embed s rounds state index opened = (made : List (OpenedRound F E K T)) → AllByRecursion (RoundStands scheme s) made
      → rounds_view rounds ≡ map handed made → scheme.IsComplete s → scheme.Accepts s (map (true_claim extension embed) made) opened.1 state index

  -- The scheme accepts the claims, whose domains are seen as cosets.
  abbrev pub AcceptsClaims : {D A B G : Type 0} → (D → TwoAdicCoset F) → S → Vec (Bor K × Vec (D × Vec (E × Bor (List E)) A) B) G → P → C → Option ℕ → Type 0
  AcceptsClaims coset_of s claims proof state index = scheme.Accepts s (claims_view coset_of claims) proof state index

-- Where something was made of a matrix, it stands for columns that take its rows.
abbrev pub RowsStand : {S F E C K T P X Y Z : Type 0} → OpeningOps S F E C K T P X Y → S → TwoAdicCoset F → RowMajorMatrix F → Result (K × T) Z → Type 0
RowsStand ops s coset matrix result = IfOk result (CommitsRows ops.scheme ops.fields.base ops.fields.root s coset matrix)

-- The commitment stands for the chunks of a quotient with these values on the coset.
abbrev pub CommitsChunks : {S F E C K T P X Y : Type 0} → OpeningOps S F E C K T P X Y → S → TwoAdicCoset F → RowMajorMatrix F → ℕ → K × T → Type 0
CommitsChunks {F = F} ops s coset flat num_chunks made = (chunks : List (QuotientChunk F))
    × ops.scheme.Stands s made.0 made.1 (map (committed_chunk ops.fields.base ops.is_zk) chunks)
    × ((log_parts : ℕ) → 2 ^ log_parts ≡ num_chunks
    → AreQuotientChunks ops.fields.base ops.fields.root ops.fields.ring ops.fields.inverse ops.fields.embed ops.is_zk coset log_parts flat.width
    (matrix_row flat.values.items flat.width) chunks)

-- A table has the columns' values at each point of a domain, beside a trace on another.
abbrev pub IsTableOver : {F D : Type 0} → RingOps F → (F → F) → (ℕ → F) → (D → TwoAdicCoset F) → D → D → PeriodicColumns F → PeriodicLdeTable F → Type 0
IsTableOver ring inverse root coset_of trace domain columns table =
    HasPeriodicValues ring inverse root (coset_of trace) (coset_of domain) (map (λ column. column.items) columns.columns.now) table.values.items table.width table.period

abbrev pub IsTableOf : {F E D : Type 0} → FieldsOps F E → (D → TwoAdicCoset F) → D → D → PeriodicColumns F → PeriodicLdeTable F → Type 0
IsTableOf fields coset_of trace domain columns table = IsTableOver fields.base fields.base_inverse fields.root coset_of trace domain columns table
