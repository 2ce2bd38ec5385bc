-- The words that a prover of the FRI scheme is bound to by its roots, and the claims of their columns.
use Rattle.std.specs.Prelude.{◌≡◌, ℕ, suc, ◌+◌, ◌-◌, ◌^◌, ◌%◌, ◌<◌, ⊤, List, [], ◌∷◌, ◌++◌, length, slice_index_or}
use Rattle.stark_support.specs.Coset.{TwoAdicCoset}
use Rattle.stark_merkle.specs.Tree.{LeadsTo, TreeDigests}
use Rattle.stark_merkle.specs.declared.root.Root.{Root}
use Rattle.stark_folding.specs.Fold.{squared_coset}
use Rattle.stark_folding.specs.Walk.{half_size}
use Rattle.stark_fri_soundness.specs.Claims.{Claim, ColumnIndex}
use Rattle.stark_fri_proof.specs.Parts.{InputOpening}
use Rattle.stark_fri_proof.specs.Paths.{digests_of}
use Rattle.stark_fri.specs.Claims.{MatrixRead, RoundRead}
use Rattle.stark_fri.specs.Parts.{FriFields}
use Rattle.stark_fri.specs.Query.{extension_coset}

-- For each round and place the rows of the round's matrices, and for each fold the word that is folded.
pub record Words (F E : Type 0) : Type 0 where
  pub rows : ℕ → ℕ → List (List F)
  pub folds : List (ℕ → E)

-- ---- claims of columns

-- What is claimed of a matrix's columns at a point, from one of them on; of a matrix at all points; of a round's matrices; and of all rounds.
module _ {E : Type 0} where
  unfoldable pub value_claims : (round matrix number : ℕ) → E → List E → List (Claim ColumnIndex E)
  value_claims round matrix number z [] = []
  value_claims round matrix number z (v ∷ values) =
      record { column = record { round = round; matrix = matrix; number = number }; at = z; claimed = v } ∷ value_claims round matrix (suc number) z values

  unfoldable pub point_claims : (round matrix : ℕ) → List (E × List E) → List (Claim ColumnIndex E)
  point_claims round matrix [] = []
  point_claims round matrix (p ∷ points) = value_claims round matrix 0 p.0 p.1 ++ point_claims round matrix points

  unfoldable pub matrix_claims : (round matrix : ℕ) → List (MatrixRead E) → List (Claim ColumnIndex E)
  matrix_claims round matrix [] = []
  matrix_claims round matrix (m ∷ matrices) = point_claims round matrix m.1 ++ matrix_claims round (suc matrix) matrices

  unfoldable pub round_claims : ℕ → List (RoundRead E) → List (Claim ColumnIndex E)
  round_claims round [] = []
  round_claims round (read ∷ rounds) = matrix_claims round 0 read.1 ++ round_claims (suc round) rounds

  abbrev pub claims_of : List (RoundRead E) → List (Claim ColumnIndex E)
  claims_of rounds = round_claims 0 rounds

module _ {F E : Type 0} (fields : FriFields F E) (words : Words F E) where
  -- A column's word, which is zero where there is no such column; and the same in the extension.
  abbrev pub column_word : ColumnIndex → ℕ → F
  column_word column i = slice_index_or (slice_index_or (words.rows column.round i) column.matrix []) column.number fields.base.zero

  abbrev pub embedded_column : ColumnIndex → ℕ → E
  embedded_column column i = fields.embed (column_word column i)

  -- Round by round the opened rows are the words'.
  unfoldable pub RowsAreOpened : ℕ → ℕ → List (InputOpening F) → Type 0
  RowsAreOpened round place [] = ⊤
  RowsAreOpened round place (input ∷ inputs) = (input.rows ≡ words.rows round place) × RowsAreOpened (suc round) place inputs

-- ---- roots

module _ {F E : Type 0} (fields : FriFields F E) (hash : TreeDigests) (words : Words F E) where
  -- Some path leads from the round's rows at a place, which have fewer than 2^64 bytes, to a root.
  pub record RowsAreBound (bits round place : ℕ) (root : Root) : Type 0 where
    pub path : List Root
    pub short : length (fields.row_bytes (words.rows round place)) < 2 ^ 64
    pub leads : LeadsTo hash root.bytes bits place (fields.row_bytes (words.rows round place)) (digests_of path)

  -- From one round on, each round's rows are bound by its root.
  unfoldable pub RoundsAreBound : ℕ → ℕ → ℕ → List (RoundRead E) → Type 0
  RoundsAreBound bits round place [] = ⊤
  RoundsAreBound bits round place (read ∷ rounds) = RowsAreBound bits round place read.0 × RoundsAreBound bits (suc round) place rounds

module _ {F E : Type 0} (fields : FriFields F E) (hash : TreeDigests) where
  -- Some path leads from a word's pair at a place to a root.
  pub record PairIsBound (depth half place : ℕ) (tree : List ℕ) (word : ℕ → E) : Type 0 where
    pub path : List Root
    pub leads : LeadsTo hash tree depth place (fields.pair_bytes (word place) (word (place + half))) (digests_of path)

  -- On the way from a place each fold's word is bound by its root.
  unfoldable pub FoldsAreBound : TwoAdicCoset E → ℕ → List (List ℕ) → List (ℕ → E) → Type 0
  FoldsAreBound c i [] folds = ⊤
  FoldsAreBound c i (tree ∷ trees) [] = ⊤
  FoldsAreBound c i (tree ∷ trees) (word ∷ folds) =
      PairIsBound (c.log_size - 1) (half_size c) (i % half_size c) tree word × FoldsAreBound (squared_coset fields.ring c) (i % half_size c) trees folds

  -- The words lead to the roots at a query's place, and on its way.
  pub record AreBoundAt (bits : ℕ) (rounds : List (RoundRead E)) (trees : List (List ℕ)) (words : Words F E) (place : ℕ) : Type 0 where
    pub rows : RoundsAreBound fields hash words bits 0 place rounds
    pub folds : FoldsAreBound (extension_coset fields bits) place trees words.folds
