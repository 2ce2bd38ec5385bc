-- The canonical writing of a statement.
use Rattle.std.specs.Prelude.{◌≡◌, ℕ, List, [], ◌∷◌, ◌++◌, Option, None, Some}
use Rattle.sha2.specs.Sha256.{sha256}
use Rattle.stark_support.specs.Sponge.{observed_bytes}
use Rattle.stark_air.specs.Declaration.{Trace}
use Rattle.stark_tree_air.specs.TreeJson.{AirView, ColumnsView, ListView}
use Rattle.stark_tree_air.specs.declared.node.TreeNode.{TreeNode}
use Rattle.stark_tree_air.specs.declared.node.TreeNode.TheVariants.{Constant, MainCurrent, MainNext, PreprocessedCurrent, PreprocessedNext, PublicValue, PeriodicValue, FirstRow, LastRow, Transition, Sum, Difference, Product, Negation}
use Rattle.stark_tree_air.specs.declared.node.TreeConstraint.{TreeConstraint}
use Rattle.stark_tree_air.specs.declared.node.TreeConstraint.TheVariants.{Base, Extension}
use Rattle.stark_statement.specs.Configuration.{ConfigurationView, FriNumbers}
use Rattle.stark_statement.specs.StatementView.{StatementView}
use Rattle.stark_statement.specs.Words.{AreWords, word, optional, counted, labelled, framed}
use Rattle.stark_statement.specs.declared.configuration.FieldName.{FieldName}
use Rattle.stark_statement.specs.declared.configuration.FieldName.TheVariants.{BabyBear, KoalaBear, F12289}

-- ---- words of a configuration

-- the number that stands for a field
abbrev pub field_tag : FieldName → ℕ
field_tag BabyBear = 0
field_tag KoalaBear = 1
field_tag F12289 = 2

-- the five numbers
unfoldable pub fri_words : FriNumbers → List ℕ
fri_words n = word n.log_blowup ++ (word n.log_final_poly_len ++ (word n.num_queries ++ (word n.commit_bits ++ word n.query_bits)))

-- the field, and 0 in the clear or 1 and the numbers of FRI
unfoldable pub configuration_words : ConfigurationView → List ℕ
configuration_words c = word (field_tag c.field) ++ optional fri_words c.fri

-- ---- words of nodes

-- a tag and the operands
abbrev pub node_words : TreeNode → List ℕ
node_words (Constant i) = 0 ∷ i ∷ []
node_words (MainCurrent i) = 1 ∷ i ∷ []
node_words (MainNext i) = 2 ∷ i ∷ []
node_words (PreprocessedCurrent i) = 3 ∷ i ∷ []
node_words (PreprocessedNext i) = 4 ∷ i ∷ []
node_words (PublicValue i) = 5 ∷ i ∷ []
node_words (PeriodicValue i) = 6 ∷ i ∷ []
node_words FirstRow = 7 ∷ []
node_words LastRow = 8 ∷ []
node_words Transition = 9 ∷ []
node_words (Sum i j) = 10 ∷ i ∷ j ∷ []
node_words (Difference i j) = 11 ∷ i ∷ j ∷ []
node_words (Product i j) = 12 ∷ i ∷ j ∷ []
node_words (Negation i) = 13 ∷ i ∷ []

-- a tag and the place
abbrev pub constraint_words : TreeConstraint → List ℕ
constraint_words (Base i) = 0 ∷ i ∷ []
constraint_words (Extension i) = 1 ∷ i ∷ []

-- ---- words of a statement

-- the height that is fixed; nothing where none is
abbrev pub height_words : Option ℕ → List ℕ
height_words None = []
height_words (Some n) = word n

module _ {F : Type 0} (number_of : F → ℕ) where
  abbrev pub element_words : F → List ℕ
  element_words x = word (number_of x)

  abbrev pub elements_words : List F → List ℕ
  elements_words xs = counted element_words xs

  abbrev pub trace_words : Trace F → List ℕ
  trace_words trace = word trace.width ++ elements_words trace.values

  unfoldable pub columns_words : ColumnsView F → List ℕ
  columns_words columns =
      word columns.width ++ (word columns.public_values ++
      (counted elements_words columns.periodic ++ optional trace_words columns.preprocessed))

  unfoldable pub list_words : ListView F → List ℕ
  list_words list =
      elements_words list.constants ++ (counted node_words list.nodes ++ counted constraint_words list.constraints)

  unfoldable pub air_words : AirView F → List ℕ
  air_words air =
      columns_words air.columns ++
      (optional word air.degree ++ (optional word air.count ++ list_words air.list))

  unfoldable pub statement_words : StatementView F → List ℕ
  statement_words s =
      (configuration_words s.config ++
      (air_words s.air ++ (elements_words s.public_values ++ (word s.alpha_bits ++ word s.ood_bits)))) ++
      height_words s.log_height

  -- Each word is one of 64 bits.
  abbrev pub IsBounded : StatementView F → Type 0
  IsBounded s = AreWords (statement_words s)

-- ---- bytes

-- how many bytes follow, the label, and each word as 8 bytes
abbrev pub statement_bytes : {F : Type 0} → (F → ℕ) → StatementView F → List ℕ
statement_bytes number_of s = framed (labelled (statement_words number_of s))

-- the SHA-256 digest of these bytes, by which a statement is bound into a transcript
abbrev pub statement_digest : {F : Type 0} → (F → ℕ) → StatementView F → List ℕ
statement_digest number_of s = sha256 (statement_bytes number_of s)

-- the state of a challenger that has observed it, byte by byte
abbrev pub after_statement : {C F : Type 0} → (C → F → C) → (ℕ → F) → (F → ℕ) → StatementView F → C → C
after_statement observe of_number number_of s state = observed_bytes observe of_number (statement_digest number_of s) state

-- No statement within the bounds has these bytes but this one.
abbrev pub TellsStatement : {F : Type 0} → (F → ℕ) → StatementView F → List ℕ → Type 0
TellsStatement {F} number_of s bytes = (other : StatementView F) → IsBounded number_of other → bytes ≡ statement_bytes number_of other → other ≡ s
