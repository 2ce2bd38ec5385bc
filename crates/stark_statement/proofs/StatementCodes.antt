-- The canonical writing of a statement can be read back.
use Rattle.std.proofs.Common.{◌≡◌, ℕ, List, [], ◌++◌, Option, None, Some, ap, arith, drop, get_or, length, refl, sym, ◌∙◌}
use Rattle.std.specs.Prelude.{cond, eqb}
use Rattle.stark_air.specs.Declaration.{Trace}
use Rattle.stark_tree_air.specs.TreeJson.{AirView, ColumnsView, ListView}
use Rattle.stark_tree_air.specs.declared.node.TreeNode.{TreeNode}
use Rattle.stark_tree_air.specs.declared.node.TreeNode.TheVariants.{Constant, MainCurrent, MainNext, PreprocessedCurrent, PreprocessedNext, PublicValue, PeriodicValue, FirstRow, LastRow, Transition, Sum, Difference, Product, Negation}
use Rattle.stark_tree_air.specs.declared.node.TreeConstraint.{TreeConstraint}
use Rattle.stark_tree_air.specs.declared.node.TreeConstraint.TheVariants.{Base, Extension}
use Rattle.stark_statement.specs.Configuration.{ConfigurationView, FriNumbers}
use Rattle.stark_statement.specs.declared.configuration.FieldName.{FieldName}
use Rattle.stark_statement.specs.declared.configuration.FieldName.TheVariants.{BabyBear, KoalaBear, F12289}
use Rattle.stark_statement.specs.StatementBytes.{configuration_words, field_tag, fri_words, node_words, constraint_words, element_words, elements_words, trace_words, columns_words, list_words, air_words, height_words, statement_words, statement_bytes, IsBounded}
use Rattle.stark_statement.specs.StatementView.{StatementView}
use Rattle.stark_statement.specs.Words.{word, optional, counted}
use Rattle.stark_statement.proofs.Codes.{IsCode, word_code, code_of_inverse, turned_code, pair_code, optional_code, counted_code, words_of_bytes}

-- ---- the configuration

tagged_field : ℕ → FieldName
tagged_field tag = cond (eqb tag 0) BabyBear (cond (eqb tag 1) KoalaBear F12289)

tagged_back : (f : FieldName) → tagged_field (field_tag f) ≡ f
unfolding tagged_field
tagged_back BabyBear = refl
tagged_back KoalaBear = refl
tagged_back F12289 = refl

field_code : IsCode (λ f. word (field_tag f))
field_code = turned_code word field_tag tagged_field tagged_back word_code

fri_code : IsCode fri_words
unfolding fri_words
fri_code = turned_code (λ p. word p.0 ++ (word p.1.0 ++ (word p.1.1.0 ++ (word p.1.1.1.0 ++ word p.1.1.1.1))))
    (λ (n : FriNumbers). (n.log_blowup, (n.log_final_poly_len, (n.num_queries, (n.commit_bits, n.query_bits)))))
    (λ p. record { log_blowup = p.0; log_final_poly_len = p.1.0; num_queries = p.1.1.0; commit_bits = p.1.1.1.0; query_bits = p.1.1.1.1 })
    (λ n. refl)
    (pair_code word _ word_code (pair_code word _ word_code (pair_code word _ word_code (pair_code word word word_code word_code))))

configuration_code : IsCode configuration_words
unfolding configuration_words
configuration_code = turned_code (λ p. word (field_tag p.0) ++ optional fri_words p.1)
    (λ (c : ConfigurationView). (c.field, c.fri))
    (λ p. record { field = p.0; fri = p.1 })
    (λ c. refl)
    (pair_code (λ f. word (field_tag f)) (optional fri_words) field_code (optional_code fri_words fri_code))

-- ---- nodes and constraints

-- The node of a tag and what follows it, and what is left after the node.
node_by : ℕ → List ℕ → TreeNode × List ℕ
node_by tag rest =
    let i = get_or rest 0 0 in
    let j = get_or rest 1 0 in
    let one = drop 1 rest in
    let two = drop 2 rest in
    cond (eqb tag 0) (Constant i, one)
    (cond (eqb tag 1) (MainCurrent i, one)
    (cond (eqb tag 2) (MainNext i, one)
    (cond (eqb tag 3) (PreprocessedCurrent i, one)
    (cond (eqb tag 4) (PreprocessedNext i, one)
    (cond (eqb tag 5) (PublicValue i, one)
    (cond (eqb tag 6) (PeriodicValue i, one)
    (cond (eqb tag 7) (FirstRow, rest)
    (cond (eqb tag 8) (LastRow, rest)
    (cond (eqb tag 9) (Transition, rest)
    (cond (eqb tag 10) (Sum i j, two)
    (cond (eqb tag 11) (Difference i j, two)
    (cond (eqb tag 12) (Product i j, two)
    (Negation i, one)))))))))))))

node_parsed : List ℕ → TreeNode × List ℕ
node_parsed ws = node_by (get_or ws 0 0) (drop 1 ws)

node_back : (n : TreeNode) (r : List ℕ) → node_parsed (node_words n ++ r) ≡ (n, r)
unfolding node_by node_parsed
node_back (Constant i) r = refl
node_back (MainCurrent i) r = refl
node_back (MainNext i) r = refl
node_back (PreprocessedCurrent i) r = refl
node_back (PreprocessedNext i) r = refl
node_back (PublicValue i) r = refl
node_back (PeriodicValue i) r = refl
node_back FirstRow r = refl
node_back LastRow r = refl
node_back Transition r = refl
node_back (Sum i j) r = refl
node_back (Difference i j) r = refl
node_back (Product i j) r = refl
node_back (Negation i) r = refl

node_code : IsCode node_words
node_code = code_of_inverse node_words node_parsed node_back

constraint_parsed : List ℕ → TreeConstraint × List ℕ
constraint_parsed ws = (cond (eqb (get_or ws 0 0) 0) (Base (get_or ws 1 0)) (Extension (get_or ws 1 0)), drop 2 ws)

constraint_back : (c : TreeConstraint) (r : List ℕ) → constraint_parsed (constraint_words c ++ r) ≡ (c, r)
unfolding constraint_parsed
constraint_back (Base i) r = refl
constraint_back (Extension i) r = refl

constraint_code : IsCode constraint_words
constraint_code = code_of_inverse constraint_words constraint_parsed constraint_back

-- ---- a statement over a field whose elements differ in their numbers

module _ {F : Type 0} (number_of : F → ℕ) (of_number : ℕ → F) (same_number : (x : F) → of_number (number_of x) ≡ x) where
  elements_code : IsCode (elements_words number_of)
  elements_code = counted_code (element_words number_of) (turned_code word number_of of_number same_number word_code)

  trace_code : IsCode (trace_words number_of)
  trace_code = turned_code (λ p. word p.0 ++ elements_words number_of p.1)
      (λ (trace : Trace F). (trace.width, trace.values))
      (λ p. record { width = p.0; values = p.1 })
      (λ trace. refl)
      (pair_code word (elements_words number_of) word_code elements_code)

  periodic_code : IsCode (counted (elements_words number_of))
  periodic_code = counted_code (elements_words number_of) elements_code

  preprocessed_code : IsCode (optional (trace_words number_of))
  preprocessed_code = optional_code (trace_words number_of) trace_code

  columns_code : IsCode (columns_words number_of)
  unfolding columns_words
  columns_code = turned_code (λ p. word p.0 ++ (word p.1.0 ++ (counted (elements_words number_of) p.1.1.0 ++ optional (trace_words number_of) p.1.1.1)))
      (λ (columns : ColumnsView F). (columns.width, (columns.public_values, (columns.periodic, columns.preprocessed))))
      (λ p. record { width = p.0; public_values = p.1.0; periodic = p.1.1.0; preprocessed = p.1.1.1 })
      (λ columns. refl)
      (pair_code word _ word_code (pair_code word _ word_code (pair_code _ _ periodic_code preprocessed_code)))

  list_code : IsCode (list_words number_of)
  unfolding list_words
  list_code = turned_code (λ p. elements_words number_of p.0 ++ (counted node_words p.1.0 ++ counted constraint_words p.1.1))
      (λ (list : ListView F). (list.constants, (list.nodes, list.constraints)))
      (λ p. record { constants = p.0; nodes = p.1.0; constraints = p.1.1 })
      (λ list. refl)
      (pair_code _ _ elements_code (pair_code _ _ (counted_code node_words node_code) (counted_code constraint_words constraint_code)))

  hint_code : IsCode (optional word)
  hint_code = optional_code word word_code

  air_code : IsCode (air_words number_of)
  unfolding air_words
  air_code = turned_code (λ p. columns_words number_of p.0 ++ (optional word p.1.0 ++ (optional word p.1.1.0 ++ list_words number_of p.1.1.1)))
      (λ (air : AirView F). (air.columns, (air.degree, (air.count, air.list))))
      (λ p. record { columns = p.0; degree = p.1.0; count = p.1.1.0; list = p.1.1.1 })
      (λ air. refl)
      (pair_code _ _ columns_code (pair_code _ _ hint_code (pair_code _ _ hint_code list_code)))

  -- All but the height.
  abbrev Front : Type 0
  Front = ConfigurationView × (AirView F × (List F × (ℕ × ℕ)))

  abbrev front_of : StatementView F → Front
  front_of s = (s.config, (s.air, (s.public_values, (s.alpha_bits, s.ood_bits))))

  abbrev with_height : Front → Option ℕ → StatementView F
  with_height p log_height = record { config = p.0; air = p.1.0; public_values = p.1.1.0; alpha_bits = p.1.1.1.0; ood_bits = p.1.1.1.1; log_height = log_height }

  front_code : IsCode (λ (p : Front). configuration_words p.0 ++ (air_words number_of p.1.0 ++ (elements_words number_of p.1.1.0 ++ (word p.1.1.1.0 ++ word p.1.1.1.1))))
  front_code = pair_code _ _ configuration_code (pair_code _ _ air_code (pair_code _ _ elements_code (pair_code word word word_code word_code)))

  -- The height ends the words, so that none differs from one.
  same_height : (x y : Option ℕ) → height_words x ≡ height_words y → x ≡ y
  same_height None None e = refl
  same_height None (Some n) e = absurd (omega (arith, ap length e))
  same_height (Some m) None e = absurd (omega (arith, ap length e))
  same_height (Some m) (Some n) e = ap Some (word_code.read m n [] [] e).0

  same_statement : (x y : StatementView F) → statement_words number_of x ≡ statement_words number_of y → x ≡ y
  unfolding statement_words
  same_statement x y e =
      let front = front_code.read (front_of x) (front_of y) (height_words x.log_height) (height_words y.log_height) e in
      let height = same_height x.log_height y.log_height front.1 in
      λ i. with_height (front.0 i) (height i)

  -- No other statement has a statement's bytes.
  pub no_other_statement : (statement : StatementView F) (bytes : List ℕ) → IsBounded number_of statement → bytes ≡ statement_bytes number_of statement →
      (other : StatementView F) → IsBounded number_of other → bytes ≡ statement_bytes number_of other → other ≡ statement
  no_other_statement statement bytes bounded e other fits f =
      same_statement other statement
      (words_of_bytes (statement_words number_of other) (statement_words number_of statement) fits bounded (sym f ∙ e))
