-- What leads to a root that binds a word is the word's, or it is something else and there is a collision.
use Rattle.std.specs.Prelude.{◌≡◌, ◌≢◌, ◌⊎◌, ℕ, zero, suc, ◌+◌, ◌-◌, ◌*◌, ◌^◌, ◌%◌, ◌<◌, ◌≤◌, cond, List, [], ◌∷◌, ◌++◌, length, map}
use Rattle.std.specs.List.{AllByRecursion, zip}
use Rattle.std.proofs.Common.{sym, ap, ◌∙◌, inl, inr, arith, length-append, subst}
use Rattle.std.proofs.lemmas.Bool.Decides.{leb_tells}
use Rattle.stark_support.specs.Coset.{TwoAdicCoset, coset_size}
use Rattle.stark_support.specs.Faults.{PlaceByPlace}
use Rattle.stark_support.specs.Seed.{number}
use Rattle.stark_support.specs.SeedFacts.{length-number}
use Rattle.stark_support.specs.Extension.{IsBasis, basis_sum}
use Rattle.stark_support.specs.declared.field.ExtensionField.{Ghosts as Extension}
use Rattle.stark_support.specs.declared.field.Field.{Ghosts as Members}
use Rattle.stark_support.specs.declared.field.PrimeField64.{Ghosts as Prime}
use Rattle.stark_support.specs.declared.field.TwoAdicField.{Ghosts as TwoAdic}
use Rattle.stark_merkle.proofs.BytesRead.{length-element_bytes, pairs_stated, rows_stated}
use Rattle.stark_merkle.specs.Bytes.{IsCounted, RowBytesTell, element_bytes, elements_bytes, row_bytes_of, rows_bytes}
use Rattle.stark_merkle.specs.Tree.{AreDigests, HashCollision, IsDigest, LeadsTo, TreeDigests}
use Rattle.stark_merkle.specs.TreeFacts.{rows_collide, same_or_not}
use Rattle.stark_merkle.specs.declared.root.Root.{Root}
use Rattle.stark_folding.specs.Fold.{squared_coset}
use Rattle.stark_folding.specs.Walk.{half_size, opposite_place}
use Rattle.stark_fri_proof.specs.Parts.{InputOpening}
use Rattle.stark_fri_proof.specs.Paths.{digests_of}
use Rattle.stark_fri_proof.specs.declared.proof.LayerOpening.{LayerOpening}
use Rattle.stark_fri_soundness.specs.Chain.{Opens}
use Rattle.stark_fri_soundness.specs.Halves.{high_place, low_place, place_below, size_is_twice}
use Rattle.stark_fri.specs.Claims.{RoundRead}
use Rattle.stark_fri.specs.Parts.{FriFields}
use Rattle.stark_fri.specs.Query.{InputFits, InputLeads, PairLeads, extension_root, next_at, pair_bytes_at, pairs_of}
use Rattle.stark_fri.specs.Soundness.{BytesNameValues}
use Rattle.stark_fri.specs.Words.{FoldsAreBound, RoundsAreBound, RowsAreOpened, Words}
use Rattle.stark_fri.proofs.Members.{fields_by}

-- ---- rows of few bytes

module _ {F : Type 0} (bytes_of : F → List ℕ) (some : (x : F) → 1 ≤ length (bytes_of x)) where
  elements_length : (row : List F) → length row ≤ length (elements_bytes bytes_of row)
  unfolding elements_bytes
  elements_length [] = omega arith
  elements_length (x ∷ row) = omega (arith, some x, elements_length row, length-append (bytes_of x) (elements_bytes bytes_of row))

  all_below : (few many : ℕ) → few ≤ many → (rows : List (List F)) → AllByRecursion (λ row. length row < few) rows → AllByRecursion (λ row. length row < many) rows
  all_below few many less [] all = tt
  all_below few many less (row ∷ rows) all = let own : length row < few = all.0 in (omega arith, all_below few many less rows all.1)

  -- There are no more rows than they have bytes, and each row has no more elements.
  rows_short : (rows : List (List F)) (bound : ℕ) → length (rows_bytes bytes_of rows) < bound → (length rows < bound) × AllByRecursion (λ row. length row < bound) rows
  unfolding rows_bytes
  rows_short [] bound few = (few, tt)
  rows_short (row ∷ rows) bound few =
      let rest = rows_bytes bytes_of rows in
      let own = elements_bytes bytes_of row in
      let outer : length (number (length row) ++ (own ++ rest)) ≡ length (number (length row)) + length (own ++ rest) = length-append (number (length row)) (own ++ rest) in
      let inner : length (own ++ rest) ≡ length own + length rest = length-append own rest in
      let eight = length-number (length row) in
      let size = elements_length row in
      let more = rows_short rows (bound - 1) (omega arith) in
      let here : length row < bound = omega arith in
      (omega (arith, more.0), (here, all_below (bound - 1) bound (omega arith) rows more.1))

  pub counted_if_short : (rows : List (List F)) → length (row_bytes_of bytes_of rows) < 2 ^ 64 → IsCounted rows
  counted_if_short rows few = rows_short rows (2 ^ 64) (omega (arith, few, length-append (number (length rows)) (rows_bytes bytes_of rows)))

  -- Rows with the same bytes are the same, where the bytes are few.
  pub short_rows_same : RowBytesTell bytes_of → (rows others : List (List F)) → length (row_bytes_of bytes_of others) < 2 ^ 64 → row_bytes_of bytes_of rows ≡ row_bytes_of bytes_of others → rows ≡ others
  short_rows_same stated rows others few same =
      stated rows others (counted_if_short rows (subst (λ t. length t < 2 ^ 64) (sym same) few)) (counted_if_short others few) same

-- Of elements of at most 8 bytes, one row of fewer than 2^32 has fewer than 2^64.
module _ {F : Type 0} (bytes_of : F → List ℕ) (few : (x : F) → length (bytes_of x) ≤ 8) where
  elements_few : (row : List F) → length (elements_bytes bytes_of row) ≤ 8 * length row
  unfolding elements_bytes
  elements_few [] = omega arith
  elements_few (x ∷ row) = omega (arith, few x, elements_few row, length-append (bytes_of x) (elements_bytes bytes_of row))

  row_few : (row : List F) → length row < 2 ^ 32 → length (row_bytes_of bytes_of (row ∷ [])) < 2 ^ 64
  unfolding rows_bytes
  row_few row narrow =
      let own = elements_bytes bytes_of row in
      let whole : length (number 1 ++ (number (length row) ++ (own ++ []))) ≡ length (number 1) + length (number (length row) ++ (own ++ [])) = length-append (number 1) (number (length row) ++ (own ++ [])) in
      let outer : length (number (length row) ++ (own ++ [])) ≡ length (number (length row)) + length (own ++ []) = length-append (number (length row)) (own ++ []) in
      let inner : length (own ++ []) ≡ length own + 0 = length-append own [] in
      omega (arith, narrow, whole, outer, inner, elements_few row, length-number 1, length-number (length row))

pub short_row : {F : Type 0} (size : ℕ) (number_of : F → ℕ) → size ≤ 8 → (row : List F) → length row < 2 ^ 32 → length (row_bytes_of (element_bytes size number_of) (row ∷ [])) < 2 ^ 64
short_row size number_of few row narrow = row_few (element_bytes size number_of) (λ x. omega (arith, few, length-element_bytes size number_of x)) row narrow

-- Rows and pairs are named by their bytes, by the laws of the base field's numbers and of the extension's basis.
module _ {F E : Type 0} (two_adic : TwoAdic F) (base : Members F) (prime : Prime F) (field : Members E) (extension : Extension E F) where
  has_bytes : (size : ℕ) → prime.ORDER ≤ 256 ^ size → 255 < prime.ORDER → 1 ≤ size
  has_bytes zero fits above = absurd (omega (arith, fits, above))
  has_bytes (suc size) fits above = omega arith

  pub names_by : ((x : F) → prime.number_of x < prime.ORDER) → 255 < prime.ORDER → prime.ORDER ≤ 256 ^ prime.BYTES → ((x : F) → prime.of_number (prime.number_of x) ≡ x)
      → IsBasis field.ring extension.embed extension.DIMENSION extension.basis extension.coordinates
      → (hash : TreeDigests) → AreDigests hash → BytesNameValues (fields_by two_adic base prime field extension) hash
  names_by below above fits same basis hash digests =
      let some = has_bytes prime.BYTES fits above in
      record {
        digests = digests;
        rows =
            short_rows_same (element_bytes prime.BYTES prime.number_of) (λ x. omega (arith, some, length-element_bytes prime.BYTES prime.number_of x))
            (rows_stated prime.BYTES prime.number_of prime.of_number prime.ORDER below fits same);
        pairs =
            pairs_stated prime.BYTES prime.number_of prime.of_number prime.ORDER below fits same extension.coordinates extension.DIMENSION basis.count
            (λ x y e. basis.sum x ∙ ap (λ cs. basis_sum field.ring (λ c. c) extension.basis (map extension.embed cs)) e ∙ sym (basis.sum y));
      }

-- ---- digests

are_digests : (roots : List Root) → AllByRecursion IsDigest (digests_of roots)
are_digests [] = tt
are_digests (root ∷ roots) = (root.sized, are_digests roots)

module _ (hash : TreeDigests) (digests : AreDigests hash) where
  -- Bytes that lead from one place to one root are the same, or they are not and there is a collision.
  same_or_collide : (root : List ℕ) (depth place : ℕ) (a b : List ℕ) (p q : List Root) → LeadsTo hash root depth place a (digests_of p) → LeadsTo hash root depth place b (digests_of q)
      → (a ≡ b) ⊎ ((a ≢ b) × HashCollision hash)
  same_or_collide root depth place a b p q by_a by_b = elim (same_or_not a b) [
    | inl same ↦ inl same
    | inr other ↦ inr (other, rows_collide hash digests root depth place a b (digests_of p) (digests_of q) (are_digests p) (are_digests q) other by_a by_b)
  ]

module _ {F E : Type 0} (fields : FriFields F E) (hash : TreeDigests) (named : BytesNameValues fields hash) where
  -- ---- rows

  module _ (words : Words F E) (bits place : ℕ) where
    pub rows_open : (round : ℕ) (rounds : List (RoundRead E)) (inputs : List (InputOpening F)) → PlaceByPlace InputFits rounds inputs
        → AllByRecursion (InputLeads fields hash bits place) (zip rounds inputs) → RoundsAreBound fields hash words bits round place rounds → RowsAreOpened fields words round place inputs ⊎ ((RowsAreOpened fields words round place inputs → ⊥) × HashCollision hash)
    unfolding RoundsAreBound RowsAreOpened PlaceByPlace
    rows_open round [] [] fit leads bound = inl tt
    rows_open round [] (input ∷ inputs) fit leads bound = absurd fit
    rows_open round (read ∷ rounds) [] fit leads bound = inl tt
    rows_open round (read ∷ rounds) (input ∷ inputs) fit leads bound =
        elim (same_or_collide hash named.digests read.0.bytes bits place (fields.row_bytes input.rows) (fields.row_bytes (words.rows round place)) input.path bound.0.path leads.0 bound.0.leads) [
          | inr other ↦ inr (λ opened. other.0 (ap fields.row_bytes opened.0), other.1)
          | inl same ↦ elim (rows_open (suc round) rounds inputs fit.1 leads.1 bound.1) [
            | inr other ↦ inr (λ opened. other.0 opened.1, other.1)
            | inl rest ↦ inl (named.rows input.rows (words.rows round place) bound.0.short same, rest)
          ]
        ]

  -- ---- pairs

  -- Of a pair's bytes in order the values at a place and opposite are the word's.
  pair_opens : (c : TwoAdicCoset E) (some : 1 ≤ c.log_size) (word : ℕ → E) (i : ℕ) → i < coset_size c → (v s : E)
      → pair_bytes_at fields c i v s ≡ fields.pair_bytes (word (i % half_size c)) (word (i % half_size c + half_size c)) → (v ≡ word i) × (s ≡ word (opposite_place c i))
  pair_opens c some word i below v s same =
      let n = half_size c in
      let j = i % n in
      elim (leb_tells (suc i) n) [
        | inl w ↦
            let low : i < n = w.1 in
            let pair = named.pairs v s (word j) (word (j + n)) (ap (λ b. cond b (fields.pair_bytes v s) (fields.pair_bytes s v)) (sym w.0) ∙ same) in
            (pair.0 ∙ ap word (low_place i n low), pair.1 ∙ ap (λ b. word (cond b (j + n) j)) (sym w.0))
        | inr w ↦
            let high : n < suc i = w.1 in
            let pair = named.pairs s v (word j) (word (j + n)) (ap (λ b. cond b (fields.pair_bytes v s) (fields.pair_bytes s v)) (sym w.0) ∙ same) in
            (pair.1 ∙ ap word (high_place i n (omega arith) (omega (arith, size_is_twice c.log_size some))), pair.0 ∙ ap (λ b. word (cond b (j + n) j)) (sym w.0))
      ]

  -- And the word's values at a place and opposite have the pair's bytes.
  pair_bytes_are : (c : TwoAdicCoset E) (some : 1 ≤ c.log_size) (word : ℕ → E) (i : ℕ) → i < coset_size c → (v s : E) → v ≡ word i → s ≡ word (opposite_place c i)
      → pair_bytes_at fields c i v s ≡ fields.pair_bytes (word (i % half_size c)) (word (i % half_size c + half_size c))
  pair_bytes_are c some word i below v s is_v is_s =
      let n = half_size c in
      let j = i % n in
      elim (leb_tells (suc i) n) [
        | inl w ↦
            let low : i < n = w.1 in
            let first : v ≡ word j = is_v ∙ ap word (sym (low_place i n low)) in
            let second : s ≡ word (j + n) = is_s ∙ ap (λ b. word (cond b (j + n) j)) w.0 in
            ap (λ b. cond b (fields.pair_bytes v s) (fields.pair_bytes s v)) w.0 ∙ ap (λ t. fields.pair_bytes t s) first ∙ ap (fields.pair_bytes (word j)) second
        | inr w ↦
            let high : n < suc i = w.1 in
            let first : s ≡ word j = is_s ∙ ap (λ b. word (cond b (j + n) j)) w.0 in
            let second : v ≡ word (j + n) = is_v ∙ ap word (sym (high_place i n (omega arith) (omega (arith, size_is_twice c.log_size some)))) in
            ap (λ b. cond b (fields.pair_bytes v s) (fields.pair_bytes s v)) w.0 ∙ ap (λ t. fields.pair_bytes t v) first ∙ ap (fields.pair_bytes (word j)) second
      ]

  -- The way of a query, by the layers that it opens.
  abbrev OpensOnWay : TwoAdicCoset E → List (ℕ → E) → List E → ℕ → E → List (LayerOpening E) → Type 0
  OpensOnWay c folds betas i v layers = Opens fields.ring fields.inverse (extension_root fields) c (zip folds betas) i v (map (λ layer. layer.sibling) layers)

  pub folds_open : (c : TwoAdicCoset E) (i : ℕ) (v : E) (trees : List (List ℕ)) (betas : List E) (folds : List (ℕ → E)) (layers : List (LayerOpening E)) → length betas ≤ c.log_size → i < coset_size c
      → length trees ≡ length betas → length folds ≡ length betas → length layers ≡ length betas
      → AllByRecursion (PairLeads hash) (pairs_of fields c i v trees betas layers) → FoldsAreBound fields hash c i trees folds
      → OpensOnWay c folds betas i v layers ⊎ ((OpensOnWay c folds betas i v layers → ⊥) × HashCollision hash)
  unfolding pairs_of FoldsAreBound Opens
  folds_open c i v [] [] [] layers few below as_trees as_folds as_layers leads bound = inl tt
  folds_open c i v [] [] (word ∷ folds) layers few below as_trees as_folds as_layers leads bound = absurd (omega arith)
  folds_open c i v [] (beta ∷ betas) folds layers few below as_trees as_folds as_layers leads bound = absurd (omega arith)
  folds_open c i v (tree ∷ trees) [] folds layers few below as_trees as_folds as_layers leads bound = absurd (omega arith)
  folds_open c i v (tree ∷ trees) (beta ∷ betas) [] layers few below as_trees as_folds as_layers leads bound = absurd (omega arith)
  folds_open c i v (tree ∷ trees) (beta ∷ betas) (word ∷ folds) [] few below as_trees as_folds as_layers leads bound = absurd (omega arith)
  folds_open c i v (tree ∷ trees) (beta ∷ betas) (word ∷ folds) (layer ∷ layers) few below as_trees as_folds as_layers leads bound =
      let some : 1 ≤ c.log_size = omega arith in
      elim (same_or_collide hash named.digests tree (c.log_size - 1) (i % half_size c) (pair_bytes_at fields c i v layer.sibling)
      (fields.pair_bytes (word (i % half_size c)) (word (i % half_size c + half_size c))) layer.path bound.0.path leads.0 bound.0.leads) [
        | inr other ↦ inr (λ opens. other.0 (pair_bytes_are c some word i below v layer.sibling opens.0 opens.1), other.1)
        | inl same ↦
            let here = pair_opens c some word i below v layer.sibling same in
            elim (folds_open (squared_coset fields.ring c) (i % half_size c) (next_at fields c beta i v layer.sibling) trees betas folds layers (omega arith) (place_below i (c.log_size - 1))
            (omega arith) (omega arith) (omega arith) leads.1 bound.1) [
              | inr other ↦ inr (λ opens. other.0 opens.2, other.1)
              | inl rest ↦ inl (here.0, here.1, rest)
            ]
      ]
