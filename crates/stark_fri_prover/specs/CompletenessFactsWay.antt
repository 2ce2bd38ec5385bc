-- What an honest prover opens of its layers on the way of a place leads to their roots and to the last polynomial's value.
use Rattle.std.specs.Prelude.{◌≡◌, ℕ, suc, ◌+◌, ◌-◌, ◌*◌, ◌/◌, ◌%◌, ◌^◌, ◌<◌, ◌≤◌, Bool, true, false, cond, ltb, List, [], ◌∷◌, length, map, get_or, Some, refl}
use Rattle.std.specs.List.{AllByRecursion, slice_get, zip}
use Rattle.std.proofs.Common.{sym, ap, ◌∙◌, subst, inl, inr, arith, pow-suc}
use Rattle.std.proofs.Math.Arith.{digits_mod}
use Rattle.std.proofs.Math.Nat.{mod-eq_of_lt, mod-lt}
use Rattle.std.proofs.lemmas.Bool.Decides.{leb_tells}
use Rattle.std.proofs.lemmas.List.FromFn.{get_or-map-range_with_len, length-map-range_with_len}
use Rattle.std.proofs.lemmas.Nat.{pow_pos}
use Rattle.std.proofs.lemmas.Option.{get_or_from_slice_get, same_Some, slice_get-get_or}
use Rattle.stark_support.specs.Coset.{IsTwoAdicCoset, TakesOn, TwoAdicCoset, coset_point, coset_size}
use Rattle.stark_support.specs.Polynomial.{value}
use Rattle.stark_support.specs.Ring.{FieldLaws}
use Rattle.stark_support.specs.TwoAdic.{TwoAdicLaws}
use Rattle.stark_folding.specs.Fold.{folded, squared_coset}
use Rattle.stark_folding.specs.FoldFacts.{squares_valid}
use Rattle.stark_folding.specs.Walk.{folded_all, half_size, steps_of_layers, last_coset, last_place, next_value, opposite_place, walked}
use Rattle.stark_folding.specs.WalkFacts.{walk_of_layers}
use Rattle.stark_merkle.specs.Bytes.{pair_bytes_of}
use Rattle.stark_merkle.specs.Tree.{HasPath, IsPathIn, TreeDigests, digests_in, layers_from, top_of}
use Rattle.stark_merkle.specs.TreeFacts.{full_has_path, own_row_leads}
use Rattle.stark_merkle.specs.declared.root.Root.{Root}
use Rattle.stark_fri.specs.Parts.{FriFields}
use Rattle.stark_fri.specs.Query.{PairLeads, extension_root, next_at, pair_at, pair_bytes_at, pairs_of, phase_root}
use Rattle.stark_fri_proof.specs.Paths.{digests_of}
use Rattle.stark_fri_proof.specs.declared.proof.LayerOpening.{LayerOpening}
use Rattle.stark_fri_proof.specs.declared.proof.Phase.{Phase}
use Rattle.stark_fri_prover.specs.Batching.{AreWordsOf}
use Rattle.stark_fri_prover.specs.Layers.{AreLayersOf, HavePlaces, IsPairTree, OpenWay, OpensPair, OpensPlace, half_of, pair_leaf, pair_leaves_of, pair_of, pair_place}
use Rattle.stark_fri_prover.specs.declared.layers.Layer.{Layer}

-- ---- places

-- A place in the first half is its own rest, and one in the second lies half the size above it.
low_rest : (i n : ℕ) → i < n → i % n ≡ i
low_rest i n low = mod-eq_of_lt low

high_rest : (i n : ℕ) → n ≤ i → i < 2 * n → i - n ≡ i % n
high_rest i n high below =
    let r = i - n in
    let split : 1 * n + r ≡ i = omega arith in
    let small : r < n = omega arith in
    sym (ap (λ t. t % n) (sym split) ∙ digits_mod 1 small)

-- A place's pair stands at the rest by half the size.
pub pair_is_rest : (n i : ℕ) → i < 2 * n → pair_place n i ≡ i % n
pair_is_rest n i below = elim (leb_tells (suc i) n) [
  | inl w ↦ let low : i < n = w.1 in ap (λ b. cond b i (i - n)) w.0 ∙ sym (low_rest i n low)
  | inr w ↦ let high : n < suc i = w.1 in ap (λ b. cond b i (i - n)) w.0 ∙ high_rest i n (omega arith) below
]

twice_half : (k : ℕ) → 1 ≤ k → 2 ^ k ≡ 2 * 2 ^ (k - 1)
twice_half k some = let whole : k ≡ suc (k - 1) = omega arith in ap (λ m. 2 ^ m) whole ∙ pow-suc 2 (k - 1) ∙ omega arith

halved : (m n : ℕ) → m ≡ 2 * n → m / 2 ≡ n
halved m n is = omega (arith, is)

module _ {K : Type 0} (c : TwoAdicCoset K) (some : 1 ≤ c.log_size) where
  -- Half the size, twice, is the size; rests by it are below it, and so is the opposite place below the size.
  size_is_twice : coset_size c ≡ 2 * half_size c
  size_is_twice = twice_half c.log_size some

  rest_below : (i : ℕ) → i % half_size c < half_size c
  rest_below i = mod-lt i (pow_pos (c.log_size - 1))

  opposite_below : (i : ℕ) → opposite_place c i < coset_size c
  opposite_below i =
      let rest = rest_below i in
      let small : i % half_size c < coset_size c = omega (arith, rest, size_is_twice) in
      let great : i % half_size c + half_size c < coset_size c = omega (arith, rest, size_is_twice) in
      elim (ltb i (half_size c)) as (λ b. cond b (i % half_size c + half_size c) (i % half_size c) < coset_size c) [ true ↦ great | false ↦ small ]

  -- What is opened of a place is the value opposite to it, with the path of the pair.
  opens_opposite : {E : Type 0} (values : List E) (layers : List (List (List ℕ))) (i : ℕ) (opened : LayerOpening E) → length values ≡ coset_size c → i < coset_size c
      → OpensPlace values layers i opened → OpensPair values layers (opposite_place c i) (i % half_size c) opened
  opens_opposite values layers i opened size below opens =
      let n = half_size c in
      let half : length values / 2 ≡ n = halved (length values) n (size ∙ size_is_twice) in
      let within : i < 2 * n = subst (λ m. i < m) size_is_twice below in
      let Opens = λ (other pair : ℕ). OpensPair values layers other pair opened in
      elim (leb_tells (suc i) n) [
        | inl w ↦
            let low : i < n = w.1 in
            let rest = low_rest i n low in
            let here : OpensPair values layers (i + length values / 2) i opened = opens.lower (subst (λ m. i < m) (sym half) low) in
            subst (λ m. OpensPair values layers m (i % n) opened) (ap (λ b. cond b (i % n + n) (i % n)) (sym w.0))
            (subst (λ m. OpensPair values layers (m + n) m opened) (sym rest)
            (subst (λ m. OpensPair values layers (i + m) i opened) half here))
        | inr w ↦
            let over : n < suc i = w.1 in
            let high : n ≤ i = omega arith in
            let rest = high_rest i n high within in
            let here : OpensPair values layers (i - length values / 2) (i - length values / 2) opened = opens.upper (subst (λ m. m ≤ i) (sym half) high) in
            subst (λ m. OpensPair values layers m (i % n) opened) (ap (λ b. cond b (i % n + n) (i % n)) (sym w.0))
            (subst (λ m. OpensPair values layers m m opened) rest
            (subst (λ m. OpensPair values layers (i - m) (i - m) opened) half here))
      ]

module _ {F E : Type 0} (fields : FriFields F E) where
  -- Each layer has the place.
  pub have_places : (c : TwoAdicCoset E) (betas p : List E) (layers : List (Layer E)) (i : ℕ) → length betas ≤ c.log_size → i < coset_size c
      → AreWordsOf fields.ring (extension_root fields) c betas p layers → HavePlaces layers i
  unfolding AreWordsOf HavePlaces
  have_places c [] p [] i few below words = tt
  have_places c [] p (layer ∷ layers) i few below words = absurd words
  have_places c (beta ∷ betas) p [] i few below words = absurd words
  have_places c (beta ∷ betas) p (layer ∷ layers) i few below words =
      let some : 1 ≤ c.log_size = omega arith in
      let n = half_size c in
      let twice = size_is_twice c some in
      let half : half_of layer ≡ n = halved (length layer.values.items) n (words.0.number ∙ twice) in
      let within : i < 2 * n = subst (λ m. i < m) twice below in (
        subst (λ m. i < m * 2) (sym half) (omega (arith, within)),
        subst (λ m. HavePlaces layers (pair_place m i)) (sym half)
            (subst (HavePlaces layers) (sym (pair_is_rest n i within))
            (have_places (squared_coset fields.ring c) betas (folded fields.ring beta p) layers (i % n) (omega arith) (rest_below c some i) words.1)),
      )

  -- Each pair that is opened on the way of value v at place i leads to its tree's root, and the values are those of an honest walk.
  pub record LeadsToRoots (hash : TreeDigests) (c : TwoAdicCoset E) (betas p : List E) (i : ℕ) (v : E) (trees : List (List ℕ)) (opened : List (LayerOpening E)) : Type 0 where
    pub pairs : AllByRecursion (PairLeads hash) (pairs_of fields c i v trees betas opened)
    pub steps : zip betas (map (λ layer. layer.sibling) opened) ≡ steps_of_layers fields.ring (extension_root fields) c i p betas
    pub number : length opened ≡ length betas

-- ---- one layer

module _ {F E : Type 0} (fields : FriFields F E) (bytes_of : F → List ℕ) (coordinates : E → List F) (zero : E) (hash : TreeDigests)
    (pair_bytes : (x y : E) → fields.pair_bytes x y ≡ pair_bytes_of bytes_of coordinates x y) where
  module _ (c : TwoAdicCoset E) (p : List E) (values : List E) (word : TakesOn fields.ring (extension_root fields) c (value fields.ring p) values) where
    -- The polynomial's value at a place.
    abbrev at_place : ℕ → E
    at_place i = value fields.ring p (coset_point fields.ring (extension_root fields) c i)

    -- The word has the value at each place.
    value_at : (i : ℕ) → i < coset_size c → get_or values i zero ≡ at_place i
    value_at i below = get_or_from_slice_get values i (at_place i) zero (word.at_row i below)

    module _ (some : 1 ≤ c.log_size) (tree : List (List (List ℕ))) (root : Root) (built : IsPairTree bytes_of coordinates zero hash c.log_size values tree root) (i : ℕ) (below : i < coset_size c)
        (opened : LayerOpening E) (opens : OpensPlace values tree i opened) where
      half_is : length values / 2 ≡ half_size c
      half_is = halved (length values) (half_size c) (word.number ∙ size_is_twice c some)

      -- The opened value is the opposite one.
      sibling_is : opened.sibling ≡ at_place (opposite_place c i)
      sibling_is =
          let both = opens_opposite c some values tree i opened word.number below opens in
          same_Some _ _ (sym both.sibling ∙ word.at_row (opposite_place c i) (opposite_below c some i))

      -- The pair's bytes are those of the pair that the tree has at the rest.
      bytes_are : pair_bytes_at fields c i (at_place i) (at_place (opposite_place c i)) ≡ pair_of bytes_of coordinates zero values (length values / 2) (i % half_size c)
      bytes_are =
          let n = half_size c in
          let j = i % n in
          let rest = rest_below c some i in
          let twice = size_is_twice c some in
          let first = value_at j (omega (arith, rest, twice)) in
          let second = value_at (n + j) (omega (arith, rest, twice)) in
          let pair : fields.pair_bytes (at_place j) (at_place (j + n)) ≡ pair_of bytes_of coordinates zero values (length values / 2) j
          = pair_bytes (at_place j) (at_place (j + n))
          ∙ ap (λ m. pair_bytes_of bytes_of coordinates (at_place j) (at_place m)) (omega arith)
          ∙ ap (λ a. pair_bytes_of bytes_of coordinates a (at_place (n + j))) (sym first)
          ∙ ap (λ b. pair_bytes_of bytes_of coordinates (get_or values j zero) b) (sym second)
          ∙ ap (λ h. pair_of bytes_of coordinates zero values h j) (sym half_is) in
          let chosen = λ (b : Bool). cond b (fields.pair_bytes (at_place i) (at_place (cond b (j + n) j))) (fields.pair_bytes (at_place (cond b (j + n) j)) (at_place i)) in
          elim (leb_tells (suc i) n) [
            | inl w ↦ let low : i < n = w.1 in ap chosen w.0 ∙ ap (λ m. fields.pair_bytes (at_place m) (at_place (j + n))) (sym (low_rest i n low)) ∙ pair
            | inr w ↦
                let over : n < suc i = w.1 in
                let high : n ≤ i = omega arith in
                let within : i < 2 * n = subst (λ m. i < m) twice below in
                let back = high_rest i n high within in
                let whole : i ≡ j + n = omega (arith, back) in
                ap chosen w.0 ∙ ap (λ m. fields.pair_bytes (at_place j) (at_place m)) whole ∙ pair
          ]

      -- It leads to the root.
      pair_leads : (v : E) → v ≡ at_place i → PairLeads hash (pair_at fields c i v root.bytes opened)
      pair_leads v is_value =
          let node = hash.node in
          let j = i % half_size c in
          let depth = c.log_size - 1 in
          let half = length values / 2 in
          let leaves = pair_leaves_of bytes_of coordinates zero hash values in
          let rest = rest_below c some i in
          let both = opens_opposite c some values tree i opened word.number below opens in
          let leaf = pair_leaf bytes_of coordinates zero hash values half in
          let full : length leaves ≡ half_size c = length-map-range_with_len leaf 0 half ∙ half_is in
          let there : slice_get leaves j ≡ Some (leaf j)
          = slice_get-get_or leaves j [] (subst (λ m. j < m) (sym full) rest)
          ∙ ap Some (get_or-map-range_with_len leaf 0 half j j [] (subst (λ m. j < m) (sym half_is) rest) (omega arith)) in
          let bytes : pair_bytes_at fields c i v opened.sibling ≡ pair_of bytes_of coordinates zero values half j
          = ap (λ a. pair_bytes_at fields c i a opened.sibling) is_value ∙ ap (pair_bytes_at fields c i (at_place i)) sibling_is ∙ bytes_are in
          let way : IsPathIn (layers_from node depth leaves) j (digests_of opened.path)
          = subst (λ t. IsPathIn t j (digests_of opened.path)) built.levels
          (both.path.path (subst (λ t. HasPath t j) (sym built.levels) (full_has_path node depth leaves j full rest))) in
          own_row_leads hash depth leaves root.bytes (pair_bytes_at fields c i v opened.sibling) j (digests_of opened.path) full
          (ap top_of (sym built.levels) ∙ built.top)
          (there ∙ ap (λ t. Some (hash.leaf t)) (sym bytes))
          way

  -- ---- all layers

  abbrev Trees : ℕ → List (Phase F) → List (Layer E) → Type 0
  Trees log_size phases layers = AreLayersOf bytes_of coordinates zero hash log_size phases layers

  module _ (laws : FieldLaws fields.ring fields.inverse) (two_adic : TwoAdicLaws fields.ring fields.adicity (extension_root fields) (fields.embed fields.generator)) where
    abbrev Valid : TwoAdicCoset E → Type 0
    Valid c = IsTwoAdicCoset fields.ring fields.adicity c

    next_valid : (c : TwoAdicCoset E) → Valid c → 1 ≤ c.log_size → Valid (squared_coset fields.ring c)
    next_valid c valid some = squares_valid laws fields.adicity (extension_root fields) (fields.embed fields.generator) two_adic c valid (c.log_size - 1) (omega arith)

    -- A step is a walk through one layer.
    next_is_folded : (c : TwoAdicCoset E) → Valid c → 1 ≤ c.log_size → (beta : E) (p : List E) (i : ℕ) → i < coset_size c
        → next_value fields.ring fields.inverse (extension_root fields) c beta i (value fields.ring p (coset_point fields.ring (extension_root fields) c i))
        (value fields.ring p (coset_point fields.ring (extension_root fields) c (opposite_place c i)))
        ≡ value fields.ring (folded fields.ring beta p) (coset_point fields.ring (extension_root fields) (squared_coset fields.ring c) (i % half_size c))
    unfolding walked steps_of_layers folded_all last_coset last_place
    next_is_folded c valid some beta p i below =
        walk_of_layers laws fields.adicity (extension_root fields) (fields.embed fields.generator) two_adic c valid (beta ∷ []) some p i below

    pub way_leads : (c : TwoAdicCoset E) → Valid c → (betas p : List E) (layers : List (Layer E)) (phases : List (Phase F)) (opened : List (LayerOpening E)) (i : ℕ) (v : E)
        → length betas ≤ c.log_size → i < coset_size c → v ≡ value fields.ring p (coset_point fields.ring (extension_root fields) c i)
        → AreWordsOf fields.ring (extension_root fields) c betas p layers → Trees c.log_size phases layers → OpenWay layers i opened
        → LeadsToRoots fields hash c betas p i v (map phase_root phases) opened
    unfolding AreWordsOf AreLayersOf OpenWay pairs_of steps_of_layers
    way_leads c valid [] p [] [] [] i v few below is words trees way = record { pairs = tt; steps = refl; number = refl }
    way_leads c valid [] p [] [] (opening ∷ opened) i v few below is words trees way = absurd way
    way_leads c valid [] p [] (phase ∷ phases) opened i v few below is words trees way = absurd trees
    way_leads c valid [] p (layer ∷ layers) phases opened i v few below is words trees way = absurd words
    way_leads c valid (beta ∷ betas) p [] phases opened i v few below is words trees way = absurd words
    way_leads c valid (beta ∷ betas) p (layer ∷ layers) [] opened i v few below is words trees way = absurd trees
    way_leads c valid (beta ∷ betas) p (layer ∷ layers) (phase ∷ phases) [] i v few below is words trees way = absurd way
    way_leads c valid (beta ∷ betas) p (layer ∷ layers) (phase ∷ phases) (opening ∷ opened) i v few below is words trees way =
        let some : 1 ≤ c.log_size = omega arith in
        let n = half_size c in
        let d = squared_coset fields.ring c in
        let twice = size_is_twice c some in
        let half : half_of layer ≡ n = halved (length layer.values.items) n (words.0.number ∙ twice) in
        let within : i < 2 * n = subst (λ m. i < m) twice below in
        let tree = digests_in layer.tree.items in
        let sibling = sibling_is c p layer.values.items words.0 some tree phase.root trees.0 i below opening way.0 in
        let lead = pair_leads c p layer.values.items words.0 some tree phase.root trees.0 i below opening way.0 v is in
        let left : OpenWay layers (i % n) opened = subst (λ m. OpenWay layers m opened) (pair_is_rest n i within) (subst (λ m. OpenWay layers (pair_place m i) opened) half way.1) in
        let next : next_at fields c beta i v opening.sibling ≡ value fields.ring (folded fields.ring beta p) (coset_point fields.ring (extension_root fields) d (i % n))
        = ap (λ a. next_at fields c beta i a opening.sibling) is
        ∙ ap (next_at fields c beta i (at_place c p layer.values.items words.0 i)) sibling
        ∙ next_is_folded c valid some beta p i below in
        let later = way_leads d (next_valid c valid some) betas (folded fields.ring beta p) layers phases opened (i % n) (next_at fields c beta i v opening.sibling)
        (omega arith) (rest_below c some i) next words.1 trees.1 left in
        let steps = later.steps in
        record {
          pairs = (lead, later.pairs);
          steps = λ k. (beta, sibling k) ∷ steps k;
          number = ap suc later.number;
        }
