-- The steps of a value's way through the folds, and of its pairs' openings.
use Rattle.std.proofs.Common.{◌≡◌, ◌∙◌, ◌↔◌, Bool, IsTrue, ℕ, suc, ◌+◌, ◌-◌, ◌%◌, ◌<◌, ◌≤◌, true, false, inl, inr, ltb, cond, List, [], ◌∷◌, ◌++◌, length, get_or, drop, map, sym, ap, refl, subst, arith, append_assoc}
use Rattle.std.specs.List.{AllByRecursion}
use Rattle.std.proofs.lemmas.Bool.Decides.{leb_tells}
use Rattle.std.proofs.lemmas.List.{append-nil, drop_all, length-map}
use Rattle.stark_support.proofs.Places.{from_place}
use Rattle.stark_support.specs.Coset.{TwoAdicCoset}
use Rattle.stark_support.specs.Faults.{IsFirstFault}
use Rattle.stark_folding.specs.Fold.{squared_coset}
use Rattle.stark_folding.specs.Walk.{half_size, walked}
use Rattle.stark_fri_proof.specs.Paths.{digests_of}
use Rattle.stark_fri_proof.specs.declared.proof.LayerOpening.{LayerOpening}
use Rattle.stark_fri_proof.specs.declared.proof.Phase.{Phase}
use Rattle.stark_fri.proofs.WalkSteps.{mapped_place}
use Rattle.stark_merkle.specs.Tree.{LeadsTo, TreeDigests}
use Rattle.stark_fri.specs.Parts.{FriFields}
use Rattle.stark_fri.specs.Query.{PairLeads, PairOpening, next_at, pair_at, pairs_of, phase_root, walked_by}
use Rattle.stark_fri.specs.Walks.{opening_of, openings_of, pair_on, pairs_on}
use Rattle.stark_fri.specs.declared.folds.Pair.{Pair}

module _ {F E : Type 0} (fields : FriFields F E) (betas : List E) (layers : List (LayerOpening E)) where
  module _ (i : ℕ) (c : TwoAdicCoset E) (place : ℕ) (v beta : E) (layer : LayerOpening E)
      (in_betas : i < length betas) (is_beta : beta ≡ get_or betas i beta) (in_layers : i < length layers) (is_layer : layer ≡ get_or layers i layer)
      (next : TwoAdicCoset E) (further : ℕ) (w : E) (is_next : next ≡ squared_coset fields.ring c) (is_further : further ≡ place % half_size c)
      (is_w : w ≡ next_at fields c beta place v layer.sibling) where
    -- What a function of the way computes from here, it computes behind the fold.
    opened : {T : Type 0} (f : List E → List (LayerOpening E) → T) → f (drop i betas) (drop i layers) ≡ f (beta ∷ drop (i + 1) betas) (layer ∷ drop (i + 1) layers)
    opened f =
        ap (λ t. f t (drop i layers)) (from_place betas i (i + 1) beta refl in_betas is_beta)
        ∙ ap (λ t. f (beta ∷ drop (i + 1) betas) t) (from_place layers i (i + 1) layer refl in_layers is_layer)

    moved : {T : Type 0} (f : TwoAdicCoset E → ℕ → E → T) → f next further w ≡ f (squared_coset fields.ring c) (place % half_size c) (next_at fields c beta place v layer.sibling)
    moved f = ap (λ n. f n further w) is_next ∙ ap (λ p. f (squared_coset fields.ring c) p w) is_further ∙ ap (λ x. f (squared_coset fields.ring c) (place % half_size c) x) is_w

    pub pairs_more : (done after whole : List (Pair E)) → after ≡ done ++ pair_on c place v layer.sibling ∷ [] → done ++ pairs_on fields c place v (drop i betas) (drop i layers) ≡ whole
        → after ++ pairs_on fields next further w (drop (i + 1) betas) (drop (i + 1) layers) ≡ whole
    unfolding pairs_on
    pairs_more done after whole pushed so_far =
        let rest = pairs_on fields (squared_coset fields.ring c) (place % half_size c) (next_at fields c beta place v layer.sibling) (drop (i + 1) betas) (drop (i + 1) layers) in
        let from_here : pairs_on fields c place v (drop i betas) (drop i layers) ≡ pair_on c place v layer.sibling ∷ rest = opened (pairs_on fields c place v) in
        ap (λ t. after ++ t) (moved (λ n p x. pairs_on fields n p x (drop (i + 1) betas) (drop (i + 1) layers)))
        ∙ ap (λ t. t ++ rest) pushed ∙ append_assoc done (pair_on c place v layer.sibling ∷ []) rest ∙ ap (λ t. done ++ t) (sym from_here) ∙ so_far

    pub reached_more : (whole : E) → walked_by fields c place v (drop i betas) (drop i layers) ≡ whole → walked_by fields next further w (drop (i + 1) betas) (drop (i + 1) layers) ≡ whole
    unfolding walked
    reached_more whole so_far = moved (λ n p x. walked_by fields n p x (drop (i + 1) betas) (drop (i + 1) layers)) ∙ sym (opened (walked_by fields c place v)) ∙ so_far

  module _ (i : ℕ) (c : TwoAdicCoset E) (place : ℕ) (v : E) (ended : length betas ≤ i) where
    pub pairs_end : (done whole : List (Pair E)) → done ++ pairs_on fields c place v (drop i betas) (drop i layers) ≡ whole → done ≡ whole
    unfolding pairs_on
    pairs_end done whole so_far = sym (append-nil done) ∙ ap (λ t. done ++ pairs_on fields c place v t (drop i layers)) (sym (drop_all i betas ended)) ∙ so_far

    pub reached_end : (whole : E) → walked_by fields c place v (drop i betas) (drop i layers) ≡ whole → v ≡ whole
    unfolding walked
    reached_end whole so_far = ap (λ t. walked_by fields c place v t (drop i layers)) (sym (drop_all i betas ended)) ∙ so_far

module _ {F E : Type 0} (fields : FriFields F E) where
  -- There are as many pairs as folds.
  pub pairs_count : (c : TwoAdicCoset E) (i : ℕ) (v : E) (betas : List E) (layers : List (LayerOpening E)) → length layers ≡ length betas → length (pairs_on fields c i v betas layers) ≡ length betas
  unfolding pairs_on
  pairs_count c i v [] layers as_many = refl
  pairs_count c i v (beta ∷ betas) [] as_many = absurd (omega arith)
  pairs_count c i v (beta ∷ betas) (layer ∷ layers) as_many =
      ap suc (pairs_count (squared_coset fields.ring c) (i % half_size c) (next_at fields c beta i v layer.sibling) betas layers (omega arith))

-- ---- a pair, in order

module _ {E : Type 0} (c : TwoAdicCoset E) (place : ℕ) (v s : E) where
  pub lower_pair : place < half_size c → record { place = place % half_size c; low = v; high = s } ≡ pair_on c place v s
  lower_pair low = elim (leb_tells (suc place) (half_size c)) [
    | inl w ↦ ap (λ b. record { place = place % half_size c; low = cond b v s; high = cond b s v }) (sym w.0)
    | inr w ↦ let high : half_size c < suc place = w.1 in absurd (omega arith)
  ]

  pub upper_pair : half_size c ≤ place → record { place = place % half_size c; low = s; high = v } ≡ pair_on c place v s
  upper_pair high = elim (leb_tells (suc place) (half_size c)) [
    | inl w ↦ let low : suc place ≤ half_size c = w.1 in absurd (omega arith)
    | inr w ↦ ap (λ b. record { place = place % half_size c; low = cond b v s; high = cond b s v }) (sym w.0)
  ]

-- ---- the pairs' openings

module _ {F E : Type 0} (fields : FriFields F E) where
  ordered_bytes : (c : TwoAdicCoset E) (i : ℕ) (v s : E) → fields.pair_bytes (pair_on c i v s).low (pair_on c i v s).high ≡ cond (ltb i (half_size c)) (fields.pair_bytes v s) (fields.pair_bytes s v)
  ordered_bytes c i v s =
      elim (ltb i (half_size c)) as (λ b. fields.pair_bytes (cond b v s) (cond b s v) ≡ cond b (fields.pair_bytes v s) (fields.pair_bytes s v)) [ true ↦ refl | false ↦ refl ]

  -- The pairs on the way, with their trees and paths.
  pub openings_are : (c : TwoAdicCoset E) (i : ℕ) (v : E) (trees : List (List ℕ)) (betas : List E) (layers : List (LayerOpening E))
      → openings_of fields c.log_size trees layers (pairs_on fields c i v betas layers) ≡ pairs_of fields c i v trees betas layers
  unfolding openings_of pairs_on pairs_of
  openings_are c i v [] betas layers = refl
  openings_are c i v (tree ∷ trees) [] [] = refl
  openings_are c i v (tree ∷ trees) [] (layer ∷ layers) = refl
  openings_are c i v (tree ∷ trees) (beta ∷ betas) [] = refl
  openings_are c i v (tree ∷ trees) (beta ∷ betas) (layer ∷ layers) =
      let next = squared_coset fields.ring c in
      let place = i % half_size c in
      let w = next_at fields c beta i v layer.sibling in
      let rest = openings_of fields (c.log_size - 1) trees layers (pairs_on fields next place w betas layers) in
      let with_bytes : List ℕ → PairOpening = λ bytes. record { tree = tree; depth = c.log_size - 1; place = place; bytes = bytes; path = digests_of layer.path } in
      ap (λ b. with_bytes b ∷ rest) (ordered_bytes c i v layer.sibling) ∙ ap (λ t. pair_at fields c i v tree layer ∷ t) (openings_are next place w trees betas layers)

  module _ (P : PairOpening → Type 0) (k : ℕ) (trees : List (List ℕ)) (layers : List (LayerOpening E)) (pairs : List (Pair E)) where
    abbrev openings_from : ℕ → List PairOpening
    openings_from i = openings_of fields (k - i) (drop i trees) (drop i layers) (drop i pairs)

    -- Those that are left hold only if all do, and their first fault is the first of all.
    abbrev pub OpeningsSoFar : ℕ → Type 0
    OpeningsSoFar i = AllByRecursion P (openings_of fields (k - i) (drop i trees) (drop i layers) (drop i pairs)) → AllByRecursion P (openings_of fields k trees layers pairs)

    abbrev pub OpeningsPassed : ℕ → Type 0
    OpeningsPassed i = (n : ℕ) → IsFirstFault P (openings_of fields (k - i) (drop i trees) (drop i layers) (drop i pairs)) n → IsFirstFault P (openings_of fields k trees layers pairs) (i + n)

    pub openings_end : (i : ℕ) → length trees ≤ i → OpeningsSoFar i → AllByRecursion P (openings_of fields k trees layers pairs)
    unfolding openings_of
    openings_end i ended so_far = so_far (subst (λ t. AllByRecursion P (openings_of fields (k - i) t (drop i layers) (drop i pairs))) (sym (drop_all i trees ended)) tt)

    module _ (i : ℕ) (tree : List ℕ) (layer : LayerOpening E) (pair : Pair E) (in_trees : i < length trees) (is_tree : tree ≡ get_or trees i tree)
        (in_layers : i < length layers) (is_layer : layer ≡ get_or layers i layer) (in_pairs : i < length pairs) (is_pair : pair ≡ get_or pairs i pair) where
      from_here : openings_from i ≡ opening_of fields (k - (i + 1)) tree layer pair ∷ openings_from (i + 1)
      unfolding openings_of
      from_here =
          let less : k - i - 1 ≡ k - (i + 1) = omega arith in
          ap (λ t. openings_of fields (k - i) t (drop i layers) (drop i pairs)) (from_place trees i (i + 1) tree refl in_trees is_tree)
          ∙ ap (λ t. openings_of fields (k - i) (tree ∷ drop (i + 1) trees) t (drop i pairs)) (from_place layers i (i + 1) layer refl in_layers is_layer)
          ∙ ap (λ t. openings_of fields (k - i) (tree ∷ drop (i + 1) trees) (layer ∷ drop (i + 1) layers) t) (from_place pairs i (i + 1) pair refl in_pairs is_pair)
          ∙ ap (λ n. opening_of fields n tree layer pair ∷ openings_of fields n (drop (i + 1) trees) (drop (i + 1) layers) (drop (i + 1) pairs)) less

      pub openings_step : P (opening_of fields (k - (i + 1)) tree layer pair) → OpeningsSoFar i → OpeningsSoFar (i + 1)
      openings_step leads so_far = λ rest. so_far (subst (AllByRecursion P) (sym from_here) (leads, rest))

      shifted : (n : ℕ) → i + suc n ≡ (i + 1) + n
      shifted n = omega arith

      pub openings_passed : P (opening_of fields (k - (i + 1)) tree layer pair) → OpeningsPassed i → OpeningsPassed (i + 1)
      unfolding IsFirstFault
      openings_passed leads so_far = λ n fault.
          subst (IsFirstFault P (openings_of fields k trees layers pairs)) (shifted n) (so_far (suc n) (subst (λ t. IsFirstFault P t (suc n)) (sym from_here) (leads, fault)))

      pub openings_stop : (P (opening_of fields (k - (i + 1)) tree layer pair) → ⊥) → OpeningsPassed i → IsFirstFault P (openings_of fields k trees layers pairs) i
      unfolding IsFirstFault
      openings_stop never so_far =
          subst (IsFirstFault P (openings_of fields k trees layers pairs)) (omega arith) (so_far 0 (subst (λ t. IsFirstFault P t 0) (sym from_here) never))

  -- A test of a pair in memory is one of its opening.
  pub pair_observed : (hash : TreeDigests) (depth : ℕ) (root tree : List ℕ) (layer : LayerOpening E) (pair : Pair E) (bytes : List ℕ) (path : List (List ℕ)) (observed : Bool)
      → root ≡ tree → bytes ≡ fields.pair_bytes pair.low pair.high → path ≡ digests_of layer.path → (IsTrue observed ↔ LeadsTo hash root depth pair.place bytes path)
      → IsTrue observed ↔ PairLeads hash (opening_of fields depth tree layer pair)
  pair_observed hash depth root tree layer pair bytes path observed is_root is_bytes is_path test =
      subst (λ t. IsTrue observed ↔ LeadsTo hash t depth pair.place (fields.pair_bytes pair.low pair.high) (digests_of layer.path)) is_root
      (subst (λ t. IsTrue observed ↔ LeadsTo hash root depth pair.place t (digests_of layer.path)) is_bytes (subst (λ t. IsTrue observed ↔ LeadsTo hash root depth pair.place bytes t) is_path test))

-- ---- a turn of the loop over the layers

module _ {F E : Type 0} (fields : FriFields F E) (hash : TreeDigests) (bits : ℕ) (phases : List (Phase F)) (layers : List (LayerOpening E)) (pairs : List (Pair E))
    (as_many : length layers ≡ length phases) (also : length pairs ≡ length phases) (i : ℕ) (turn : i < length phases)
    (phase : Phase F) (is_phase : phase ≡ get_or phases i phase) (layer : LayerOpening E) (is_layer : layer ≡ get_or layers i layer) (pair : Pair E) (is_pair : pair ≡ get_or pairs i pair)
    (root bytes : List ℕ) (path : List (List ℕ)) (is_root : root ≡ phase_root (get_or phases i phase)) (is_bytes : bytes ≡ fields.pair_bytes pair.low pair.high)
    (is_path : path ≡ digests_of (get_or layers i layer).path) (observed : Bool) (test : IsTrue observed ↔ LeadsTo hash root (bits - (i + 1)) pair.place bytes path) where
  in_trees : i < length (map phase_root phases)
  in_trees = omega (arith, turn, length-map phases phase_root)

  of_pair : IsTrue observed ↔ PairLeads hash (opening_of fields (bits - (i + 1)) (phase_root phase) layer pair)
  of_pair = pair_observed fields hash (bits - (i + 1)) root (phase_root phase) layer pair bytes path observed (is_root ∙ ap phase_root (sym is_phase)) is_bytes (is_path ∙ ap (λ l. digests_of l.path) (sym is_layer)) test

  pub layer_passed : IsTrue observed → OpeningsSoFar fields (PairLeads hash) bits (map phase_root phases) layers pairs i × OpeningsPassed fields (PairLeads hash) bits (map phase_root phases) layers pairs i
      → OpeningsSoFar fields (PairLeads hash) bits (map phase_root phases) layers pairs (i + 1) × OpeningsPassed fields (PairLeads hash) bits (map phase_root phases) layers pairs (i + 1)
  layer_passed leads so_far = (
    openings_step fields (PairLeads hash) bits (map phase_root phases) layers pairs i (phase_root phase) layer pair in_trees (mapped_place phase_root phases i phase turn is_phase)
        (omega arith) is_layer (omega arith) is_pair (of_pair.0 leads) so_far.0,
    openings_passed fields (PairLeads hash) bits (map phase_root phases) layers pairs i (phase_root phase) layer pair in_trees (mapped_place phase_root phases i phase turn is_phase)
        (omega arith) is_layer (omega arith) is_pair (of_pair.0 leads) so_far.1,
  )

  pub layer_stops : (IsTrue observed → ⊥) → OpeningsPassed fields (PairLeads hash) bits (map phase_root phases) layers pairs i
      → IsFirstFault (PairLeads hash) (openings_of fields bits (map phase_root phases) layers pairs) i
  layer_stops never so_far =
      openings_stop fields (PairLeads hash) bits (map phase_root phases) layers pairs i (phase_root phase) layer pair in_trees (mapped_place phase_root phases i phase turn is_phase)
      (omega arith) is_layer (omega arith) is_pair (λ leads. never (of_pair.1 leads)) so_far
