-- The recomposition as a sum that is kept times the weights so far.
use Rattle.std.proofs.Common.{◌≡◌, ◌≢◌, ◌∙◌, ℕ, ◌+◌, ◌^◌, ◌<◌, ◌≤◌, List, [], ◌∷◌, ◌++◌, map, length, take, drop, get_or, refl, sym, ap}
use Rattle.std.proofs.lemmas.List.{map-append, take_more, take_rest, drop_all}
use Rattle.stark_support.specs.Ring.{RingOps, FieldLaws, difference}
use Rattle.stark_support.specs.RingFacts.{zero_add, zero_mul}
use Rattle.stark_support.specs.RingSolver.{solve, nothing, unit, ◌⊕◌, ◌⊗◌, v0, v1, v2, v3, v4, v5}
use Rattle.stark_support.specs.Powers.{squarings}
use Rattle.stark_support.specs.Extension.{basis_sum}
use Rattle.stark_support.specs.Embedding.{IsEmbedding}
use Rattle.stark_support.specs.TwoAdic.{TwoAdicLaws}
use Rattle.stark_support.specs.Coset.{TwoAdicCoset, IsTwoAdicCoset, AreDisjointCosets}
use Rattle.stark_support.specs.Recomposition.{lagrange_factor, recomposition, recomposition_from}
use Rattle.stark_support.specs.RecompositionFacts.{next_chunk}
use Rattle.stark_support.proofs.Places.{from_place}
use Rattle.stark_protocol.specs.ChunkFactors.{difference_product, node_weight}
use Rattle.stark_protocol.proofs.LagrangeFactors.{weight_times, differences_append}

abbrev pub node_at : {F D : Type 0} → RingOps F → (D → TwoAdicCoset F) → ℕ → D → F
node_at base view k d = squarings base (view d).shift k

-- The product of the differences of zeta ^ (2 ^ k) from the nodes of domains.
abbrev pub apart_from : {F E D : Type 0} → RingOps F → RingOps E → (F → E) → (D → TwoAdicCoset F) → ℕ → E → List D → E
apart_from base ring embed view k zeta domains = difference_product ring (squarings ring zeta k) (map (λ d. embed (node_at base view k d)) domains)

-- What the chunks from place i on give.
abbrev pub given_from : {F E D V : Type 0} → RingOps E → (E → E) → (F → E) → (D → TwoAdicCoset F) → (V → List E) → ℕ → List E → E → List D → List V → ℕ → E
given_from ring inverse embed view values k basis zeta domains chunks i =
    recomposition_from ring ring (λ c. c) inverse (2 ^ k) basis (map (λ d. embed (view d).shift) (take i domains)) (map (λ d. embed (view d).shift) (drop i domains)) (map values (drop i chunks)) zeta

-- Up to place i: the product of the differences, and the sum of the chunks there, without their differences from later nodes and times the weights.
abbrev pub AreSummed : {F E D V : Type 0} → RingOps F → RingOps E → (E → E) → (F → E) → (D → TwoAdicCoset F) → (V → List E) → ℕ → List E → E → List D → List V → ℕ → E → E → F → Type 0
AreSummed base ring inverse embed view values k basis zeta domains chunks i product sum weights =
    (product ≡ apart_from base ring embed view k zeta (take i domains))
    × (ring.add (ring.mul sum (apart_from base ring embed view k zeta (drop i domains))) (ring.mul (embed weights) (given_from ring inverse embed view values k basis zeta domains chunks i))
    ≡ ring.mul (embed weights) (recomposition ring ring (λ c. c) inverse (2 ^ k) basis (map (λ d. embed (view d).shift) domains) (map values chunks) zeta))

module _ {F E D V : Type 0} {base : RingOps F} {base_inverse : F → F} {ring : RingOps E} {inverse : E → E} {embed : F → E} (base_laws : FieldLaws base base_inverse) (laws : FieldLaws ring inverse)
    (embeds : IsEmbedding base ring embed) (view : D → TwoAdicCoset F) (k : ℕ) (domains : List D) (values : V → List E) (chunks : List V) (basis : List E) (zeta : E) where
  abbrev node : D → F
  node = node_at base view k

  abbrev apart : List D → E
  apart = apart_from base ring embed view k zeta

  abbrev rest : ℕ → E
  rest = given_from ring inverse embed view values k basis zeta domains chunks

  abbrev whole : E
  whole = recomposition ring ring (λ c. c) inverse (2 ^ k) basis (map (λ d. embed (view d).shift) domains) (map values chunks) zeta

  abbrev Summed : ℕ → E → E → F → Type 0
  Summed = AreSummed base ring inverse embed view values k basis zeta domains chunks

  pub none_summed : (product sum : E) (weights : F) → product ≡ ring.one → sum ≡ ring.zero → Summed 0 product sum weights
  none_summed product sum weights is_one is_zero = (
    is_one,
    ap (λ t. ring.add (ring.mul t (apart domains)) (ring.mul (embed weights) whole)) is_zero
        ∙ ap (λ t. ring.add t (ring.mul (embed weights) whole)) (zero_mul laws.of_ring (apart domains)) ∙ zero_add laws.of_ring _,
  )

  -- After the last chunk the sum over the weights is the recomposition.
  pub all_summed : (i : ℕ) (product sum result lifted : E) (weights below : F) → length domains ≤ i → weights ≢ base.zero → below ≡ base_inverse weights → lifted ≡ embed below → result ≡ ring.mul sum lifted
      → Summed i product sum weights → result ≡ whole
  all_summed i product sum result lifted weights below ended nonzero is_below is_lifted is_result summed =
      let w = embed weights in
      let summed_up : sum ≡ ring.mul w whole
      = solve laws.of_ring (sum ∷ w ∷ []) v0 (v0 ⊗ unit ⊕ v1 ⊗ nothing) refl
      ∙ ap (λ t. ring.add (ring.mul sum (apart t)) (ring.mul w (recomposition_from ring ring (λ c. c) inverse (2 ^ k) basis (map (λ d. embed (view d).shift) (take i domains)) (map (λ d. embed (view d).shift) t) (map values (drop i chunks)) zeta)))
      (sym (drop_all i domains ended))
      ∙ summed.1 in
      is_result ∙ ap (λ t. ring.mul t lifted) summed_up ∙ ap (ring.mul (ring.mul w whole)) (is_lifted ∙ ap embed is_below)
      ∙ solve laws.of_ring (w ∷ whole ∷ embed (base_inverse weights) ∷ []) (v0 ⊗ v1 ⊗ v2) (v1 ⊗ (v0 ⊗ v2)) refl
      ∙ ap (ring.mul whole) (sym (embeds.keeps.mul weights (base_inverse weights)) ∙ ap embed (base_laws.mul_inverse weights nonzero) ∙ embeds.keeps.one)
      ∙ laws.of_ring.mul_one whole

  module _ (adicity : ℕ) (root : ℕ → F) (generator : F) (two_adic : TwoAdicLaws base adicity root generator) (valid : (d : D) → IsTwoAdicCoset base adicity (view d)) (disjoint : AreDisjointCosets base root k (map view domains))
      (i : ℕ) (d : D) (v : V) (in_domains : i < length domains) (in_chunks : i < length chunks) (read : d ≡ get_or domains i d) (read_chunk : v ≡ get_or chunks i v) where
    factor : List D → E
    factor others = lagrange_factor ring ring (λ c. c) inverse (2 ^ k) (map (λ o. embed (view o).shift) others) (embed (view d).shift) zeta

    both : E
    both = ring.mul (factor (take i domains)) (factor (drop (i + 1) domains))

    rest_next : (value : E) → value ≡ basis_sum ring (λ c. c) basis (values v) → rest i ≡ ring.add (ring.mul both value) (rest (i + 1))
    unfolding both factor
    rest_next value is =
        sym (zero_add laws.of_ring (rest i))
        ∙ sym (next_chunk laws.of_ring inverse (2 ^ k) (λ o. embed (view o).shift) values basis zeta ring.zero (ring.add ring.zero (rest i)) (factor (take i domains)) (factor (drop (i + 1) domains)) value both
        (ring.mul both value) (ring.add ring.zero (ring.mul both value)) (2 ^ k) i domains chunks d v refl in_domains in_chunks read read_chunk refl refl (ap factor (sym (take_rest domains (i + 1)))) is refl refl refl)
        ∙ ap (λ t. ring.add t (rest (i + 1))) (zero_add laws.of_ring (ring.mul both value))

    product_next : (product next : E) → product ≡ apart (take i domains) → next ≡ ring.mul product (difference ring (squarings ring zeta k) (embed (node d))) → next ≡ apart (take (i + 1) domains)
    product_next product next is is_next =
        let y = squarings ring zeta k in
        let lift = λ (o : D). embed (node o) in
        is_next ∙ ap (λ t. ring.mul t (difference ring y (lift d))) is
        ∙ ap (ring.mul (apart (take i domains))) (sym (laws.of_ring.mul_one (difference ring y (lift d))))
        ∙ sym (differences_append laws.of_ring y (map lift (take i domains)) (lift d ∷ []))
        ∙ ap (difference_product ring y) (sym (map-append lift (take i domains) (d ∷ [])) ∙ ap (λ t. map lift (take i domains ++ t ∷ [])) read ∙ ap (map lift) (sym (take_more domains i d in_domains)))

    -- One more chunk: the weights grow by a factor, and the term comes in by a coefficient that times the chunk's weight is the new weights.
    pub one_more_summed : (product sum value next_product next_sum : E) (weights grow coefficient next_weights : F)
        → value ≡ basis_sum ring (λ c. c) basis (values v)
        → next_weights ≡ base.mul weights grow
        → next_weights ≡ base.mul coefficient (node_weight base (map node domains) i)
        → next_product ≡ ring.mul product (difference ring (squarings ring zeta k) (embed (node d)))
        → next_sum ≡ ring.add (ring.mul (ring.mul sum (difference ring (squarings ring zeta k) (embed (node d)))) (embed grow)) (ring.mul (ring.mul product (embed coefficient)) value)
        → Summed i product sum weights → Summed (i + 1) next_product next_sum next_weights
    unfolding both factor
    one_more_summed product sum value next_product next_sum weights grow coefficient next_weights is_value is_grown is_weight is_product is_sum summed =
        let a = difference ring (squarings ring zeta k) (embed (node d)) in
        let before = apart (take i domains) in
        let after = apart (drop (i + 1) domains) in
        let w = embed weights in
        let g = embed grow in
        let u = embed coefficient in
        let next = embed next_weights in
        let weight = embed (node_weight base (map node domains) i) in
        let later = rest (i + 1) in
        let grown : ring.mul w g ≡ next = sym (embeds.keeps.mul weights grow) ∙ ap embed (sym is_grown) in
        let times : ring.mul u weight ≡ next = sym (embeds.keeps.mul coefficient (node_weight base (map node domains) i)) ∙ ap embed (sym is_weight) in
        let split : ring.mul u (ring.mul before after) ≡ ring.mul next both
        = ap (ring.mul u) (sym (weight_times base_laws laws embeds adicity root generator two_adic view valid k domains disjoint i d in_domains read zeta))
        ∙ sym (laws.of_ring.mul_assoc u weight both) ∙ ap (λ t. ring.mul t both) times in
        let here : ring.mul a after ≡ apart (drop i domains) = ap apart (sym (from_place domains i (i + 1) d refl in_domains read)) in (
          product_next product next_product summed.0 is_product,
          ap (λ t. ring.add (ring.mul t after) (ring.mul next later)) (is_sum ∙ ap (λ t. ring.add (ring.mul (ring.mul sum a) g) (ring.mul (ring.mul t u) value)) summed.0)
              ∙ ap (λ t. ring.add t (ring.mul next later)) (solve laws.of_ring (sum ∷ a ∷ g ∷ ring.mul before u ∷ value ∷ after ∷ []) ((v0 ⊗ v1 ⊗ v2 ⊕ v3 ⊗ v4) ⊗ v5) (v2 ⊗ (v0 ⊗ (v1 ⊗ v5)) ⊕ v3 ⊗ v5 ⊗ v4) refl)
              ∙ ap (λ t. ring.add (ring.add (ring.mul g (ring.mul sum (ring.mul a after))) (ring.mul t value)) (ring.mul next later)) (solve laws.of_ring (before ∷ u ∷ after ∷ []) (v0 ⊗ v1 ⊗ v2) (v1 ⊗ (v0 ⊗ v2)) refl ∙ split)
              ∙ ap (λ t. ring.add (ring.add (ring.mul g (ring.mul sum t)) (ring.mul (ring.mul next both) value)) (ring.mul next later)) here
              ∙ solve laws.of_ring (ring.mul g (ring.mul sum (apart (drop i domains))) ∷ next ∷ both ∷ value ∷ later ∷ []) (v0 ⊕ v1 ⊗ v2 ⊗ v3 ⊕ v1 ⊗ v4) (v0 ⊕ v1 ⊗ (v2 ⊗ v3 ⊕ v4)) refl
              ∙ ap (λ t. ring.add (ring.mul g (ring.mul sum (apart (drop i domains)))) (ring.mul next t)) (sym (rest_next value is_value))
              ∙ ap (λ t. ring.add (ring.mul g (ring.mul sum (apart (drop i domains)))) (ring.mul t (rest i))) (sym grown)
              ∙ solve laws.of_ring (g ∷ ring.mul sum (apart (drop i domains)) ∷ w ∷ rest i ∷ []) (v0 ⊗ v1 ⊕ v2 ⊗ v0 ⊗ v3) (v0 ⊗ (v1 ⊕ v2 ⊗ v3)) refl
              ∙ ap (ring.mul g) summed.1
              ∙ solve laws.of_ring (g ∷ w ∷ whole ∷ []) (v0 ⊗ (v1 ⊗ v2)) (v1 ⊗ v0 ⊗ v2) refl
              ∙ ap (λ t. ring.mul t whole) grown,
        )
