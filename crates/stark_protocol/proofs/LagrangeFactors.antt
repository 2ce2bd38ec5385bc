-- A chunk's factor as a quotient of products of differences.
use Rattle.std.proofs.Common.{◌≡◌, ◌≢◌, ◌∙◌, ℕ, zero, suc, Some, ◌+◌, ◌-◌, ◌^◌, ◌<◌, ◌≤◌, List, [], ◌∷◌, ◌++◌, map, length, take, drop, get_or, refl, sym, ap, arith, subst}
use Rattle.std.specs.List.{AllByRecursion, slice_get}
use Rattle.std.proofs.lemmas.List.{map-append, take_rest, take-map, drop_all, drop-map, get_or-map}
use Rattle.std.proofs.lemmas.List.Elements.{recursion_from_All}
use Rattle.std.proofs.lemmas.Option.{same_Some}
use Rattle.std.proofs.lemmas.Simd.{map-map}
use Rattle.stark_support.specs.Ring.{RingOps, RingLaws, FieldLaws, difference}
use Rattle.stark_support.specs.RingFacts.{one_mul, mul_zero}
use Rattle.stark_support.specs.RingSolver.{solve, ◌⊖◌, ◌⊗◌, v0, v1, v2, v3}
use Rattle.stark_support.specs.FieldFacts.{nonzero_product}
use Rattle.stark_support.specs.KeepsRing.{KeepsRing, kept_difference}
use Rattle.stark_support.specs.Powers.{power, squarings}
use Rattle.stark_support.specs.PowerFacts.{power-mul, power-one, squarings_is_power}
use Rattle.stark_support.specs.LogarithmFacts.{same_exponent}
use Rattle.stark_support.specs.Recomposition.{common_log_size, lagrange_factor}
use Rattle.stark_support.specs.Embedding.{IsEmbedding, embedded_squarings}
use Rattle.stark_support.specs.TwoAdic.{TwoAdicLaws}
use Rattle.stark_support.specs.Coset.{TwoAdicCoset, IsTwoAdicCoset, AreDisjoint, AreDisjointCosets, coset_size, coset_vanishing}
use Rattle.stark_support.specs.CosetListFacts.{size_of_one, sizes_before, sizes_after, disjoint_before, disjoint_after}
use Rattle.stark_support.specs.SubgroupFacts.{embedded_nonzero}
use Rattle.stark_support.specs.RecompositionFacts.{factor_append, vanishing_apart}
use Rattle.stark_support.specs.PointFacts.{all_mapped}
use Rattle.stark_support.proofs.Places.{from_place}
use Rattle.stark_protocol.specs.ChunkFactors.{difference_product, node_weight}

module _ {K : Type 0} {ring : RingOps K} {inverse : K → K} (laws : FieldLaws ring inverse) (n : ℕ) where
  -- (x / o) ^ n - 1 is x ^ n - o ^ n over o ^ n
  vanishing_is : (o x : K) → o ≢ ring.zero → coset_vanishing ring (λ c. c) inverse n o x ≡ ring.mul (power ring (inverse o) n) (difference ring (power ring x n) (power ring o n))
  vanishing_is o x nonzero =
      let below = power ring (inverse o) n in
      let one : ring.mul (power ring o n) below ≡ ring.one = sym (power-mul laws.of_ring o (inverse o) n) ∙ ap (λ t. power ring t n) (laws.mul_inverse o nonzero) ∙ power-one laws.of_ring n in
      ap (λ t. difference ring t ring.one) (power-mul laws.of_ring x (inverse o) n)
      ∙ ap (λ t. difference ring (ring.mul (power ring x n) below) t) (sym one)
      ∙ solve laws.of_ring (power ring x n ∷ below ∷ power ring o n ∷ []) (v0 ⊗ v1 ⊖ v2 ⊗ v1) (v1 ⊗ (v0 ⊖ v2)) refl

  one_factor : (o s x : K) → o ≢ ring.zero → coset_vanishing ring (λ c. c) inverse n o s ≢ ring.zero
      → ring.mul (difference ring (power ring s n) (power ring o n)) (ring.mul (coset_vanishing ring (λ c. c) inverse n o x) (inverse (coset_vanishing ring (λ c. c) inverse n o s))) ≡ difference ring (power ring x n) (power ring o n)
  one_factor o s x nonzero apart =
      let below = power ring (inverse o) n in
      let at = λ (y : K). difference ring (power ring y n) (power ring o n) in
      let z = coset_vanishing ring (λ c. c) inverse n o s in
      ap (λ t. ring.mul (at s) (ring.mul t (inverse z))) (vanishing_is o x nonzero)
      ∙ solve laws.of_ring (at s ∷ below ∷ at x ∷ inverse z ∷ []) (v0 ⊗ (v1 ⊗ v2 ⊗ v3)) (v2 ⊗ (v1 ⊗ v0 ⊗ v3)) refl
      ∙ ap (λ t. ring.mul (at x) (ring.mul t (inverse z))) (sym (vanishing_is o s nonzero))
      ∙ ap (ring.mul (at x)) (laws.mul_inverse z apart) ∙ laws.of_ring.mul_one (at x)

  difference_nonzero : (o s : K) → o ≢ ring.zero → coset_vanishing ring (λ c. c) inverse n o s ≢ ring.zero → difference ring (power ring s n) (power ring o n) ≢ ring.zero
  difference_nonzero o s nonzero apart e = apart (vanishing_is o s nonzero ∙ ap (ring.mul (power ring (inverse o) n)) e ∙ mul_zero laws.of_ring _)

  module _ (s : K) where
    -- A coset whose vanishing value at s isn't zero.
    abbrev pub IsApart : K → Type 0
    IsApart o = (o ≢ ring.zero) × (coset_vanishing ring (λ c. c) inverse n o s ≢ ring.zero)

    -- the product at s times the factor is the product at x
    pub factor_times : (os : List K) (x : K) → AllByRecursion IsApart os
        → ring.mul (difference_product ring (power ring s n) (map (λ o. power ring o n) os)) (lagrange_factor ring ring (λ c. c) inverse n os s x) ≡ difference_product ring (power ring x n) (map (λ o. power ring o n) os)
    factor_times [] x apart = laws.of_ring.mul_one ring.one
    factor_times (o ∷ os) x apart =
        let at = λ (y : K). difference ring (power ring y n) (power ring o n) in
        let rest = λ (y : K). difference_product ring (power ring y n) (map (λ o. power ring o n) os) in
        let factor = ring.mul (coset_vanishing ring (λ c. c) inverse n o x) (inverse (coset_vanishing ring (λ c. c) inverse n o s)) in
        solve laws.of_ring (at s ∷ rest s ∷ factor ∷ lagrange_factor ring ring (λ c. c) inverse n os s x ∷ []) (v0 ⊗ v1 ⊗ (v2 ⊗ v3)) (v0 ⊗ v2 ⊗ (v1 ⊗ v3)) refl
        ∙ ap (λ t. ring.mul t (ring.mul (rest s) (lagrange_factor ring ring (λ c. c) inverse n os s x))) (one_factor o s x apart.0.0 apart.0.1)
        ∙ ap (ring.mul (at x)) (factor_times os x apart.1)

    pub differences_nonzero : (os : List K) → AllByRecursion IsApart os → difference_product ring (power ring s n) (map (λ o. power ring o n) os) ≢ ring.zero
    differences_nonzero [] apart = laws.one_not_zero
    differences_nonzero (o ∷ os) apart = nonzero_product laws _ _ (difference_nonzero o s apart.0.0 apart.0.1) (differences_nonzero os apart.1)

module _ {K : Type 0} {ring : RingOps K} (laws : RingLaws ring) where
  pub differences_append : (x : K) (us vs : List K) → difference_product ring x (us ++ vs) ≡ ring.mul (difference_product ring x us) (difference_product ring x vs)
  differences_append x [] vs = sym (one_mul laws _)
  differences_append x (a ∷ us) vs = ap (ring.mul (difference ring x a)) (differences_append x us vs) ∙ sym (laws.mul_assoc _ _ _)

module _ {F E : Type 0} {base : RingOps F} {ring : RingOps E} {embed : F → E} (keeps : KeepsRing base ring embed) where
  pub differences_kept : (x : F) (us : List F) → embed (difference_product base x us) ≡ difference_product ring (embed x) (map embed us)
  differences_kept x [] = keeps.one
  differences_kept x (a ∷ us) =
      keeps.mul (difference base x a) (difference_product base x us)
      ∙ ap (λ t. ring.mul t (embed (difference_product base x us))) (kept_difference keeps x a (embed x) (embed a) refl refl)
      ∙ ap (ring.mul (difference ring (embed x) (embed a))) (differences_kept x us)

-- ---- over the domains of chunks

module _ {K D : Type 0} {ring : RingOps K} (laws : RingLaws ring) (x : K) (element : D → K) (domains : List D) where
  pub one_more_difference : (done apart next whole : K) (i : ℕ) (d : D) → i < length domains → d ≡ get_or domains i d → apart ≡ difference ring x (element d) → next ≡ ring.mul done apart
      → ring.mul done (difference_product ring x (map element (drop i domains))) ≡ whole → ring.mul next (difference_product ring x (map element (drop (i + 1) domains))) ≡ whole
  one_more_difference done apart next whole i d within read is_apart is_next so_far =
      let rest = difference_product ring x (map element (drop (i + 1) domains)) in
      ap (λ t. ring.mul t rest) (is_next ∙ ap (ring.mul done) is_apart) ∙ laws.mul_assoc done (difference ring x (element d)) rest
      ∙ ap (λ t. ring.mul done (difference_product ring x (map element t))) (sym (from_place domains i (i + 1) d refl within read)) ∙ so_far

  pub all_differences : (done whole : K) (i : ℕ) → length domains ≤ i → ring.mul done (difference_product ring x (map element (drop i domains))) ≡ whole → done ≡ whole
  all_differences done whole i ended so_far =
      sym (laws.mul_one done) ∙ ap (λ t. ring.mul done (difference_product ring x (map element t))) (sym (drop_all i domains ended)) ∙ so_far

-- what stands at a place
pub element_at : {A : Type 0} (xs : List A) (i : ℕ) → i < length xs → (x : A) × (x ≡ get_or xs i x)
element_at [] i h = absurd (omega arith)
element_at (x ∷ xs) zero h = (x, refl)
element_at (x ∷ xs) (suc i) h = element_at xs i (omega arith)

-- the logarithm of the size of the first of some cosets
pub first_log_size : {F D : Type 0} (view : D → TwoAdicCoset F) (domains : List D) (d : D) (r : ℕ) → slice_get domains 0 ≡ Some d → 2 ^ r ≡ coset_size (view d) → r ≡ common_log_size (map view domains)
first_log_size view [] d r e h = absurd (cc)
first_log_size view (o ∷ os) d r e h = same_exponent r (view d).log_size h ∙ ap (λ x. (view x).log_size) (sym (same_Some o d e))

-- the node of one of some domains
pub node_is : {K D : Type 0} (node : D → K) (domains : List D) (i : ℕ) (d : D) (none : K) → i < length domains → d ≡ get_or domains i d → get_or (map node domains) i none ≡ node d
node_is node domains i d none within read = get_or-map node domains i d none within ∙ ap node (sym read)

-- the weight that is computed
pub weight_computed : {K D : Type 0} {ring : RingOps K} (laws : RingLaws ring) (node : D → K) (domains : List D) (i : ℕ) (d : D) (here before after result : K) → i < length domains → d ≡ get_or domains i d → here ≡ node d
    → before ≡ difference_product ring here (map node (take i domains)) → after ≡ difference_product ring here (map node (take (length domains - (i + 1)) (drop (i + 1) domains))) → result ≡ ring.mul before after
    → result ≡ node_weight ring (map node domains) i
weight_computed {ring = ring} laws node domains i d here before after result within read is_here is_before is_after is =
    is ∙ ap (λ t. ring.mul t after) is_before
    ∙ ap (ring.mul (difference_product ring here (map node (take i domains)))) (is_after ∙ ap (λ t. difference_product ring here (map node t)) (take_rest domains (i + 1)))
    ∙ sym (differences_append laws here (map node (take i domains)) (map node (drop (i + 1) domains)))
    ∙ ap (λ x. difference_product ring x (map node (take i domains) ++ map node (drop (i + 1) domains))) (is_here ∙ sym (node_is node domains i d ring.zero within read))
    ∙ ap (λ t. difference_product ring (get_or (map node domains) i ring.zero) (t ++ map node (drop (i + 1) domains))) (sym (take-map node i domains))
    ∙ ap (λ t. difference_product ring (get_or (map node domains) i ring.zero) (take i (map node domains) ++ t)) (sym (drop-map node (i + 1) domains))

both_hold : {A : Type 0} (P : A → Type 0) (xs ys : List A) → AllByRecursion P xs → AllByRecursion P ys → AllByRecursion P (xs ++ ys)
both_hold P [] ys h k = k
both_hold P (x ∷ xs) ys h k = (h.0, both_hold P xs ys h.1 k)

module _ {F E D : Type 0} {base : RingOps F} {base_inverse : F → F} {ring : RingOps E} {inverse : E → E} {embed : F → E} (base_laws : FieldLaws base base_inverse) (laws : FieldLaws ring inverse)
    (embeds : IsEmbedding base ring embed) (adicity : ℕ) (root : ℕ → F) (generator : F) (two_adic : TwoAdicLaws base adicity root generator)
    (view : D → TwoAdicCoset F) (valid : (d : D) → IsTwoAdicCoset base adicity (view d)) (k : ℕ) (domains : List D) (disjoint : AreDisjointCosets base root k (map view domains))
    (i : ℕ) (d : D) (within : i < length domains) (read : d ≡ get_or domains i d) where
  abbrev pub n : ℕ
  n = 2 ^ k

  abbrev pub shift : D → E
  shift o = embed (view o).shift

  abbrev pub node : D → F
  node o = squarings base (view o).shift k

  abbrev pub raised : E → E
  raised o = power ring o n

  abbrev pub others : List D
  others = take i domains ++ drop (i + 1) domains

  node_above : (o : D) → embed (node o) ≡ raised (shift o)
  node_above o = embedded_squarings embeds (view o).shift k ∙ squarings_is_power laws.of_ring (shift o) k

  nodes_above : (os : List D) → map (λ o. embed (node o)) os ≡ map raised (map shift os)
  nodes_above [] = refl
  nodes_above (o ∷ os) = ap (λ t. t ∷ map (λ o. embed (node o)) os) (node_above o) ∙ ap (λ t. raised (shift o) ∷ t) (nodes_above os)

  apart_one : (o : D) → (view o).log_size ≡ (view d).log_size → AreDisjoint base root (view d) (view o) → IsApart laws n (shift d) (shift o)
  apart_one o same h =
      let size : coset_size (view o) ≡ n = ap (λ (m : ℕ). 2 ^ m) (same ∙ size_of_one view k domains disjoint i d within read) in (
        embedded_nonzero laws embeds adicity root generator two_adic (view o).shift (valid o).shift_nonzero,
        vanishing_apart laws embeds base_laws.of_ring adicity root generator two_adic (view d) (view o) (shift d) (coset_vanishing ring (λ c. c) inverse n (shift o) (shift d)) (valid o) h refl
            (ap (λ m. coset_vanishing ring (λ c. c) inverse m (shift o) (shift d)) (sym size)),
      )

  all_apart : AllByRecursion (IsApart laws n (shift d)) (map shift others)
  all_apart =
      let P : D → Type 0 = λ o. IsApart laws n (shift d) (shift o) in
      let rest : take (length domains - (i + 1)) (drop (i + 1) domains) ≡ drop (i + 1) domains = take_rest domains (i + 1) in
      all_mapped shift (IsApart laws n (shift d)) others
      (both_hold P (take i domains) (drop (i + 1) domains)
      (recursion_from_All P (take i domains) (λ j o h. apart_one _ (sizes_before view k domains disjoint i d within read j o h) (disjoint_before view k domains disjoint i d within read j o h)))
      (subst (AllByRecursion P) rest (recursion_from_All P (take (length domains - (i + 1)) (drop (i + 1) domains))
      (λ j o h. apart_one _ (sizes_after view k domains disjoint i d within read (length domains - (i + 1)) j o h) (disjoint_after view k domains disjoint i d within read (length domains - (i + 1)) j o h)))))

  weights_above : embed (node_weight base (map node domains) i) ≡ difference_product ring (raised (shift d)) (map raised (map shift others))
  weights_above =
      differences_kept embeds.keeps (get_or (map node domains) i base.zero) (take i (map node domains) ++ drop (i + 1) (map node domains))
      ∙ ap (λ x. difference_product ring (embed x) (map embed (take i (map node domains) ++ drop (i + 1) (map node domains)))) (node_is node domains i d base.zero within read)
      ∙ ap (λ x. difference_product ring x (map embed (take i (map node domains) ++ drop (i + 1) (map node domains)))) (node_above d)
      ∙ ap (λ t. difference_product ring (raised (shift d)) (map embed (t ++ drop (i + 1) (map node domains)))) (take-map node i domains)
      ∙ ap (λ t. difference_product ring (raised (shift d)) (map embed (map node (take i domains) ++ t))) (drop-map node (i + 1) domains)
      ∙ ap (λ t. difference_product ring (raised (shift d)) (map embed t)) (sym (map-append node (take i domains) (drop (i + 1) domains)))
      ∙ ap (difference_product ring (raised (shift d))) (map-map embed node others ∙ nodes_above others)

  -- a weight isn't zero
  pub weight_nonzero : node_weight base (map node domains) i ≢ base.zero
  weight_nonzero e = differences_nonzero laws n (shift d) (map shift others) all_apart (sym weights_above ∙ ap embed e ∙ embeds.keeps.zero)

  -- the weight times the factor is the product of the differences at zeta
  pub weight_times : (zeta : E) → ring.mul (embed (node_weight base (map node domains) i))
      (ring.mul (lagrange_factor ring ring (λ c. c) inverse n (map shift (take i domains)) (shift d) zeta) (lagrange_factor ring ring (λ c. c) inverse n (map shift (drop (i + 1) domains)) (shift d) zeta))
      ≡ ring.mul (difference_product ring (squarings ring zeta k) (map (λ o. embed (node o)) (take i domains))) (difference_product ring (squarings ring zeta k) (map (λ o. embed (node o)) (drop (i + 1) domains)))
  weight_times zeta =
      let before = take i domains in
      let after = drop (i + 1) domains in
      ap (ring.mul (embed (node_weight base (map node domains) i))) (sym (factor_append laws.of_ring inverse n (map shift before) (map shift after) (shift d) zeta)
      ∙ ap (λ t. lagrange_factor ring ring (λ c. c) inverse n t (shift d) zeta) (sym (map-append shift before after)))
      ∙ ap (λ t. ring.mul t (lagrange_factor ring ring (λ c. c) inverse n (map shift others) (shift d) zeta)) weights_above
      ∙ factor_times laws n (shift d) (map shift others) zeta all_apart
      ∙ ap (difference_product ring (raised zeta)) (sym (nodes_above others) ∙ map-append (λ o. embed (node o)) before after)
      ∙ ap (λ x. difference_product ring x (map (λ o. embed (node o)) before ++ map (λ o. embed (node o)) after)) (sym (squarings_is_power laws.of_ring zeta k))
      ∙ differences_append laws.of_ring (squarings ring zeta k) (map (λ o. embed (node o)) before) (map (λ o. embed (node o)) after)
