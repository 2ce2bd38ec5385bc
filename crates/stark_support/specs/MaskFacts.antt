-- Masks that are multiples of the parts' own vanishing polynomials cancel in a recomposition.
use Rattle.std.specs.Prelude.{◌≡◌, ℕ, suc, ◌-◌, ◌^◌, ◌<◌, Bool, List, [], ◌∷◌, ◌++◌, map, length, get_or, refl}
use Rattle.std.specs.List.{AllByRecursion}
use Rattle.std.proofs.Common.{sym, ap, ◌∙◌, arith}
use Rattle.std.proofs.Math.ListN.{get_or-map}
use Rattle.std.proofs.lemmas.Option.{slice_get-get_or}
use Rattle.std.proofs.lemmas.List.Elements.{recursion_from_All}
use Rattle.stark_support.specs.Ring.{RingOps, RingLaws}
use Rattle.stark_support.specs.RingFacts.{one_mul}
use Rattle.stark_support.specs.RingSolver.{solve, variable, nothing, unit, ◌⊕◌, ◌⊗◌, v0, v1, v2, v3, v4, v5}
use Rattle.stark_support.specs.Coset.{TwoAdicCoset, coset_size, coset_vanishing}
use Rattle.stark_support.specs.Extension.{basis_sum}
use Rattle.stark_support.specs.Polynomial.{value_over}
use Rattle.stark_support.specs.Recomposition.{lagrange_factor, lagrange_weight, weighted_sum_from, weighted_sum, recomposition_from, recomposition}
use Rattle.stark_support.specs.Scheme.{QuotientChunk, AreQuotientChunks, row_at}

module _ {K : Type 0} {ring : RingOps K} (laws : RingLaws ring) (inverse : K → K) (n : ℕ) where
  module _ (x : K) where
    abbrev vanishing_product : List K → K
    vanishing_product [] = ring.one
    vanishing_product (o ∷ others) = ring.mul (coset_vanishing ring (λ c. c) inverse n o x) (vanishing_product others)

    product_of_append : (xs ys : List K) → vanishing_product (xs ++ ys) ≡ ring.mul (vanishing_product xs) (vanishing_product ys)
    product_of_append [] ys = sym (one_mul laws _)
    product_of_append (o ∷ xs) ys = ap (ring.mul _) (product_of_append xs ys) ∙ sym (laws.mul_assoc _ _ _)

    pub factor_and_weight : (others : List K) (s : K) → lagrange_factor ring ring (λ c. c) inverse n others s x ≡ ring.mul (vanishing_product others) (lagrange_weight ring inverse n others s)
    factor_and_weight [] s = sym (laws.mul_one ring.one)
    factor_and_weight (o ∷ others) s =
        let z = coset_vanishing ring (λ c. c) inverse n o x in
        let w = inverse (coset_vanishing ring (λ c. c) inverse n o s) in
        ap (ring.mul (ring.mul z w)) (factor_and_weight others s) ∙
        solve laws (z ∷ w ∷ vanishing_product others ∷ lagrange_weight ring inverse n others s ∷ []) (v0 ⊗ v1 ⊗ (v2 ⊗ v3)) (v0 ⊗ v2 ⊗ (v1 ⊗ v3)) refl

    module _ {D : Type 0} (shift : D → K) (plain masked : D → List K) (mask : D → K) (basis : List K) where
      -- The masked value is the plain one and the mask's times the vanishing value of the own coset.
      abbrev AddsMask : D → Type 0
      AddsMask d = basis_sum ring (λ c. c) basis (masked d)
          ≡ ring.add (basis_sum ring (λ c. c) basis (plain d)) (ring.mul (coset_vanishing ring (λ c. c) inverse n (shift d) x) (mask d))

      masked_from : (before : List K) (ds : List D) → AllByRecursion AddsMask ds
          → recomposition_from ring ring (λ c. c) inverse n basis before (map shift ds) (map masked ds) x
          ≡ ring.add (recomposition_from ring ring (λ c. c) inverse n basis before (map shift ds) (map plain ds) x)
          (ring.mul (ring.mul (vanishing_product before) (vanishing_product (map shift ds))) (weighted_sum_from ring inverse n before (map shift ds) (map mask ds)))
      masked_from before [] h = solve laws (vanishing_product before ∷ []) nothing (nothing ⊕ v0 ⊗ unit ⊗ nothing) refl
      masked_from before (d ∷ ds) h =
          let s = shift d in
          let after = map shift ds in
          let m = mask d in
          let z = coset_vanishing ring (λ c. c) inverse n s x in
          let b = basis_sum ring (λ c. c) basis (plain d) in
          let l = lagrange_factor ring ring (λ c. c) inverse n (before ++ after) s x in
          let w = lagrange_weight ring inverse n (before ++ after) s in
          let rest = recomposition_from ring ring (λ c. c) inverse n basis (before ++ (s ∷ [])) after (map plain ds) x in
          let sum = weighted_sum_from ring inverse n (before ++ (s ∷ [])) after (map mask ds) in
          let factor : l ≡ ring.mul (ring.mul (vanishing_product before) (vanishing_product after)) w
          = factor_and_weight (before ++ after) s ∙ ap (λ u. ring.mul u w) (product_of_append before after) in
          ap (λ u. ring.add (ring.mul l u) (recomposition_from ring ring (λ c. c) inverse n basis (before ++ (s ∷ [])) after (map masked ds) x)) h.0 ∙
          ap (ring.add (ring.mul l (ring.add b (ring.mul z m)))) (masked_from (before ++ (s ∷ [])) ds h.1) ∙
          ap (λ u. ring.add (ring.mul l (ring.add b (ring.mul z m))) (ring.add rest (ring.mul (ring.mul u (vanishing_product after)) sum))) (product_of_append before (s ∷ [])) ∙
          solve laws (l ∷ b ∷ z ∷ m ∷ rest ∷ vanishing_product before ∷ vanishing_product after ∷ sum ∷ [])
          (v0 ⊗ (v1 ⊕ v2 ⊗ v3) ⊕ (v4 ⊕ v5 ⊗ (v2 ⊗ unit) ⊗ variable 6 ⊗ variable 7))
          (v0 ⊗ v1 ⊕ v4 ⊕ (v0 ⊗ (v2 ⊗ v3) ⊕ v5 ⊗ (v2 ⊗ variable 6) ⊗ variable 7)) refl ∙
          ap (λ u. ring.add (ring.add (ring.mul l b) rest) (ring.add (ring.mul u (ring.mul z m)) (ring.mul (ring.mul (vanishing_product before) (ring.mul z (vanishing_product after))) sum))) factor ∙
          ap (ring.add (ring.add (ring.mul l b) rest))
          (solve laws (w ∷ z ∷ m ∷ vanishing_product before ∷ vanishing_product after ∷ sum ∷ [])
          (v3 ⊗ v4 ⊗ v0 ⊗ (v1 ⊗ v2) ⊕ v3 ⊗ (v1 ⊗ v4) ⊗ v5)
          (v3 ⊗ (v1 ⊗ v4) ⊗ (v0 ⊗ v2 ⊕ v5)) refl)

      -- Masks whose weighted sum is zero leave the recomposition.
      pub masks_cancel : (ds : List D) → AllByRecursion AddsMask ds → weighted_sum ring inverse n (map shift ds) (map mask ds) ≡ ring.zero
          → recomposition ring ring (λ c. c) inverse n basis (map shift ds) (map masked ds) x ≡ recomposition ring ring (λ c. c) inverse n basis (map shift ds) (map plain ds) x
      masks_cancel ds h cancel =
          masked_from [] ds h ∙
          ap (λ u. ring.add (recomposition ring ring (λ c. c) inverse n basis (map shift ds) (map plain ds) x) (ring.mul (ring.mul ring.one (vanishing_product (map shift ds))) u)) cancel ∙
          solve laws (recomposition ring ring (λ c. c) inverse n basis (map shift ds) (map plain ds) x ∷ vanishing_product (map shift ds) ∷ []) (v0 ⊕ unit ⊗ v1 ⊗ nothing) v0 refl

  abbrev tail : List K → List K
  tail [] = []
  tail (v ∷ vs) = vs

  empty_sum : (basis : List K) → basis_sum ring (λ c. c) basis [] ≡ ring.zero
  empty_sum [] = refl
  empty_sum (e ∷ basis) = refl

  head_and_tail : (e : K) (basis vs : List K) → basis_sum ring (λ c. c) (e ∷ basis) vs ≡ ring.add (ring.mul e (get_or vs 0 ring.zero)) (basis_sum ring (λ c. c) basis (tail vs))
  head_and_tail e basis [] = solve laws (e ∷ []) nothing (v0 ⊗ nothing ⊕ nothing) refl ∙ ap (ring.add (ring.mul e ring.zero)) (sym (empty_sum basis))
  head_and_tail e basis (v ∷ vs) = refl

  value_of_tail : (vs : List K) (i : ℕ) → get_or (tail vs) i ring.zero ≡ get_or vs (suc i) ring.zero
  value_of_tail [] i = refl
  value_of_tail (v ∷ vs) i = refl

  module _ {D : Type 0} where
    linear_sum : (e : K) (basis : List K) (f : D → List K) (before shifts : List K) (ds : List D)
        → weighted_sum_from ring inverse n before shifts (map (λ d. basis_sum ring (λ c. c) (e ∷ basis) (f d)) ds)
        ≡ ring.add (ring.mul e (weighted_sum_from ring inverse n before shifts (map (λ d. get_or (f d) 0 ring.zero) ds))) (weighted_sum_from ring inverse n before shifts (map (λ d. basis_sum ring (λ c. c) basis (tail (f d))) ds))
    linear_sum e basis f before [] ds = solve laws (e ∷ []) nothing (v0 ⊗ nothing ⊕ nothing) refl
    linear_sum e basis f before (s ∷ shifts) [] = solve laws (e ∷ []) nothing (v0 ⊗ nothing ⊕ nothing) refl
    linear_sum e basis f before (s ∷ shifts) (d ∷ ds) =
        let w = lagrange_weight ring inverse n (before ++ shifts) s in
        let first = get_or (f d) 0 ring.zero in
        let later = basis_sum ring (λ c. c) basis (tail (f d)) in
        let a = weighted_sum_from ring inverse n (before ++ (s ∷ [])) shifts (map (λ d. get_or (f d) 0 ring.zero) ds) in
        let b = weighted_sum_from ring inverse n (before ++ (s ∷ [])) shifts (map (λ d. basis_sum ring (λ c. c) basis (tail (f d))) ds) in
        ap (λ u. ring.add (ring.mul w u) (weighted_sum_from ring inverse n (before ++ (s ∷ [])) shifts (map (λ d. basis_sum ring (λ c. c) (e ∷ basis) (f d)) ds))) (head_and_tail e basis (f d)) ∙
        ap (ring.add (ring.mul w (ring.add (ring.mul e first) later))) (linear_sum e basis f (before ++ (s ∷ [])) shifts ds) ∙
        solve laws (w ∷ e ∷ first ∷ later ∷ a ∷ b ∷ []) (v0 ⊗ (v1 ⊗ v2 ⊕ v3) ⊕ (v1 ⊗ v4 ⊕ v5)) (v1 ⊗ (v0 ⊗ v2 ⊕ v4) ⊕ (v0 ⊗ v3 ⊕ v5)) refl

    values_of_tails : (i : ℕ) (f : D → List K) (ds : List D) → map (λ d. get_or (tail (f d)) i ring.zero) ds ≡ map (λ d. get_or (f d) (suc i) ring.zero) ds
    values_of_tails i f [] = refl
    values_of_tails i f (d ∷ ds) = ap (λ w. w ∷ map (λ d. get_or (tail (f d)) i ring.zero) ds) (value_of_tail (f d) i) ∙ ap (λ ws. get_or (f d) (suc i) ring.zero ∷ ws) (values_of_tails i f ds)

    no_vectors : (f : D → List K) (before shifts : List K) (ds : List D) → weighted_sum_from ring inverse n before shifts (map (λ d. basis_sum ring (λ c. c) [] (f d)) ds) ≡ ring.zero
    no_vectors f before [] ds = refl
    no_vectors f before (s ∷ shifts) [] = refl
    no_vectors f before (s ∷ shifts) (d ∷ ds) =
        ap (ring.add (ring.mul (lagrange_weight ring inverse n (before ++ shifts) s) ring.zero)) (no_vectors f (before ++ (s ∷ [])) shifts ds) ∙
        solve laws (lagrange_weight ring inverse n (before ++ shifts) s ∷ []) (v0 ⊗ nothing ⊕ nothing) nothing refl

    -- Sums that are zero in each coordinate are zero.
    pub zero_by_coordinates : (basis : List K) (f : D → List K) (before shifts : List K) (ds : List D)
        → ((i : ℕ) → i < length basis → weighted_sum_from ring inverse n before shifts (map (λ d. get_or (f d) i ring.zero) ds) ≡ ring.zero)
        → weighted_sum_from ring inverse n before shifts (map (λ d. basis_sum ring (λ c. c) basis (f d)) ds) ≡ ring.zero
    zero_by_coordinates [] f before shifts ds h = no_vectors f before shifts ds
    zero_by_coordinates (e ∷ basis) f before shifts ds h =
        linear_sum e basis f before shifts ds ∙
        ap (λ w. ring.add (ring.mul e w) (weighted_sum_from ring inverse n before shifts (map (λ d. basis_sum ring (λ c. c) basis (tail (f d))) ds))) (h 0 (omega arith)) ∙
        ap (ring.add (ring.mul e ring.zero))
        (zero_by_coordinates basis (λ d. tail (f d)) before shifts ds (λ i below. ap (weighted_sum_from ring inverse n before shifts) (values_of_tails i f ds) ∙ h (suc i) (omega arith))) ∙
        solve laws (e ∷ []) (v0 ⊗ nothing ⊕ nothing) nothing refl

  -- One multiple of masks in each coordinate is the multiple of the masks' sum.
  pub sum_of_masked : {A C : Type 0} (v : A → K) (p m q : C → A) (z : K) (basis : List K) (cs : List C) → AllByRecursion (λ c. v (q c) ≡ ring.add (v (p c)) (ring.mul (v (m c)) z)) cs
      → basis_sum ring (λ c. c) basis (map v (map q cs)) ≡ ring.add (basis_sum ring (λ c. c) basis (map v (map p cs))) (ring.mul z (basis_sum ring (λ c. c) basis (map v (map m cs))))
  sum_of_masked v p m q z [] cs h = solve laws (z ∷ []) nothing (nothing ⊕ v0 ⊗ nothing) refl
  sum_of_masked v p m q z (e ∷ basis) [] h = solve laws (z ∷ []) nothing (nothing ⊕ v0 ⊗ nothing) refl
  sum_of_masked v p m q z (e ∷ basis) (c ∷ cs) h =
      let b = basis_sum ring (λ c. c) basis (map v (map p cs)) in
      let d = basis_sum ring (λ c. c) basis (map v (map m cs)) in
      ap (λ w. ring.add (ring.mul e w) (basis_sum ring (λ c. c) basis (map v (map q cs)))) h.0 ∙
      ap (ring.add (ring.mul e (ring.add (v (p c)) (ring.mul (v (m c)) z)))) (sum_of_masked v p m q z basis cs h.1) ∙
      solve laws (e ∷ v (p c) ∷ z ∷ v (m c) ∷ b ∷ d ∷ []) (v0 ⊗ (v1 ⊕ v3 ⊗ v2) ⊕ (v4 ⊕ v2 ⊗ v5)) (v0 ⊗ v1 ⊕ v4 ⊕ v2 ⊗ (v0 ⊗ v3 ⊕ v5)) refl

-- The place of a mapped list, where what is past the end is mapped to what is past the end.
places_mapped : {A D K : Type 0} (v : A → K) (f : D → List A) (i : ℕ) (none : A) (ds : List D) → map (λ d. get_or (map v (f d)) i (v none)) ds ≡ map (λ d. v (get_or (f d) i none)) ds
places_mapped v f i none [] = refl
places_mapped v f i none (d ∷ ds) =
    ap (λ w. w ∷ map (λ d. get_or (map v (f d)) i (v none)) ds) (get_or-map v (f d) i none) ∙ ap (λ ws. v (get_or (f d) i none) ∷ ws) (places_mapped v f i none ds)

-- What a quotient's chunks recompose to isn't changed by their masks.
pub quotient_unmasked : {F E : Type 0} (field : RingOps F) (root : ℕ → F) (extension : RingOps E) (inverse : E → E) (embed : F → E) (is_zk : Bool) (coset : TwoAdicCoset F) (log_parts width : ℕ) (row : ℕ → List F)
    (chunks : List (QuotientChunk F)) → RingLaws extension → AreQuotientChunks field root extension inverse embed is_zk coset log_parts width row chunks → (basis : List E) → length basis ≡ width → (x : E)
    → recomposition extension extension (λ c. c) inverse (2 ^ (coset.log_size - log_parts)) basis (map (λ q. embed q.part.shift) chunks) (map (λ q. row_at extension embed (map (λ m. m.column) q.columns) x) chunks) x
    ≡ recomposition extension extension (λ c. c) inverse (2 ^ (coset.log_size - log_parts)) basis (map (λ q. embed q.part.shift) chunks) (map (λ q. row_at extension embed (map (λ m. m.plain) q.columns) x) chunks) x
quotient_unmasked {F} {E} field root extension inverse embed is_zk coset log_parts width row chunks laws are basis wide x =
    let n = 2 ^ (coset.log_size - log_parts) in
    let v : List F → E = λ p. value_over extension embed p x in
    masks_cancel laws inverse n x (λ q. embed q.part.shift) (λ q. row_at extension embed (map (λ m. m.plain) q.columns) x) (λ q. row_at extension embed (map (λ m. m.column) q.columns) x)
    (λ q. basis_sum extension (λ c. c) basis (map v (map (λ m. m.mask) q.columns))) basis chunks
    (recursion_from_All (λ q. basis_sum extension (λ c. c) basis (map v (map (λ m. m.column) q.columns))
    ≡ extension.add (basis_sum extension (λ c. c) basis (map v (map (λ m. m.plain) q.columns)))
    (extension.mul (coset_vanishing extension (λ c. c) inverse n (embed q.part.shift) x) (basis_sum extension (λ c. c) basis (map v (map (λ m. m.mask) q.columns)))))
    chunks
    (λ i d below.
    let q = get_or chunks i d in
    let is = are.chunk i q (slice_get-get_or chunks i d below) in
    sum_of_masked laws inverse n v (λ m. m.plain) (λ m. m.mask) (λ m. m.column) (coset_vanishing extension (λ c. c) inverse (coset_size q.part) (embed q.part.shift) x) basis q.columns
    (recursion_from_All (λ m. v m.column ≡ extension.add (v m.plain) (extension.mul (v m.mask) (coset_vanishing extension (λ c. c) inverse (coset_size q.part) (embed q.part.shift) x))) q.columns
    (λ j m within. (is.masked j m within).sum x)) ∙
    ap (λ (k : ℕ). extension.add (basis_sum extension (λ c. c) basis (map v (map (λ m. m.plain) q.columns)))
    (extension.mul (coset_vanishing extension (λ c. c) inverse (2 ^ k) (embed q.part.shift) x) (basis_sum extension (λ c. c) basis (map v (map (λ m. m.mask) q.columns)))))
    (ap (λ part. part.log_size) is.part)))
    (zero_by_coordinates laws inverse n basis (λ q. map v (map (λ m. m.mask) q.columns)) [] (map (λ q. embed q.part.shift) chunks) chunks
    (λ i below. ap (weighted_sum extension inverse n (map (λ q. embed q.part.shift) chunks)) (places_mapped v (λ q. map (λ m. m.mask) q.columns) i [] chunks) ∙ are.cancels i x (omega arith)))
