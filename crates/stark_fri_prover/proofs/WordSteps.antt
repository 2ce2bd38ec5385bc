-- A polynomial over an extension at points of the base field, by the coordinates of its coefficients.
use Rattle.std.proofs.Common.{◌≡◌, ◌∙◌, ℕ, ◌*◌, List, [], ◌∷◌, Some, ap, arith, get_or, length, map, refl, sym}
use Rattle.std.proofs.lemmas.List.FromFn.{fill_by_all, get_or-map-range_with_len, length-map-range_with_len}
use Rattle.std.proofs.lemmas.Option.{slice_get-get_or}
use Rattle.std.specs.List.{range_with_len}
use Rattle.stark_support.specs.Coset.{TwoAdicCoset, coset_from, coset_point, coset_size}
use Rattle.stark_support.specs.Embedding.{IsEmbedding}
use Rattle.stark_support.specs.Extension.{IsBasis, basis_sum}
use Rattle.stark_support.specs.KeepsRing.{kept_power, kept_value_over}
use Rattle.stark_support.specs.Polynomial.{value, value_over}
use Rattle.stark_support.specs.Powers.{power}
use Rattle.stark_support.specs.Ring.{RingOps, RingLaws}
use Rattle.stark_support.specs.RingSolver.{solve, nothing, ◌⊕◌, ◌⊗◌, v0, v1, v2, v3, v4, v5}
use Rattle.stark_support.specs.Scheme.{HasRows, matrix_row, row_at}
use Rattle.stark_fri_prover.specs.Batching.{IsWordOf}
use Rattle.stark_fri_prover.specs.Words.{coordinate_at, coordinate_columns, element_of, elements_of}

pub mapped_twice : {A B D : Type 0} (f : A → B) (g : B → D) (xs : List A) → map g (map f xs) ≡ map (λ x. g (f x)) xs
mapped_twice f g [] = refl
mapped_twice f g (x ∷ xs) = ap (λ t. g (f x) ∷ t) (mapped_twice f g xs)

module _ {D E : Type 0} {ring : RingOps E} (laws : RingLaws ring) where
  pub no_sum : (es : List E) (ds : List D) → basis_sum ring (λ c. c) es (map (λ d. ring.zero) ds) ≡ ring.zero
  no_sum [] ds = refl
  no_sum (e ∷ es) [] = refl
  no_sum (e ∷ es) (d ∷ ds) = ap (ring.add (ring.mul e ring.zero)) (no_sum es ds) ∙ solve laws (e ∷ []) (v0 ⊗ nothing ⊕ nothing) nothing refl

  pub sum_of_both : (f g : D → E) (x : E) (es : List E) (ds : List D)
      → basis_sum ring (λ c. c) es (map (λ d. ring.add (f d) (ring.mul (g d) x)) ds)
      ≡ ring.add (basis_sum ring (λ c. c) es (map f ds)) (ring.mul (basis_sum ring (λ c. c) es (map g ds)) x)
  sum_of_both f g x [] ds = solve laws (x ∷ []) nothing (nothing ⊕ nothing ⊗ v0) refl
  sum_of_both f g x (e ∷ es) [] = solve laws (x ∷ []) nothing (nothing ⊕ nothing ⊗ v0) refl
  sum_of_both f g x (e ∷ es) (d ∷ ds) =
      ap (ring.add (ring.mul e (ring.add (f d) (ring.mul (g d) x)))) (sum_of_both f g x es ds)
      ∙ solve laws (e ∷ f d ∷ g d ∷ x ∷ basis_sum ring (λ c. c) es (map f ds) ∷ basis_sum ring (λ c. c) es (map g ds) ∷ [])
      (v0 ⊗ (v1 ⊕ v2 ⊗ v3) ⊕ (v4 ⊕ v5 ⊗ v3)) (v0 ⊗ v1 ⊕ v4 ⊕ (v0 ⊗ v2 ⊕ v5) ⊗ v3) refl

  -- The value of a polynomial is the basis times the values of its coordinates.
  value_by_coordinates : {F : Type 0} (embed : F → E) (at : D → E → F) (es : List E) (ds : List D) → ((c : E) → c ≡ basis_sum ring (λ y. y) es (map (λ d. embed (at d c)) ds))
      → (p : List E) (x : E) → value ring p x ≡ basis_sum ring (λ y. y) es (map (λ d. value_over ring embed (map (at d) p) x) ds)
  value_by_coordinates embed at es ds whole [] x = sym (no_sum es ds)
  value_by_coordinates embed at es ds whole (c ∷ p) x =
      ap (λ t. ring.add t (ring.mul (value ring p x) x)) (whole c)
      ∙ ap (λ t. ring.add (basis_sum ring (λ y. y) es (map (λ d. embed (at d c)) ds)) (ring.mul t x)) (value_by_coordinates embed at es ds whole p x)
      ∙ sym (sum_of_both (λ d. embed (at d c)) (λ d. value_over ring embed (map (at d) p) x) x es ds)

module _ {F E : Type 0} {base : RingOps F} {ring : RingOps E} {embed : F → E} (laws : RingLaws ring) (embeds : IsEmbedding base ring embed)
    {dimension : ℕ} {basis : List E} {coordinates : E → List F} (is_basis : IsBasis ring embed dimension basis coordinates) where
  abbrev at : ℕ → E → F
  at place element = coordinate_at coordinates base.zero place element

  pub whole_element : (c : E) → c ≡ basis_sum ring (λ y. y) basis (map (λ d. embed (at d c)) (range_with_len 0 dimension))
  whole_element c =
      is_basis.sum c ∙ ap (λ t. basis_sum ring (λ y. y) basis (map embed t)) (fill_by_all (λ d. at d c) (coordinates c) dimension base.zero (is_basis.count c) (λ k below. refl))
      ∙ ap (basis_sum ring (λ y. y) basis) (mapped_twice (λ d. at d c) embed (range_with_len 0 dimension))

  row_embedded : (p : List E) (y : F) (ds : List ℕ)
      → map (λ d. value_over ring embed (map (at d) p) (embed y)) ds ≡ map embed (row_at base (λ c. c) (map (λ d. map (at d) p) ds) y)
  row_embedded p y [] = refl
  row_embedded p y (d ∷ ds) =
      let first = sym (kept_value_over embeds.keeps (λ c. c) embed (λ c. refl) (map (at d) p) y (embed y) refl) in
      let rest = row_embedded p y ds in
      λ k. first k ∷ rest k

  -- The value at a point of the base field.
  pub value_at_base : (p : List E) (y : F) → value ring p (embed y) ≡ element_of ring embed basis (row_at base (λ c. c) (coordinate_columns dimension coordinates base.zero p) y)
  value_at_base p y =
      value_by_coordinates laws embed at basis (range_with_len 0 dimension) whole_element p (embed y)
      ∙ ap (basis_sum ring (λ c. c) basis) (row_embedded p y (range_with_len 0 dimension))

  module _ (root : ℕ → F) (coset : TwoAdicCoset F) where
    point_embedded : (i : ℕ) → coset_point ring (λ k. embed (root k)) (coset_from (embed coset.shift) coset.log_size) i ≡ embed (coset_point base root coset i)
    point_embedded i = sym (embeds.keeps.mul coset.shift (power base (root coset.log_size) i) ∙ ap (ring.mul (embed coset.shift)) (kept_power embeds.keeps (root coset.log_size) (embed (root coset.log_size)) i refl))

    module _ (polynomial : List E) (rows : List F) (width : ℕ) (has : HasRows base root coset (coordinate_columns dimension coordinates base.zero polynomial) rows width) where
      width_is : width ≡ dimension
      width_is = sym has.takes.count ∙ length-map-range_with_len (λ d. map (at d) polynomial) 0 dimension

      -- Rows of the coordinates' values are as many coordinates as the elements have.
      pub coordinates_count : length rows ≡ coset_size coset * dimension
      coordinates_count = has.number ∙ ap (λ n. coset_size coset * n) width_is

      pub word_of_rows : (word : List E) → word ≡ elements_of ring embed dimension basis rows (coset_size coset)
          → IsWordOf ring (λ k. embed (root k)) (coset_from (embed coset.shift) coset.log_size) polynomial word
      word_of_rows word is =
          let f : ℕ → E = λ place. element_of ring embed basis (matrix_row rows dimension place) in
          let size = coset_size coset in
          let number : length word ≡ size = ap length is ∙ length-map-range_with_len f 0 size in
          record {
            number = number;
            at_row = λ i below.
                slice_get-get_or word i ring.zero (omega (arith, number, below))
                ∙ ap Some (ap (λ t. get_or t i ring.zero) is ∙ get_or-map-range_with_len f 0 size i i ring.zero below (omega arith)
                ∙ ap (λ n. element_of ring embed basis (matrix_row rows n i)) (sym width_is) ∙ ap (element_of ring embed basis) (has.takes.rows i below)
                ∙ sym (value_at_base polynomial (coset_point base root coset i)) ∙ ap (value ring polynomial) (sym (point_embedded i)));
          }
