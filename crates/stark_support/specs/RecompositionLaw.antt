-- Chunks that agree with a polynomial on disjoint cosets recompose to it everywhere.
use Rattle.std.specs.Prelude.{◌≡◌, ◌≢◌, ◌⊎◌, ℕ, zero, suc, ◌+◌, ◌-◌, ◌*◌, ◌<◌, ◌≤◌, ⊤, List, [], ◌∷◌, ◌++◌, map, length, refl}
use Rattle.std.proofs.Common.{sym, ap, ◌∙◌, arith, inl, inr}
use Rattle.std.proofs.lemmas.List.Elements.{recursion_from_All}
use Rattle.std.specs.List.{AllByRecursion}
use Rattle.stark_support.specs.Ring.{RingOps, FieldLaws}
use Rattle.stark_support.specs.RingFacts.{mul_zero, one_mul}
use Rattle.stark_support.specs.RingSolver.{solve, nothing, unit, ◌⊕◌, ◌⊗◌, v0, v1}
use Rattle.stark_support.specs.Powers.{power}
use Rattle.stark_support.specs.TwoAdic.{HasOrder}
use Rattle.stark_support.specs.Coset.{coset_vanishing}
use Rattle.stark_support.specs.Extension.{basis_sum}
use Rattle.stark_support.specs.Recomposition.{lagrange_factor, recomposition_from, recomposition}
use Rattle.stark_support.specs.Polynomial.{value, HasDegreeBelow}
use Rattle.stark_support.specs.PolynomialFacts.{interpolation_unique}
use Rattle.stark_support.specs.Points.{powers_from, coset_points, CosetsDisjoint}
use Rattle.stark_support.specs.PointFacts.{one_more_time, all_append, all_unmapped, all_both, all_on_coset, power_on_coset, points_length, points_without_repeats}
use Rattle.stark_support.specs.DivisionFacts.{same_vanishing, own_vanishing, other_vanishing}
use Rattle.stark_support.specs.RecompositionPolynomial.{chunk_values, ChunksFit, recomposition_polynomial, value_of_recomposition, degree_of_recomposition}

-- The chunks take the values of a function on their cosets.
abbrev pub ChunksAgree : {K : Type 0} → RingOps K → K → ℕ → List K → (K → K) → List K → List (List (List K)) → Type 0
ChunksAgree ring g n basis f [] chunks = ⊤
ChunksAgree ring g n basis f (s ∷ shifts) [] = ⊥
ChunksAgree ring g n basis f (s ∷ shifts) (q ∷ chunks) =
    ((k : ℕ) → k < n → basis_sum ring (λ c. c) basis (map (λ p. value ring p (ring.mul s (power ring g k))) q) ≡ f (ring.mul s (power ring g k))) × ChunksAgree ring g n basis f shifts chunks

-- Chunks of degree below n that take on their cosets of n points the values of a polynomial p, whose degree is below the
-- number of all these points. A chunk is the list of its coordinates over the basis.
pub record AreChunksOf {K : Type 0} (ring : RingOps K) (g : K) (n : ℕ) (basis : List K) (shifts : List K) (chunks : List (List (List K))) (p : List K) : Type 0 where
  pub fit : ChunksFit n chunks
  pub short : HasDegreeBelow (length shifts * n) p
  pub agree : ChunksAgree ring g n basis (value ring p) shifts chunks

abbrev Among : {K : Type 0} → K → List K → Type 0
Among s [] = ⊥
Among s (o ∷ others) = (s ≡ o) ⊎ Among s others

among_left : {K : Type 0} (s : K) (xs ys : List K) → Among s xs → Among s (xs ++ ys)
among_left s [] ys h = absurd h
among_left s (x ∷ xs) ys h = elim h [ inl e ↦ inl e | inr rest ↦ inr (among_left s xs ys rest) ]

among_right : {K : Type 0} (s : K) (xs ys : List K) → Among s ys → Among s (xs ++ ys)
among_right s [] ys h = h
among_right s (x ∷ xs) ys h = inr (among_right s xs ys h)

equal_fits : (a b : ℕ) → a ≡ b → a ≤ b
equal_fits a b e = omega arith

drop_one : (m : ℕ) → 0 + suc m - 1 ≡ m
drop_one m = omega arith

fits_whole : (n l k : ℕ) → 1 ≤ n → l ≤ suc (k + (n - 1)) → l ≤ n + k
fits_whole n l k positive h = omega arith

recomposed_length : (n m l : ℕ) → 1 ≤ n → 1 ≤ m → l ≤ suc ((0 + m - 1) * n + (n - 1)) → l ≤ m * n
recomposed_length n zero l positive some h = absurd (omega (arith, some))
recomposed_length n (suc m) l positive some h = rw (← one_more_time n m) (fits_whole n l (m * n) positive (rw (← drop_one m) h))

module _ {K : Type 0} {ring : RingOps K} {inverse : K → K} (laws : FieldLaws ring inverse) (n : ℕ) where
  lagrange_zero : (t : K) (others : List K) (s x : K) → Among t others → coset_vanishing ring (λ c. c) inverse n t x ≡ ring.zero → lagrange_factor ring ring (λ c. c) inverse n others s x ≡ ring.zero
  lagrange_zero t [] s x among h = absurd among
  lagrange_zero t (o ∷ others) s x among h =
      let weight = inverse (coset_vanishing ring (λ c. c) inverse n o s) in
      let rest = lagrange_factor ring ring (λ c. c) inverse n others s x in
      elim among [
        | inl e ↦
            ap (λ w. ring.mul (ring.mul w weight) rest) (ap (λ u. coset_vanishing ring (λ c. c) inverse n u x) (sym e) ∙ h) ∙
            solve laws.of_ring (weight ∷ rest ∷ []) (nothing ⊗ v0 ⊗ v1) nothing refl
        | inr more ↦ ap (ring.mul (ring.mul (coset_vanishing ring (λ c. c) inverse n o x) weight)) (lagrange_zero t others s x more h) ∙ mul_zero laws.of_ring _
      ]

  lagrange_one : (others : List K) (s x : K) → power ring x n ≡ power ring s n → AllByRecursion (λ o. coset_vanishing ring (λ c. c) inverse n o s ≢ ring.zero) others
      → lagrange_factor ring ring (λ c. c) inverse n others s x ≡ ring.one
  lagrange_one [] s x on apart = refl
  lagrange_one (o ∷ others) s x on apart =
      let z = coset_vanishing ring (λ c. c) inverse n o s in
      ap (λ w. ring.mul (ring.mul w (inverse z)) (lagrange_factor ring ring (λ c. c) inverse n others s x)) (same_vanishing laws.of_ring inverse n o x s on) ∙
      ap (λ w. ring.mul w (lagrange_factor ring ring (λ c. c) inverse n others s x)) (laws.mul_inverse z apart.0) ∙
      one_mul laws.of_ring _ ∙
      lagrange_one others s x on apart.1

  -- the part of the later chunks is zero on an earlier coset
  later_zero : (basis before shifts : List K) (chunks : List (List K)) (t x : K) → Among t before → coset_vanishing ring (λ c. c) inverse n t x ≡ ring.zero
      → recomposition_from ring ring (λ c. c) inverse n basis before shifts chunks x ≡ ring.zero
  later_zero basis before [] chunks t x among h = refl
  later_zero basis before (s ∷ after) [] t x among h = refl
  later_zero basis before (s ∷ after) (q ∷ qs) t x among h =
      ap (λ w. ring.add (ring.mul w (basis_sum ring (λ c. c) basis q)) (recomposition_from ring ring (λ c. c) inverse n basis (before ++ (s ∷ [])) after qs x))
      (lagrange_zero t (before ++ after) s x (among_left t before after among) h) ∙
      ap (ring.add (ring.mul ring.zero (basis_sum ring (λ c. c) basis q))) (later_zero basis (before ++ (s ∷ [])) after qs t x (among_left t before (s ∷ []) among) h) ∙
      solve laws.of_ring (basis_sum ring (λ c. c) basis q ∷ []) (nothing ⊗ v0 ⊕ nothing) nothing refl

  -- the shifts from some place on are apart from all others
  abbrev Apart : List K → List K → Type 0
  Apart before [] = ⊤
  Apart before (s ∷ after) = (s ≢ ring.zero) × AllByRecursion (λ o. coset_vanishing ring (λ c. c) inverse n o s ≢ ring.zero) (before ++ after) × Apart (before ++ (s ∷ [])) after

  -- x lies on the coset of some chunk whose value there is v
  abbrev Meets : List K → K → K → List K → List (List K) → Type 0
  Meets basis v x [] chunks = ⊥
  Meets basis v x (s ∷ shifts) [] = ⊥
  Meets basis v x (s ∷ shifts) (q ∷ chunks) = ((power ring x n ≡ power ring s n) × (basis_sum ring (λ c. c) basis q ≡ v)) ⊎ Meets basis v x shifts chunks

  met_shift : (basis before : List K) (v x : K) (shifts : List K) (chunks : List (List K)) → Apart before shifts → Meets basis v x shifts chunks
      → (t : K) × Among t shifts × (coset_vanishing ring (λ c. c) inverse n t x ≡ ring.zero)
  met_shift basis before v x [] chunks apart met = absurd met
  met_shift basis before v x (s ∷ shifts) [] apart met = absurd met
  met_shift basis before v x (s ∷ shifts) (q ∷ chunks) apart met =
      elim met [
        | inl here ↦ (s, inl refl, same_vanishing laws.of_ring inverse n s x s here.0 ∙ own_vanishing laws n s apart.0)
        | inr later ↦ let obtained = met_shift basis (before ++ (s ∷ [])) v x shifts chunks apart.2 later in (obtained.0, inr obtained.1, obtained.2)
      ]

  -- On a chunk's coset the recomposition has the chunk's value.
  recomposed_on_coset : (basis before : List K) (v x : K) (shifts : List K) (chunks : List (List K)) → Apart before shifts → Meets basis v x shifts chunks
      → recomposition_from ring ring (λ c. c) inverse n basis before shifts chunks x ≡ v
  recomposed_on_coset basis before v x [] chunks apart met = absurd met
  recomposed_on_coset basis before v x (s ∷ shifts) [] apart met = absurd met
  recomposed_on_coset basis before v x (s ∷ shifts) (q ∷ chunks) apart met =
      let factor = lagrange_factor ring ring (λ c. c) inverse n (before ++ shifts) s x in
      let own = basis_sum ring (λ c. c) basis q in
      let rest = recomposition_from ring ring (λ c. c) inverse n basis (before ++ (s ∷ [])) shifts chunks x in
      elim met [
        | inl here ↦
            ap (λ w. ring.add (ring.mul w own) rest) (lagrange_one (before ++ shifts) s x here.0 apart.1) ∙
            ap (λ w. ring.add (ring.mul ring.one own) w)
            (later_zero basis (before ++ (s ∷ [])) shifts chunks s x (among_right s before (s ∷ []) (inl refl)) (same_vanishing laws.of_ring inverse n s x s here.0 ∙ own_vanishing laws n s apart.0)) ∙
            solve laws.of_ring (own ∷ []) (unit ⊗ v0 ⊕ nothing) v0 refl ∙
            here.1
        | inr later ↦
            let obtained = met_shift basis (before ++ (s ∷ [])) v x shifts chunks apart.2 later in
            ap (λ w. ring.add (ring.mul w own) rest) (lagrange_zero obtained.0 (before ++ shifts) s x (among_right obtained.0 before shifts obtained.1) obtained.2) ∙
            ap (ring.add (ring.mul ring.zero own)) (recomposed_on_coset basis (before ++ (s ∷ [])) v x shifts chunks apart.2 later) ∙
            solve laws.of_ring (own ∷ v ∷ []) (nothing ⊗ v0 ⊕ v1) v1 refl
      ]

  apart_from : (before shifts : List K) → AllByRecursion (λ s. s ≢ ring.zero) before → AllByRecursion (λ s. s ≢ ring.zero) shifts
      → AllByRecursion (λ s. AllByRecursion (λ o. power ring s n ≢ power ring o n) before) shifts → CosetsDisjoint ring n shifts → Apart before shifts
  apart_from before [] nonzero_before nonzero cross disjoint = tt
  apart_from before (s ∷ after) nonzero_before nonzero cross disjoint =
      let later : AllByRecursion (λ o. power ring s n ≢ power ring o n) after = all_unmapped (λ o. power ring o n) (λ w. power ring s n ≢ w) after disjoint.0 in
      let join : (xs : List K) → AllByRecursion (λ o. o ≢ ring.zero) xs → AllByRecursion (λ o. power ring s n ≢ power ring o n) xs → AllByRecursion (λ o. coset_vanishing ring (λ c. c) inverse n o s ≢ ring.zero) xs
      = all_both (λ o. o ≢ ring.zero) (λ o. power ring s n ≢ power ring o n) (λ o. coset_vanishing ring (λ c. c) inverse n o s ≢ ring.zero) (λ o h k. other_vanishing laws n o s h k) in (
        nonzero.0,
        all_append (λ o. coset_vanishing ring (λ c. c) inverse n o s ≢ ring.zero) before after (join before nonzero_before cross.0) (join after nonzero.1 later),
        apart_from (before ++ (s ∷ [])) after (all_append (λ o. o ≢ ring.zero) before (s ∷ []) nonzero_before (nonzero.0, tt)) nonzero.1
            (all_both (λ t. AllByRecursion (λ o. power ring t n ≢ power ring o n) before) (λ t. power ring s n ≢ power ring t n) (λ t. AllByRecursion (λ o. power ring t n ≢ power ring o n) (before ++ (s ∷ [])))
            (λ t h k. all_append (λ o. power ring t n ≢ power ring o n) before (s ∷ []) h ((λ e. k (sym e)), tt)) after cross.1 later)
            disjoint.1,
      )

  apart_of_disjoint : (shifts : List K) → AllByRecursion (λ s. s ≢ ring.zero) shifts → CosetsDisjoint ring n shifts → Apart [] shifts
  apart_of_disjoint shifts nonzero disjoint = apart_from [] shifts tt nonzero (recursion_from_All (λ s. ⊤) shifts (λ k s within. tt)) disjoint

  module _ (g : K) (order : HasOrder ring g n) where
    agreed_on_points : (basis : List K) (f r : K → K) (shifts : List K) (chunks : List (List (List K))) → ChunksAgree ring g n basis f shifts chunks
        → ((v x : K) → Meets basis v x shifts (chunk_values ring chunks x) → r x ≡ v) → AllByRecursion (λ x. r x ≡ f x) (coset_points ring g n shifts)
    agreed_on_points basis f r [] chunks agree meets = tt
    agreed_on_points basis f r (s ∷ shifts) [] agree meets = absurd agree
    agreed_on_points basis f r (s ∷ shifts) (q ∷ chunks) agree meets =
        all_append (λ x. r x ≡ f x) (map (ring.mul s) (powers_from ring g 0 n)) (coset_points ring g n shifts)
        (all_on_coset ring (λ x. r x ≡ f x) g n s
        (λ k below. meets (f (ring.mul s (power ring g k))) (ring.mul s (power ring g k)) (inl (power_on_coset laws.of_ring g s n k order.reaches, agree.0 k below))))
        (agreed_on_points basis f r shifts chunks agree.1 (λ v x met. meets v x (inr met)))

    -- Chunks of degree below n that take a polynomial's values on m disjoint cosets recompose to it, where its degree is below m n.
    pub recomposes_everywhere : (basis shifts : List K) (chunks : List (List (List K))) (p : List K) → 1 ≤ n → 1 ≤ length shifts → AllByRecursion (λ s. s ≢ ring.zero) shifts → CosetsDisjoint ring n shifts
        → AreChunksOf ring g n basis shifts chunks p
        → (x : K) → recomposition ring ring (λ c. c) inverse n basis shifts (chunk_values ring chunks x) x ≡ value ring p x
    recomposes_everywhere basis shifts chunks p positive some nonzero disjoint parts x =
        let r = recomposition_polynomial ring inverse n basis shifts chunks in
        sym (value_of_recomposition laws.of_ring inverse n basis shifts chunks x) ∙
        interpolation_unique laws (length shifts * n) r p (coset_points ring g n shifts)
        (recomposed_length n (length shifts) (length r) positive some (degree_of_recomposition ring inverse n n basis [] shifts chunks parts.fit))
        parts.short
        (equal_fits (length shifts * n) (length (coset_points ring g n shifts)) (sym (points_length laws g n shifts)))
        (points_without_repeats laws g n order shifts nonzero disjoint)
        (agreed_on_points basis (value ring p) (value ring r) shifts chunks parts.agree
        (λ v y met. value_of_recomposition laws.of_ring inverse n basis shifts chunks y ∙ recomposed_on_coset basis [] v y shifts (chunk_values ring chunks y) (apart_of_disjoint shifts nonzero disjoint) met))
        x
