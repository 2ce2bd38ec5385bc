-- The law of recomposition for the disjoint cosets of a base field's group of roots of one, seen in an extension.
use Rattle.std.specs.Prelude.{◌≡◌, ◌≢◌, ℕ, suc, ◌^◌, ◌<◌, ◌≤◌, List, [], ◌∷◌, map, length, AllPairs, refl}
use Rattle.std.proofs.Common.{sym, ap, ◌∙◌, arith, get_or}
use Rattle.std.proofs.lemmas.List.Elements.{recursion_from_All}
use Rattle.std.proofs.lemmas.Nat.{pow_pos}
use Rattle.std.specs.List.{AllByRecursion}
use Rattle.stark_support.specs.Ring.{RingOps, RingLaws, FieldLaws}
use Rattle.stark_support.specs.Powers.{power}
use Rattle.stark_support.specs.Embedding.{IsEmbedding, embedded_two_adic}
use Rattle.stark_support.specs.TwoAdic.{TwoAdicLaws, HasOrder}
use Rattle.stark_support.specs.Coset.{TwoAdicCoset, IsTwoAdicCoset, AreDisjoint, AreDisjointCosets, coset_size, coset_vanishing}
use Rattle.stark_support.specs.CosetFacts.{root_has_order}
use Rattle.stark_support.specs.CosetListFacts.{size_at, disjoint_at}
use Rattle.stark_support.specs.SubgroupFacts.{embedded_nonzero}
use Rattle.stark_support.specs.Recomposition.{recomposition}
use Rattle.stark_support.specs.RecompositionFacts.{vanishing_apart}
use Rattle.stark_support.specs.Polynomial.{value, IsWithoutRepeats}
use Rattle.stark_support.specs.Points.{CosetsDisjoint}
use Rattle.stark_support.specs.PointFacts.{all_mapped}
use Rattle.stark_support.specs.DivisionFacts.{same_vanishing, own_vanishing}
use Rattle.stark_support.specs.RecompositionPolynomial.{chunk_values}
use Rattle.stark_support.specs.RecompositionLaw.{AreChunksOf, recomposes_everywhere}

next_below : (k l : ℕ) → k < l → suc k < suc l
next_below k l h = omega arith

first_below : (k : ℕ) → 0 < suc k
first_below k = omega arith

-- elements whose images differ in pairs, as a list without repeats
images_without_repeats : {D E G : Type 0} (f : E → G) (shift : D → E) (domains : List D) → AllPairs (λ c d. f (shift c) ≢ f (shift d)) domains → IsWithoutRepeats (map f (map shift domains))
images_without_repeats f shift [] apart = tt
images_without_repeats f shift (d ∷ ds) apart = (
  all_mapped f (λ w. f (shift d) ≢ w) (map shift ds)
      (all_mapped shift (λ s. f (shift d) ≢ f s) ds (recursion_from_All (λ c. f (shift d) ≢ f (shift c)) ds (λ k x within. apart 0 (suc k) x (first_below k) (next_below k (length ds) within)))),
  images_without_repeats f shift ds (λ i j x less within. apart (suc i) (suc j) x (next_below i j less) (next_below j (length ds) within)),
)

module _ {F E : Type 0} {base : RingOps F} {ring : RingOps E} {inverse : E → E} {embed : F → E} (laws : FieldLaws ring inverse) (embeds : IsEmbedding base ring embed)
    (base_laws : RingLaws base) (adicity : ℕ) (root : ℕ → F) (generator : F) (two_adic : TwoAdicLaws base adicity root generator) where
  -- The shifts of disjoint cosets of the group of 2 ^ k points differ in their powers.
  pub shift_powers_differ : (k : ℕ) (c d : TwoAdicCoset F) → IsTwoAdicCoset base adicity d → d.log_size ≡ k → AreDisjoint base root c d → power ring (embed c.shift) (2 ^ k) ≢ power ring (embed d.shift) (2 ^ k)
  shift_powers_differ k c d valid size disjoint e =
      let n = coset_size d in
      let same : power ring (embed c.shift) n ≡ power ring (embed d.shift) n
      = ap (λ (m : ℕ). power ring (embed c.shift) (2 ^ m)) size ∙ e ∙ ap (λ (m : ℕ). power ring (embed d.shift) (2 ^ m)) (sym size) in
      vanishing_apart laws embeds base_laws adicity root generator two_adic c d (embed c.shift) (coset_vanishing ring (λ x. x) inverse n (embed d.shift) (embed c.shift)) valid disjoint refl refl
      (same_vanishing laws.of_ring inverse n (embed d.shift) (embed c.shift) (embed d.shift) same ∙ own_vanishing laws n (embed d.shift) (embedded_nonzero laws embeds adicity root generator two_adic d.shift valid.shift_nonzero))

  module _ {D : Type 0} (view : D → TwoAdicCoset F) (valid : (d : D) → IsTwoAdicCoset base adicity (view d)) (k : ℕ) where
    -- The chunks of a polynomial on disjoint domains recompose to it everywhere.
    pub recomposes_on_domains : (domains : List D) → AreDisjointCosets base root k (map view domains) → (basis : List E) (chunks : List (List (List E))) (p : List E)
        → AreChunksOf ring (embed (root k)) (2 ^ k) basis (map (λ d. embed (view d).shift) domains) chunks p
        → (x : E) → recomposition ring ring (λ c. c) inverse (2 ^ k) basis (map (λ d. embed (view d).shift) domains) (chunk_values ring chunks x) x ≡ value ring p x
    recomposes_on_domains [] disjoint basis chunks [] parts x = refl
    recomposes_on_domains [] disjoint basis chunks (c ∷ p) parts x = absurd (omega (arith, parts.short))
    recomposes_on_domains (d ∷ ds) disjoint basis chunks p parts x =
        let domains = d ∷ ds in
        let shift = λ (o : D). embed (view o).shift in
        let size : (view d).log_size ≡ k = size_at view k domains disjoint 0 d (first_below (length ds)) in
        let within : k ≤ adicity = omega (arith, (valid d).within) in
        let order : HasOrder ring (embed (root k)) (2 ^ k)
        = root_has_order laws adicity (λ m. embed (root m)) (embed generator) (embedded_two_adic embeds adicity root generator two_adic) k within in
        let nonzero : AllByRecursion (λ s. s ≢ ring.zero) (map shift domains)
        = all_mapped shift (λ s. s ≢ ring.zero) domains
        (recursion_from_All (λ o. shift o ≢ ring.zero) domains (λ i o below. embedded_nonzero laws embeds adicity root generator two_adic _ (valid (get_or domains i o)).shift_nonzero)) in
        let apart : CosetsDisjoint ring (2 ^ k) (map shift domains)
        = images_without_repeats (λ s. power ring s (2 ^ k)) shift domains
        (λ i j o less below. shift_powers_differ k (view (get_or domains i o)) (view (get_or domains j o)) (valid (get_or domains j o)) (size_at view k domains disjoint j o below) (disjoint_at view k domains disjoint i j o o less below)) in
        recomposes_everywhere laws (2 ^ k) (embed (root k)) order basis (map shift domains) chunks p (pow_pos k) (first_below (length (map shift ds))) nonzero apart parts x
