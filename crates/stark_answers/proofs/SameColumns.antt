-- Columns of degree below the number of a group's points with equal rows there are equal everywhere.
use Rattle.std.proofs.Common.{◌≡◌, ◌∙◌, ap, arith, refl, sym, ℕ, ◌^◌, ◌<◌, ◌≤◌, List, [], ◌∷◌, map, length}
use Rattle.std.proofs.lemmas.List.{length-map}
use Rattle.std.specs.List.{AllByRecursion}
use Rattle.stark_support.specs.Ring.{RingOps, FieldLaws}
use Rattle.stark_support.specs.Powers.{power}
use Rattle.stark_support.specs.Embedding.{IsEmbedding, embedded_two_adic}
use Rattle.stark_support.specs.KeepsRing.{kept_power, kept_value_over}
use Rattle.stark_support.specs.TwoAdic.{TwoAdicLaws}
use Rattle.stark_support.specs.Coset.{coset_point}
use Rattle.stark_support.specs.CosetFacts.{root_has_order}
use Rattle.stark_support.specs.Points.{powers_from}
use Rattle.stark_support.specs.PointFacts.{all_powers, powers_length, powers_without_repeats}
use Rattle.stark_support.specs.Polynomial.{value, value_over, HasDegreeBelow}
use Rattle.stark_support.specs.PolynomialFacts.{interpolation_unique}
use Rattle.stark_support.specs.Scheme.{natural_coset, row_at}
use Rattle.stark_security.proofs.ConstraintDegrees.{value_of_embedded}

first_same : {A : Type 0} (a b : A) (xs ys : List A) → (a ∷ xs) ≡ (b ∷ ys) → a ≡ b
first_same a b xs ys e = cc

rest_same : {A : Type 0} (a b : A) (xs ys : List A) → (a ∷ xs) ≡ (b ∷ ys) → xs ≡ ys
rest_same a b xs ys e = cc

joined_same : {A : Type 0} (a b : A) (xs ys : List A) → a ≡ b → xs ≡ ys → (a ∷ xs) ≡ (b ∷ ys)
joined_same a b xs ys e h = cc

at_least : (n m : ℕ) → m ≡ n → n ≤ m
at_least n m e = omega arith

module _ {F E : Type 0} (base : RingOps F) (base_inverse : F → F) (ring : RingOps E) (inverse : E → E) (embed : F → E) (adicity : ℕ) (root : ℕ → F) (generator : F)
    (base_laws : FieldLaws base base_inverse) (laws : FieldLaws ring inverse) (embeds : IsEmbedding base ring embed) (two_adic : TwoAdicLaws base adicity root generator) (k : ℕ) (within : k ≤ adicity) where
  -- a point of the group, in the extension
  embedded_point : (r : ℕ) → embed (coset_point base root (natural_coset base k) r) ≡ power ring (embed (root k)) r
  embedded_point r =
      ap embed (base_laws.of_ring.mul_comm base.one (power base (root k) r) ∙ base_laws.of_ring.mul_one (power base (root k) r))
      ∙ kept_power embeds.keeps (root k) (embed (root k)) r refl

  -- an embedded polynomial's value there
  embedded_value : (p : List F) (r : ℕ) → embed (value base p (coset_point base root (natural_coset base k) r)) ≡ value ring (map embed p) (power ring (embed (root k)) r)
  embedded_value p r =
      kept_value_over embeds.keeps (λ c. c) embed (λ c. refl) p (coset_point base root (natural_coset base k) r) (power ring (embed (root k)) r) (embedded_point r)
      ∙ value_of_embedded ring (λ c. c) embed p (power ring (embed (root k)) r)

  embedded_below : (p : List F) → HasDegreeBelow (2 ^ k) p → HasDegreeBelow (2 ^ k) (map embed p)
  embedded_below p below = rw (length-map p embed) below

  same_column : (p q : List F) → HasDegreeBelow (2 ^ k) p → HasDegreeBelow (2 ^ k) q
      → ((r : ℕ) → r < 2 ^ k → value base p (coset_point base root (natural_coset base k) r) ≡ value base q (coset_point base root (natural_coset base k) r))
      → (x : E) → value_over ring embed p x ≡ value_over ring embed q x
  same_column p q below_p below_q agree x =
      let g = embed (root k) in
      let order = root_has_order laws adicity (λ n. embed (root n)) (embed generator) (embedded_two_adic embeds adicity root generator two_adic) k within in
      value_of_embedded ring (λ c. c) embed p x
      ∙ interpolation_unique laws (2 ^ k) (map embed p) (map embed q) (powers_from ring g 0 (2 ^ k)) (embedded_below p below_p) (embedded_below q below_q)
      (at_least (2 ^ k) _ (powers_length ring g 0 (2 ^ k))) (powers_without_repeats laws.of_ring g (2 ^ k) order)
      (all_powers ring (λ y. value ring (map embed p) y ≡ value ring (map embed q) y) g (2 ^ k) (λ r less. sym (embedded_value p r) ∙ ap embed (agree r less) ∙ embedded_value q r)) x
      ∙ sym (value_of_embedded ring (λ c. c) embed q x)

  -- As many columns with equal rows on the group have equal rows at each point of the extension.
  pub same_rows : (ps qs : List (List F)) → length ps ≡ length qs → AllByRecursion (HasDegreeBelow (2 ^ k)) ps → AllByRecursion (HasDegreeBelow (2 ^ k)) qs
      → ((r : ℕ) → r < 2 ^ k → row_at base (λ c. c) ps (coset_point base root (natural_coset base k) r) ≡ row_at base (λ c. c) qs (coset_point base root (natural_coset base k) r))
      → (x : E) → row_at ring embed ps x ≡ row_at ring embed qs x
  same_rows [] [] many below_ps below_qs agree x = refl
  same_rows [] (q ∷ qs) many below_ps below_qs agree x = absurd (omega (arith, many))
  same_rows (p ∷ ps) [] many below_ps below_qs agree x = absurd (omega (arith, many))
  same_rows (p ∷ ps) (q ∷ qs) many below_ps below_qs agree x =
      joined_same _ _ _ _ (same_column p q below_ps.0 below_qs.0 (λ r less. first_same _ _ _ _ (agree r less)) x)
      (same_rows ps qs (omega (arith, many)) below_ps.1 below_qs.1 (λ r less. rest_same _ _ _ _ (agree r less)) x)
