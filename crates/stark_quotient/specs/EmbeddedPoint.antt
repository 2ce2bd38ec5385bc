-- What is computed at a point of the base field is, embedded, what stands at the embedded point.
use Rattle.std.specs.Prelude.{◌≡◌, ◌≢◌, ℕ, ◌^◌, List, [], ◌∷◌, map, refl}
use Rattle.std.proofs.Common.{sym, ◌∙◌, ap}
use Rattle.stark_support.specs.Ring.{RingOps, FieldLaws}
use Rattle.stark_support.specs.FieldFacts.{cancel_left}
use Rattle.stark_support.specs.Operations.{ring_operations}
use Rattle.stark_support.specs.Embedding.{IsEmbedding}
use Rattle.stark_support.specs.KeepsRing.{kept_product, kept_difference, kept_power, kept_power_sum, kept_value_over}
use Rattle.stark_support.specs.Coset.{subgroup_vanishing}
use Rattle.stark_support.specs.Periodic.{periodic_value}
use Rattle.stark_support.specs.Selectors.{first_row_selector, last_row_selector, transition_selector}
use Rattle.stark_support.specs.Subgroup.{group_of}
use Rattle.stark_air.specs.Rows.{environment_of}
use Rattle.stark_air.specs.Value.{constraint_values}
use Rattle.stark_parts.specs.Folded.{folded}
use Rattle.stark_security.specs.ConstraintPolynomial.{AirInstance, height, group}
use Rattle.stark_quotient.specs.PointwiseQuotient.{RowsOnCoset, folded_in_row, next_row, periodic_row, pointwise_quotient, point_above}

module _ {F E : Type 0} {base : RingOps F} {base_inverse : F → F} {ring : RingOps E} {inverse : E → E} {embed : F → E} (base_laws : FieldLaws base base_inverse) (laws : FieldLaws ring inverse) (embeds : IsEmbedding base ring embed) where
  pub embedded_inverse : (x : F) → x ≢ base.zero → embed (base_inverse x) ≡ inverse (embed x)
  embedded_inverse x nonzero =
      let above : embed x ≢ ring.zero = λ e. nonzero (embeds.injective _ _ (e ∙ sym embeds.keeps.zero)) in
      cancel_left laws (embed x) (embed (base_inverse x)) (inverse (embed x)) above
      (sym (embeds.keeps.mul x (base_inverse x)) ∙ ap embed (base_laws.mul_inverse x nonzero) ∙ embeds.keeps.one ∙ sym (laws.mul_inverse (embed x) above))

  -- the selectors of the group of 2 ^ k points that h generates
  module _ (h : F) (k : ℕ) (x : F) where
    pub embedded_first_row : embed (first_row_selector base (λ c. c) (group_of base_inverse h k) x) ≡ first_row_selector ring (λ c. c) (group_of inverse (embed h) k) (embed x)
    embedded_first_row = kept_power_sum embeds.keeps x (embed x) (2 ^ k) refl

    pub embedded_last_row : embed (last_row_selector base (λ c. c) (group_of base_inverse h k) x) ≡ last_row_selector ring (λ c. c) (group_of inverse (embed h) k) (embed x)
    embedded_last_row = kept_product embeds.keeps _ _ _ _ refl (kept_power_sum embeds.keeps (base.mul h x) (ring.mul (embed h) (embed x)) (2 ^ k) (embeds.keeps.mul h x))

    pub embedded_transition : h ≢ base.zero → embed (transition_selector base (λ c. c) (group_of base_inverse h k) x) ≡ transition_selector ring (λ c. c) (group_of inverse (embed h) k) (embed x)
    embedded_transition nonzero = kept_difference embeds.keeps _ _ _ _ refl (embedded_inverse h nonzero)

  -- the inverse of x ^ n - 1
  pub embedded_inverse_vanishing : (n : ℕ) (x : F) → subgroup_vanishing base n x ≢ base.zero → embed (base_inverse (subgroup_vanishing base n x)) ≡ inverse (subgroup_vanishing ring n (embed x))
  embedded_inverse_vanishing n x nonzero =
      embedded_inverse (subgroup_vanishing base n x) nonzero ∙ ap inverse (kept_difference embeds.keeps _ _ _ _ (kept_power embeds.keeps x (embed x) n refl) embeds.keeps.one)

  -- the values of periodic columns
  pub embedded_periodic : (h : F) (n : ℕ) (x : F) (columns : List (List F))
      → map embed (map (λ column. periodic_value base base_inverse h n base (λ y. y) column x) columns) ≡ map (λ column. periodic_value base base_inverse h n ring embed column (embed x)) columns
  embedded_periodic h n x [] = refl
  embedded_periodic h n x (column ∷ columns) =
      ap (λ y. y ∷ map embed (map (λ column. periodic_value base base_inverse h n base (λ y. y) column x) columns))
      (kept_value_over embeds.keeps (λ c. c) embed (λ c. refl) _ _ _ (kept_power embeds.keeps x (embed x) _ refl)) ∙
      ap (λ l. periodic_value base base_inverse h n ring embed column (embed x) ∷ l) (embedded_periodic h n x columns)

module _ {F E : Type 0} (i : AirInstance F E) (base_laws : FieldLaws i.base i.base_inverse) (laws : FieldLaws i.ring i.inverse) (embeds : IsEmbedding i.base i.ring i.embed)
    (generator_nonzero : i.generator ≢ i.base.zero) (rows : RowsOnCoset F) (k : ℕ) where
  -- The folded sum over embedded rows and selectors.
  abbrev pub folded_embedded : E → List F → F → F → F → E
  folded_embedded alpha periodic first last change =
      folded i.ring alpha (constraint_values (ring_operations i.ring i.embed)
      (environment_of (ring_operations i.ring i.embed) i.base.zero i.ring.zero (map i.embed (rows.main k)) (map i.embed (rows.main (next_row i rows k))) (map i.embed (rows.preprocessed k)) (map i.embed (rows.preprocessed (next_row i rows k)))
      rows.public_values (map i.embed periodic) (i.embed first) (i.embed last) (i.embed change)) i.constraints)

  -- The quotient at a point, from what is computed there in the base field.
  pub quotient_from_base : (alpha sum : E) (periodic : List F) (first last change inverted : F)
      → sum ≡ folded_embedded alpha periodic first last change
      → periodic ≡ map (λ column. periodic_value i.base i.base_inverse i.generator (height i) i.base (λ y. y) column (rows.point k)) i.periodic
      → first ≡ first_row_selector i.base (λ c. c) (group_of i.base_inverse i.generator i.log_size) (rows.point k)
      → last ≡ last_row_selector i.base (λ c. c) (group_of i.base_inverse i.generator i.log_size) (rows.point k)
      → change ≡ transition_selector i.base (λ c. c) (group_of i.base_inverse i.generator i.log_size) (rows.point k)
      → inverted ≡ i.base_inverse (subgroup_vanishing i.base (height i) (rows.point k))
      → subgroup_vanishing i.base (height i) (rows.point k) ≢ i.base.zero
      → i.ring.mul sum (i.embed inverted) ≡ pointwise_quotient i rows alpha k
  quotient_from_base alpha sum periodic first last change inverted sum_is periodic_is first_is last_is change_is inverted_is outside =
      let x = rows.point k in
      let e_periodic = ap (map i.embed) periodic_is ∙ embedded_periodic base_laws laws embeds i.generator (height i) x i.periodic in
      let e_first = ap i.embed first_is ∙ embedded_first_row base_laws laws embeds i.generator i.log_size x in
      let e_last = ap i.embed last_is ∙ embedded_last_row base_laws laws embeds i.generator i.log_size x in
      let e_change = ap i.embed change_is ∙ embedded_transition base_laws laws embeds i.generator i.log_size x generator_nonzero in
      let over = λ (p : List E) (f l c : E). folded i.ring alpha (constraint_values (ring_operations i.ring i.embed)
      (environment_of (ring_operations i.ring i.embed) i.base.zero i.ring.zero (map i.embed (rows.main k)) (map i.embed (rows.main (next_row i rows k))) (map i.embed (rows.preprocessed k)) (map i.embed (rows.preprocessed (next_row i rows k)))
      rows.public_values p f l c) i.constraints) in
      let at = point_above i rows k in
      let first_above : E = first_row_selector i.ring (λ c. c) (group i) at in
      let last_above : E = last_row_selector i.ring (λ c. c) (group i) at in
      ap (λ s. i.ring.mul s (i.embed inverted))
      (sum_is ∙ ap (λ p. over p (i.embed first) (i.embed last) (i.embed change)) e_periodic ∙ ap (λ f. over (periodic_row i rows at) f (i.embed last) (i.embed change)) e_first ∙
      ap (λ l. over (periodic_row i rows at) first_above l (i.embed change)) e_last ∙ ap (λ c. over (periodic_row i rows at) first_above last_above c) e_change) ∙
      ap (i.ring.mul (folded_in_row i rows alpha k)) (ap i.embed inverted_is ∙ embedded_inverse_vanishing base_laws laws embeds (height i) x outside)
