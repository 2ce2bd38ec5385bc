-- The group of a coset is a subgroup of an extension too.
use Rattle.std.specs.Prelude.{◌≡◌, ◌≢◌, ℕ, refl}
use Rattle.std.proofs.Common.{sym, ◌∙◌, ap}
use Rattle.stark_support.specs.Ring.{RingOps, FieldLaws, difference}
use Rattle.stark_support.specs.FieldFacts.{inverse_one}
use Rattle.stark_support.specs.Powers.{power}
use Rattle.stark_support.specs.Embedding.{IsEmbedding, embedded_two_adic}
use Rattle.stark_support.specs.TwoAdic.{TwoAdicLaws}
use Rattle.stark_support.specs.Coset.{TwoAdicCoset, IsTwoAdicCoset, coset_size, coset_vanishing, subgroup_vanishing}
use Rattle.stark_support.specs.CosetFacts.{root_nonzero, root_has_order}
use Rattle.stark_support.specs.SelectorFacts.{IsSubgroup}
use Rattle.stark_support.specs.Subgroup.{group_of, subgroup_of, embedded_coset}

module _ {F E : Type 0} {base : RingOps F} {ring : RingOps E} {inverse : E → E} {embed : F → E} (laws : FieldLaws ring inverse) (embeds : IsEmbedding base ring embed)
    (adicity : ℕ) (root : ℕ → F) (generator : F) (two_adic : TwoAdicLaws base adicity root generator) where
  pub embedded_nonzero : (x : F) → x ≢ base.zero → embed x ≢ ring.zero
  embedded_nonzero x nonzero e = nonzero (embeds.injective _ _ (e ∙ sym embeds.keeps.zero))

  pub embedded_valid : (coset : TwoAdicCoset F) → IsTwoAdicCoset base adicity coset → IsTwoAdicCoset ring adicity (embedded_coset embed coset)
  embedded_valid coset valid = record { shift_nonzero = embedded_nonzero coset.shift valid.shift_nonzero; within = valid.within }

  -- where the shift is one, the vanishing value is x ^ n - 1
  pub vanishing_of_subgroup : (n : ℕ) (s : F) (x : E) → s ≡ base.one → coset_vanishing ring (λ c. c) inverse n (embed s) x ≡ subgroup_vanishing ring n x
  vanishing_of_subgroup n s x unshifted =
      ap (λ t. difference ring (power ring (ring.mul x (inverse t)) n) ring.one) (ap embed unshifted ∙ embeds.keeps.one) ∙
      ap (λ t. difference ring (power ring t n) ring.one) (ap (ring.mul x) (inverse_one laws) ∙ laws.of_ring.mul_one x)

  pub is_subgroup_of : (coset : TwoAdicCoset F) → IsTwoAdicCoset base adicity coset → IsSubgroup ring inverse (subgroup_of inverse embed root coset)
  is_subgroup_of coset valid =
      let lifted = embedded_two_adic embeds adicity root generator two_adic in
      record {
        generator_nonzero = root_nonzero laws adicity (λ k. embed (root k)) (embed generator) lifted coset.log_size valid.within;
        inverse_is = refl;
        reaches = (root_has_order laws adicity (λ k. embed (root k)) (embed generator) lifted coset.log_size valid.within).reaches;
      }

  -- the group whose generator h was computed
  pub group_computed : (coset : TwoAdicCoset F) → IsTwoAdicCoset base adicity coset → (h : E) → h ≡ embed (root coset.log_size) → IsSubgroup ring inverse (group_of inverse h coset.log_size)
  group_computed coset valid h e =
      let group = is_subgroup_of coset valid in
      record {
        generator_nonzero = λ z. group.generator_nonzero (sym e ∙ z);
        inverse_is = refl;
        reaches = ap (λ t. power ring t (coset_size coset)) e ∙ group.reaches;
      }

  pub group_vanishing : (coset : TwoAdicCoset F) (x : E) → coset.shift ≡ base.one → coset_vanishing ring (λ c. c) inverse (coset_size coset) (embed coset.shift) x ≢ ring.zero → subgroup_vanishing ring (coset_size coset) x ≢ ring.zero
  group_vanishing coset x unshifted outside e = outside (vanishing_of_subgroup (coset_size coset) coset.shift x unshifted ∙ e)
