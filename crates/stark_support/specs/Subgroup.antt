-- The subgroup that a coset belongs to, in an extension.
use Rattle.std.specs.Prelude.{ℕ, ◌^◌}
use Rattle.std.specs.declared.vec.Vec.{Vec}
use Rattle.stark_support.specs.declared.domain.LagrangeSelectors.{LagrangeSelectors}
use Rattle.stark_support.specs.Coset.{TakesOn, TwoAdicCoset, coset_size, vanishing_at}
use Rattle.stark_support.specs.Ring.{RingOps}
use Rattle.stark_support.specs.Selectors.{Subgroup, first_row_selector, last_row_selector, transition_selector}

abbrev pub subgroup_of : {F : Type 0} {E : Type 0} → (E → E) → (F → E) → (ℕ → F) → TwoAdicCoset F → Subgroup E
subgroup_of inverse embed root coset = record {
  generator = embed (root coset.log_size);
  generator_inverse = inverse (embed (root coset.log_size));
  size = coset_size coset;
}

-- the group of 2 ^ log_size elements with this generator
abbrev pub group_of : {E : Type 0} → (E → E) → E → ℕ → Subgroup E
group_of inverse generator log_size = record { generator = generator; generator_inverse = inverse generator; size = 2 ^ log_size }

-- the coset with the same points, seen in the extension
abbrev pub embedded_coset : {F : Type 0} {E : Type 0} → (F → E) → TwoAdicCoset F → TwoAdicCoset E
embedded_coset embed coset = record { shift = embed coset.shift; log_size = coset.log_size }

-- The row selectors of the subgroup that a coset belongs to, at a point of an extension.
abbrev pub first_row_at : {F : Type 0} {E : Type 0} → RingOps E → (E → E) → (F → E) → (ℕ → F) → TwoAdicCoset F → E → E
first_row_at ring inverse embed root coset x = first_row_selector ring (λ c. c) (subgroup_of inverse embed root coset) x

abbrev pub last_row_at : {F : Type 0} {E : Type 0} → RingOps E → (E → E) → (F → E) → (ℕ → F) → TwoAdicCoset F → E → E
last_row_at ring inverse embed root coset x = last_row_selector ring (λ c. c) (subgroup_of inverse embed root coset) x

abbrev pub transition_at : {F : Type 0} {E : Type 0} → RingOps E → (E → E) → (F → E) → (ℕ → F) → TwoAdicCoset F → E → E
transition_at ring inverse embed root coset x = transition_selector ring (λ c. c) (subgroup_of inverse embed root coset) x

-- Its row selectors at all points of another coset, in row order: four lists of which these are three.
abbrev pub FirstRowOn : {K A : Type 0} → RingOps K → (K → K) → (ℕ → K) → TwoAdicCoset K → TwoAdicCoset K → LagrangeSelectors (Vec K A) → Type 0
FirstRowOn {K} ring inverse root other coset s = TakesOn ring root other (first_row_at ring inverse (λ (c : K). c) root coset) s.is_first_row.items

abbrev pub LastRowOn : {K A : Type 0} → RingOps K → (K → K) → (ℕ → K) → TwoAdicCoset K → TwoAdicCoset K → LagrangeSelectors (Vec K A) → Type 0
LastRowOn {K} ring inverse root other coset s = TakesOn ring root other (last_row_at ring inverse (λ (c : K). c) root coset) s.is_last_row.items

abbrev pub TransitionOn : {K A : Type 0} → RingOps K → (K → K) → (ℕ → K) → TwoAdicCoset K → TwoAdicCoset K → LagrangeSelectors (Vec K A) → Type 0
TransitionOn {K} ring inverse root other coset s = TakesOn ring root other (transition_at ring inverse (λ (c : K). c) root coset) s.is_transition.items

-- The fourth: the inverses of the coset's vanishing values.
abbrev pub InverseVanishingOn : {K A : Type 0} → RingOps K → (K → K) → (ℕ → K) → TwoAdicCoset K → TwoAdicCoset K → LagrangeSelectors (Vec K A) → Type 0
InverseVanishingOn {K} ring inverse root other coset s = TakesOn ring root other (λ x. inverse (vanishing_at ring inverse (λ (c : K). c) coset x)) s.inv_vanishing.items
