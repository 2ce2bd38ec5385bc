-- What numbers mean that a check accepts.
use Rattle.std.proofs.Common.{◌≡◌, inl, inr, sym, ◌∙◌, ap, ℕ, ◌-◌, ◌+◌, ◌^◌, ◌≢◌, ◌==◌, length, nat_le, Option, Some, None, Bool, true, false, if◌then◌else◌, arith, refl}
use Rattle.std.proofs.lemmas.Bool.{eqb-true, leb-true}
use Rattle.stark_support.specs.Ring.{RingOps, FieldLaws, difference}
use Rattle.stark_support.specs.FieldFacts.{if_same}
use Rattle.stark_support.specs.Powers.{power, squarings}
use Rattle.stark_support.specs.PowerFacts.{power-power, power-one, squarings_is_power}
use Rattle.stark_support.specs.LogarithmFacts.{at_most_or_above}
use Rattle.stark_support.specs.KeepsRing.{kept_power}
use Rattle.stark_support.specs.CosetFacts.{squarings_more, whole_order}
use Rattle.stark_fields.specs.Residues.{residue, residue_ring}
use Rattle.stark_fields.specs.SmallResidues.{small_ghosts, small_laws, small_two_adic}
use Rattle.stark_fields.specs.PrimeField.{root}
use Rattle.stark_fields.specs.declared.small.M12289.{M12289}
use Rattle.stark_fields.specs.Ext4Field.{embedded_is_embedding}
use Rattle.stark_answers.specs.CheckedAir.{CheckedAir, shape_of}
use Rattle.stark_commands.specs.Airs.{IsCutInto}
use Rattle.stark_commands.specs.Check.{checked, CheckHolds, IsBalanced, IsPointOfH, element_of, found_at_point, folded, if_none, laws_of_elements, periodic_fault, quotient, vanishing}
use Rattle.stark_commands.specs.Input.{Base, CheckNumbers, elements, has_shape}
use Rattle.stark_commands.specs.Check.{check_verdict}
use Rattle.stark_answers.specs.declared.verdict.Verdict.{Verdict}
use Rattle.stark_answers.specs.declared.verdict.Verdict.TheVariants.{Accepted, Refused, BadInput}
use Rattle.stark_answers.specs.declared.verdict.Refusal.{Refusal}
use Rattle.stark_answers.specs.declared.verdict.Refusal.TheVariants.{OodPointInDomain, OodEvaluationMismatch, PeriodicColumn, QuotientDomainTooLarge}

-- root n to the 2^n is one, also past the field's adicity
root_reaches : {K : Type 0} (n : ℕ) → squarings (residue_ring {M = M12289} {K = K} {G = small_ghosts}) (root n) n ≡ residue 1
unfolding squarings
root_reaches {K} n = elim (at_most_or_above n 12) [
  | inl within ↦ whole_order small_laws 12 root (residue 11) small_two_adic n within
  | inr past ↦
      let rest = n - 12 in
      let whole : n ≡ rest + 12 = omega arith in
      let none : 12 - n ≡ 0 = omega arith in
      ap (λ k. squarings (residue_ring {M = M12289} {K = K} {G = small_ghosts}) (squarings residue_ring (residue 1331) k) n) none ∙ ap (λ k. squarings (residue_ring {M = M12289} {K = K} {G = small_ghosts}) (residue 1331) k) whole ∙
      squarings_more small_laws 12 root (residue 11) small_two_adic (residue 1331) 12 rest (whole_order small_laws 12 root (residue 11) small_two_adic 12 (omega arith))
]

-- The vanishing value is zero at a point of H.
pub vanishing_at_point : (m : CheckNumbers) → IsPointOfH m → vanishing m ≡ elements.zero
vanishing_at_point m point =
    let n = m.log_height in
    let h = element_of (root n) in
    let laws = laws_of_elements in
    let reaches : power elements h (2 ^ n) ≡ elements.one =
    sym (kept_power (embedded_is_embedding small_laws.of_ring (residue 11)).keeps (root n) _ (2 ^ n) refl) ∙
    ap element_of (sym (squarings_is_power small_laws.of_ring (root n) n) ∙ root_reaches n) in
    let unity : power elements (power elements h point.0) (2 ^ n) ≡ elements.one =
    power-power laws.of_ring h point.0 (2 ^ n) ∙ ap (power elements h) (omega arith) ∙ sym (power-power laws.of_ring h (2 ^ n) point.0) ∙
    ap (λ t. power elements t point.0) reaches ∙ power-one laws.of_ring point.0 in
    ap (λ t. difference elements t elements.one) (ap (λ t. power elements t (2 ^ n)) point.1 ∙ unity) ∙ laws.of_ring.add_neg elements.one

refusal_clash : (why : Refusal) → Refused why ≡ Accepted → ⊥
refusal_clash why h = cc

bad_input_clash : BadInput ≡ Accepted → ⊥
bad_input_clash h = cc

module _ {K : Type 0} {ring : RingOps K} {inverse : K → K} (laws : FieldLaws ring inverse) (x y : K) where
  same_if_accepted : if_same laws x y Accepted (Refused OodEvaluationMismatch) ≡ Accepted → x ≡ y
  same_if_accepted = elim (laws.decides x y) as (λ d. elim d [ inl e ↦ Accepted | inr n ↦ Refused OodEvaluationMismatch ] ≡ Accepted → x ≡ y) [
    | inl e ↦ λ h. e
    | inr n ↦ λ h. absurd (refusal_clash OodEvaluationMismatch h)
  ]

  other_if_accepted : (v : Verdict) → if_same laws x y (Refused OodPointInDomain) v ≡ Accepted → (x ≢ y) × (v ≡ Accepted)
  other_if_accepted v = elim (laws.decides x y) as (λ d. elim d [ inl e ↦ Refused OodPointInDomain | inr n ↦ v ] ≡ Accepted → (x ≢ y) × (v ≡ Accepted)) [
    | inl e ↦ λ h. absurd (refusal_clash OodPointInDomain h)
    | inr n ↦ λ h. (n, h)
  ]

none_if_accepted : {X : Type 0} (fault : Option X) (v : Verdict) → if_none fault v (Refused PeriodicColumn) ≡ Accepted → (fault ≡ None) × (v ≡ Accepted)
none_if_accepted None v h = (refl, h)
none_if_accepted (Some x) v h = absurd (refusal_clash PeriodicColumn h)

true_if_accepted : (b : Bool) (v w : Verdict) → (w ≡ Accepted → ⊥) → (if b then v else w) ≡ Accepted → (b ≡ true) × (v ≡ Accepted)
true_if_accepted true v w other h = (refl, h)
true_if_accepted false v w other h = absurd (other h)

module _ (air : CheckedAir Base) (log_chunks : ℕ) (m : CheckNumbers) where
  holds_at_point : found_at_point air log_chunks m ≡ Accepted → (IsPointOfH m → ⊥) × (periodic_fault air m ≡ None) × IsBalanced air log_chunks m
  unfolding found_at_point
  holds_at_point h =
      let point = other_if_accepted laws_of_elements (vanishing m) elements.zero _ h in
      let columns = none_if_accepted (periodic_fault air m) _ point.1 in
      (λ inside. point.0 (vanishing_at_point m inside), columns.0, same_if_accepted laws_of_elements (folded air m) (elements.mul (vanishing m) (quotient log_chunks m)) columns.1)

  pub holds_if_accepted : IsCutInto air log_chunks → checked air log_chunks m ≡ Accepted → CheckHolds air log_chunks m
  unfolding checked
  holds_if_accepted cut h =
      let domain = true_if_accepted (nat_le (m.log_height + log_chunks) 12) _ (Refused QuotientDomainTooLarge) (refusal_clash QuotientDomainTooLarge) h in
      let count = true_if_accepted (length m.chunks == 2 ^ log_chunks) (found_at_point air log_chunks m) BadInput bad_input_clash domain.1 in
      let point = holds_at_point count.1 in
      record {
        cut = cut;
        within = leb-true (m.log_height + log_chunks) 12 domain.0;
        chunks = eqb-true (length m.chunks) (2 ^ log_chunks) count.0;
        outside = point.0;
        fitting = point.1;
        balanced = point.2;
      }

-- What is accepted was read, in the AIR's shape, and the AIR's check holds of it.
pub holds_of_read : (air : CheckedAir Base) (log_chunks : ℕ) → IsCutInto air log_chunks → (read : Option CheckNumbers) → check_verdict air log_chunks read ≡ Accepted
    → (m : CheckNumbers) × (read ≡ Some m) × (has_shape (shape_of air) m ≡ true) × CheckHolds air log_chunks m
holds_of_read air log_chunks cut None h = absurd (bad_input_clash h)
holds_of_read air log_chunks cut (Some m) h =
    let shaped = true_if_accepted (has_shape (shape_of air) m) (checked air log_chunks m) BadInput bad_input_clash h in
    (m, refl, shaped.0, holds_if_accepted air log_chunks m cut shaped.1)
