-- From what is found of one point to the function of the numbers.
use Rattle.std.proofs.Common.{◌≡◌, ◌≢◌, ◌⊎◌, inl, inr, refl, sym, subst, ◌∙◌, ap, arith, ℕ, ◌+◌, ◌-◌, ◌*◌, ◌%◌, ◌<◌, ◌≤◌, ◌^◌, ◌==◌, Bool, true, false, if◌then◌else◌, All, get_or, List, length, map, Option, Some, None}
use Rattle.std.specs.List.{list_all}
use Rattle.std.proofs.lemmas.Bool.{and_parts, eqb-true, eq-eqb, ne_eqb, le-leb, lt-leb, cases_lt, true≢false}
use Rattle.std.proofs.Math.Nat.{mod-eq_of_lt}
use Rattle.stark_support.specs.ListFacts.{same_maps}
use Rattle.stark_support.specs.LogarithmFacts.{two_power_at_most}
use Rattle.std.proofs.lemmas.List.{length-map, get_or-map}
use Rattle.std.proofs.lemmas.Simd.{map-map}
use Rattle.std.proofs.lemmas.List.Sums.{AllPass-from_list_all}
use Rattle.stark_support.specs.Ring.{RingOps, FieldLaws}
use Rattle.stark_support.specs.FieldFacts.{if_same, if_same-same, if_same-other}
use Rattle.stark_support.specs.Coset.{TwoAdicCoset, coset_size, coset_vanishing, subgroup_vanishing}
use Rattle.stark_support.specs.Periodic.{first_fault, periodic_value}
use Rattle.stark_support.specs.Recomposition.{recomposition}
use Rattle.stark_support.specs.Subgroup.{subgroup_of}
use Rattle.stark_support.specs.SubgroupFacts.{vanishing_of_subgroup}
use Rattle.stark_support.specs.declared.periodic.PeriodicColumnShapeError.{PeriodicColumnShapeError}
use Rattle.stark_air.specs.Layout.{Layout, Covers}
use Rattle.stark_air.specs.Declaration.{Trace, IsDeclared}
use Rattle.stark_fields.specs.Residues.{residue, residue_ring, residue_inverse}
use Rattle.stark_fields.specs.SmallResidues.{small_laws, small_two_adic}
use Rattle.stark_fields.specs.PrimeField.{root}
use Rattle.stark_fields.specs.Ext4Field.{basis_of, embedded_is_embedding}
use Rattle.stark_protocol.specs.Equation.{OpenedRows, opened_layout}
use Rattle.stark_answers.specs.CheckedAir.{CheckedAir, shape_of}
use Rattle.stark_commands.specs.Check.{IsBalanced, checked, element_of, found_at_point, folded, inverse_of, if_none, check_verdict, laws_of_elements, opened_rows, periodic_fault, periodic_values, quotient, trace_coset, vanishing}
use Rattle.stark_commands.specs.Input.{CheckNumbers, Base, Extension, elements, has_shape, numbers_in, zeros}
use Rattle.stark_protocol.specs.Sizes.{chunk_shifts, quotient_coset}
use Rattle.stark_protocol.specs.AcceptanceFacts.{next_at_most}
use Rattle.stark_commands.specs.Point.{EquationVerdict, IsOutsideCoset, PointVerdict, TellsEquation}
use Rattle.stark_answers.specs.declared.shape.CheckShape.{CheckShape}
use Rattle.stark_answers.specs.declared.verdict.Verdict.{Verdict}
use Rattle.stark_answers.specs.declared.verdict.Verdict.TheVariants as verdict
use Rattle.stark_answers.specs.declared.verdict.Verdict.TheVariants.{Accepted, Refused, BadInput}
use Rattle.stark_answers.specs.declared.verdict.Refusal.TheVariants.{OodPointInDomain, OodEvaluationMismatch, PeriodicColumn, QuotientDomainTooLarge, Pcs, GrindExhausted, AirTooLarge, OutOfMemory, InvalidProofShape, InvalidOpeningArgument, RandomizationError, NextPointUnavailable, InvalidAlphaPowWitness, InvalidOodPowWitness}

-- A verdict that tells an equation is the function of its sides, or memory is wanting.
module _ {K : Type 0} {ring : RingOps K} {inverse : K → K} (laws : FieldLaws ring inverse) (left right : K) where
  stated_by : (v : Verdict) → TellsEquation (left ≡ right) v → (v ≡ if_same laws left right Accepted (Refused OodEvaluationMismatch)) ⊎ (v ≡ Refused OutOfMemory)
  stated_by Accepted h = inl (sym (if_same-same laws left right Accepted (Refused OodEvaluationMismatch) h))
  stated_by (Refused OodPointInDomain) h = absurd h
  stated_by (Refused OodEvaluationMismatch) h = inl (sym (if_same-other laws left right Accepted (Refused OodEvaluationMismatch) h))
  stated_by (Refused PeriodicColumn) h = absurd h
  stated_by (Refused QuotientDomainTooLarge) h = absurd h
  stated_by (Refused Pcs) h = absurd h
  stated_by (Refused GrindExhausted) h = absurd h
  stated_by (Refused AirTooLarge) h = absurd h
  stated_by (Refused OutOfMemory) h = inr refl
  stated_by (Refused (InvalidProofShape fault)) h = absurd h
  stated_by (Refused InvalidOpeningArgument) h = absurd h
  stated_by (Refused RandomizationError) h = absurd h
  stated_by (Refused NextPointUnavailable) h = absurd h
  stated_by (Refused InvalidAlphaPowWitness) h = absurd h
  stated_by (Refused InvalidOodPowWitness) h = absurd h
  stated_by BadInput h = absurd h
  stated_by verdict.OutOfMemory h = absurd h

-- What is found at zeta, step by step.
module _ (air : CheckedAir Base) (log_chunks : ℕ) (m : CheckNumbers) where
  pub found_inside : vanishing m ≡ elements.zero → Refused OodPointInDomain ≡ found_at_point air log_chunks m
  unfolding found_at_point
  found_inside inside = sym (if_same-same laws_of_elements (vanishing m) elements.zero (Refused OodPointInDomain) _ inside)

  found_outside : vanishing m ≢ elements.zero → (fault : Option PeriodicColumnShapeError) → periodic_fault air m ≡ fault →
      if_none fault (if_same laws_of_elements (folded air m) (elements.mul (vanishing m) (quotient log_chunks m)) Accepted (Refused OodEvaluationMismatch)) (Refused PeriodicColumn) ≡ found_at_point air log_chunks m
  unfolding found_at_point
  found_outside outside fault is = ap (λ f. if_none f (if_same laws_of_elements (folded air m) (elements.mul (vanishing m) (quotient log_chunks m)) Accepted (Refused OodEvaluationMismatch)) (Refused PeriodicColumn)) (sym is) ∙
      sym (if_same-other laws_of_elements (vanishing m) elements.zero (Refused OodPointInDomain) _ outside)

  pub found_fault : vanishing m ≢ elements.zero → (fault : PeriodicColumnShapeError) → periodic_fault air m ≡ Some fault → Refused PeriodicColumn ≡ found_at_point air log_chunks m
  found_fault outside fault is = found_outside outside (Some fault) is

  pub found_equation : vanishing m ≢ elements.zero → periodic_fault air m ≡ None → (v : Verdict) → TellsEquation (IsBalanced air log_chunks m) v
      → (v ≡ found_at_point air log_chunks m) ⊎ (v ≡ Refused OutOfMemory)
  found_equation outside fits v h = elim (stated_by laws_of_elements (folded air m) (elements.mul (vanishing m) (quotient log_chunks m)) v h) [
    | inl is ↦ inl (is ∙ found_outside outside None fits)
    | inr memory ↦ inr memory
  ]

  pub found_too_large : 12 < m.log_height + log_chunks → Refused QuotientDomainTooLarge ≡ checked air log_chunks m
  unfolding checked
  found_too_large above =
      ap (λ b. if b then (if length m.chunks == 2 ^ log_chunks then found_at_point air log_chunks m else BadInput) else Refused QuotientDomainTooLarge) (sym (lt-leb (m.log_height + log_chunks) 12 above))

  within_domain : m.log_height + log_chunks ≤ 12 → (if length m.chunks == 2 ^ log_chunks then found_at_point air log_chunks m else BadInput) ≡ checked air log_chunks m
  unfolding checked
  within_domain within =
      ap (λ b. if b then (if length m.chunks == 2 ^ log_chunks then found_at_point air log_chunks m else BadInput) else Refused QuotientDomainTooLarge) (sym (le-leb (m.log_height + log_chunks) 12 within))

  pub found_uncounted : m.log_height + log_chunks ≤ 12 → (length m.chunks ≡ 2 ^ log_chunks → ⊥) → BadInput ≡ checked air log_chunks m
  found_uncounted within other =
      ap (λ b. if b then found_at_point air log_chunks m else BadInput) (sym (ne_eqb (length m.chunks) (2 ^ log_chunks) other)) ∙ within_domain within

  pub found_counted : m.log_height + log_chunks ≤ 12 → length m.chunks ≡ 2 ^ log_chunks → found_at_point air log_chunks m ≡ checked air log_chunks m
  found_counted within count =
      ap (λ b. if b then found_at_point air log_chunks m else BadInput) (sym (eq-eqb (length m.chunks) (2 ^ log_chunks) count)) ∙ within_domain within

  -- What the equation over the lists in memory tells is told of the numbers.
  pub stated_of_numbers : (coset : TwoAdicCoset Base) (local next preprocessed_local preprocessed_next periodic : List Extension) (public_values : List Base) (q : Extension) (v : Verdict)
      → coset ≡ trace_coset m.log_height → local ≡ m.local → next ≡ m.next → preprocessed_local ≡ m.preprocessed_local → preprocessed_next ≡ zeros air.layout.preprocessed → periodic ≡ periodic_values air m → public_values ≡ m.public_values
      → q ≡ quotient log_chunks m
      → EquationVerdict residue_ring elements element_of (subgroup_of inverse_of element_of root coset) air.constraints
      (record { local = local; next = next; preprocessed_local = preprocessed_local; preprocessed_next = preprocessed_next; periodic = periodic; public_values = public_values }) m.zeta m.alpha q v
      → TellsEquation (IsBalanced air log_chunks m) v
  stated_of_numbers coset local next preprocessed_local preprocessed_next periodic public_values q v ec el en ef eg er ep eq h =
      let at : TwoAdicCoset Base → OpenedRows Base Extension → Extension → Type 0 = λ c rows t.
      EquationVerdict residue_ring elements element_of (subgroup_of inverse_of element_of root c) air.constraints rows m.zeta m.alpha t v in
      let rows : List Extension → List Extension → List Extension → List Extension → List Extension → List Base → OpenedRows Base Extension = λ l x f g r p.
      record { local = l; next = x; preprocessed_local = f; preprocessed_next = g; periodic = r; public_values = p } in
      let same : rows local next preprocessed_local preprocessed_next periodic public_values ≡ opened_rows air m =
      ap (λ l. rows l next preprocessed_local preprocessed_next periodic public_values) el ∙
      ap (λ x. rows m.local x preprocessed_local preprocessed_next periodic public_values) en ∙
      ap (λ f. rows m.local m.next f preprocessed_next periodic public_values) ef ∙
      ap (λ g. rows m.local m.next m.preprocessed_local g periodic public_values) eg ∙
      ap (λ r. rows m.local m.next m.preprocessed_local (zeros air.layout.preprocessed) r public_values) er ∙
      ap (λ p. rows m.local m.next m.preprocessed_local (zeros air.layout.preprocessed) (periodic_values air m) p) ep in
      subst (λ t. at (trace_coset m.log_height) (opened_rows air m) t) eq
      (subst (λ o. at (trace_coset m.log_height) o q) same
      (subst (λ c. at c (rows local next preprocessed_local preprocessed_next periodic public_values) q) ec h))

-- Rows of an AIR's widths and counts have what it reads.
pub rows_cover : (layout : Layout) (preprocessed : Option (Trace Base)) (columns : List (List Base)) (main_next preprocessed_next : List ℕ) (rows : OpenedRows Base Extension)
    → IsDeclared layout preprocessed columns main_next preprocessed_next → length rows.local ≡ layout.main → length rows.next ≡ layout.main
    → length rows.preprocessed_local ≡ layout.preprocessed → length rows.preprocessed_next ≡ layout.preprocessed
    → length rows.public_values ≡ layout.public_values → length rows.periodic ≡ length columns → Covers (opened_layout rows) layout
rows_cover layout preprocessed columns main_next preprocessed_next rows declared local next preprocessed_local preprocessed_after public_values periodic = record {
  main = omega (arith, local);
  main_next = omega (arith, next, declared.main_next_row, next_at_most main_next layout.main);
  preprocessed = omega (arith, preprocessed_local);
  preprocessed_next = omega (arith, preprocessed_after, declared.preprocessed_next_row, next_at_most preprocessed_next layout.preprocessed);
  public_values = omega (arith, public_values);
  periodics = omega (arith, periodic, declared.periodic_columns);
}

-- The widths and counts that numbers of a shape have.
pub record AreWidths (shape : CheckShape) (m : CheckNumbers) : Type 0 where
  pub public_values : length m.public_values ≡ shape.num_public_values
  pub local : length m.local ≡ shape.width
  pub next : length m.next ≡ shape.width
  pub preprocessed_local : length m.preprocessed_local ≡ shape.preprocessed_width
  pub chunks : All (λ chunk. length chunk ≡ 4) m.chunks

pub widths_of : (shape : CheckShape) (m : CheckNumbers) → has_shape shape m ≡ true → AreWidths shape m
widths_of shape m h =
    let last = and_parts _ (list_all (λ chunk. length chunk == 4) m.chunks) h in
    let fourth = and_parts _ (length m.preprocessed_local == shape.preprocessed_width) last.0 in
    let third = and_parts _ (length m.next == shape.width) fourth.0 in
    let first = and_parts (length m.public_values == shape.num_public_values) (length m.local == shape.width) third.0 in
    record {
      public_values = eqb-true _ _ first.0;
      local = eqb-true _ _ first.1;
      next = eqb-true _ _ third.1;
      preprocessed_local = eqb-true _ _ fourth.1;
      chunks = λ k d within. eqb-true _ _ (AllPass-from_list_all (λ chunk. length chunk == 4) m.chunks last.1 k d within);
    }

module _ {V : Type 0} (items : V → List Extension) (count : V → ℕ) (counted : (v : V) → count v ≡ length (items v)) where
  -- chunks of four coordinates, as they lie in memory
  pub chunks_of_four : (chunks holding : List V) → holding ≡ chunks → All (λ chunk. length chunk ≡ 4) (map items chunks) → All (λ v. count v ≡ 4) holding
  chunks_of_four chunks holding same four k d within =
      let inside : k < length chunks = omega (arith, within, ap length same) in
      ap (λ vs. count (get_or vs k d)) same ∙ counted (get_or chunks k d) ∙ ap length (sym (get_or-map items chunks k d (items d) inside)) ∙
      four k (items d) (omega (arith, inside, length-map chunks items))

module _ (air : CheckedAir Base) (m : CheckNumbers) where
  pub coset_vanishing_is : (coset : TwoAdicCoset Base) → coset ≡ trace_coset m.log_height → coset_vanishing elements (λ c. c) inverse_of (coset_size coset) (element_of coset.shift) m.zeta ≡ vanishing m
  coset_vanishing_is coset is =
      vanishing_of_subgroup laws_of_elements (embedded_is_embedding small_laws.of_ring (residue 11)) 12 root (residue 11) small_two_adic (coset_size coset) coset.shift m.zeta (ap (λ (c : TwoAdicCoset Base). c.shift) is) ∙
      ap (λ (k : ℕ). subgroup_vanishing elements (2 ^ k) m.zeta) (ap (λ (c : TwoAdicCoset Base). c.log_size) is)

  pub outside_coset : (coset : TwoAdicCoset Base) → coset ≡ trace_coset m.log_height → vanishing m ≢ elements.zero → IsOutsideCoset elements inverse_of element_of coset m.zeta
  unfolding IsOutsideCoset
  outside_coset coset is outside = λ inside. outside (sym (coset_vanishing_is coset is) ∙ inside)

  pub quotient_is : (log_chunks : ℕ) (coset : TwoAdicCoset Base) (chunks : List (List Extension)) → coset ≡ quotient_coset residue_ring (residue 11) (trace_coset m.log_height) log_chunks → chunks ≡ m.chunks
      → recomposition elements elements (λ c. c) inverse_of (2 ^ (coset.log_size - log_chunks)) (basis_of residue_ring) (chunk_shifts residue_ring root element_of coset log_chunks) chunks m.zeta ≡ quotient log_chunks m
  quotient_is log_chunks coset chunks is same =
      let at : ℕ → TwoAdicCoset Base → List (List Extension) → Extension = λ k c q. recomposition elements elements (λ e. e) inverse_of (2 ^ k) (basis_of residue_ring) (chunk_shifts residue_ring root element_of c log_chunks) q m.zeta in
      let whole : TwoAdicCoset Base = quotient_coset residue_ring (residue 11) (trace_coset m.log_height) log_chunks in
      let size : coset.log_size ≡ m.log_height + log_chunks = ap (λ (c : TwoAdicCoset Base). c.log_size) is in
      let rest : coset.log_size - log_chunks ≡ m.log_height = omega (arith, size) in
      ap (λ (k : ℕ). at k coset chunks) rest ∙ ap (λ c. at m.log_height c chunks) is ∙ ap (at m.log_height whole) same

  module _ {V : Type 0} (items : V → List Base) (columns : List V) (listed : map items columns ≡ air.periodic_columns) where
    pub values_of_columns : (k : ℕ) → k ≡ m.log_height
        → map (λ v. periodic_value residue_ring residue_inverse (root k) (2 ^ k) elements element_of (items v) m.zeta) columns ≡ periodic_values air m
    values_of_columns k is =
        let at : ℕ → List Base → Extension = λ n column. periodic_value residue_ring residue_inverse (root n) (2 ^ n) elements element_of column m.zeta in
        sym (map-map (at k) items columns) ∙ ap (λ (n : ℕ). map (at n) (map items columns)) is ∙ ap (map (at m.log_height)) listed

    pub fault_of_columns : (count : V → ℕ) → ((v : V) → count v ≡ length (items v)) → (size : ℕ) → size ≡ 2 ^ m.log_height → first_fault size 0 (map count columns) ≡ periodic_fault air m
    fault_of_columns count counted size is =
        ap (λ (n : ℕ). first_fault n 0 (map count columns)) is ∙
        ap (first_fault (2 ^ m.log_height) 0) (same_maps count (λ v. length (items v)) counted columns ∙ sym (map-map length items columns) ∙ ap (map length) listed)

-- What the equation at zeta tells over the columns and the chunks in memory is told of the numbers.
module _ (air : CheckedAir Base) (log_chunks : ℕ) (m : CheckNumbers) {V W : Type 0} (items : V → List Base) (columns : List V) (parts : W → List Extension) (chunks : List W) where
  pub stated_at_zeta : (coset whole : TwoAdicCoset Base) (local next preprocessed_local preprocessed_next : List Extension) (public_values : List Base) (v : Verdict)
      → coset ≡ trace_coset m.log_height → whole ≡ quotient_coset residue_ring (residue 11) (trace_coset m.log_height) log_chunks
      → local ≡ m.local → next ≡ m.next → preprocessed_local ≡ m.preprocessed_local → preprocessed_next ≡ zeros air.layout.preprocessed → public_values ≡ m.public_values
      → map items columns ≡ air.periodic_columns → map parts chunks ≡ m.chunks
      → PointVerdict residue_ring residue_inverse root elements inverse_of element_of (basis_of residue_ring) coset whole log_chunks air.constraints items columns parts chunks
      (λ periodic. record { local = local; next = next; preprocessed_local = preprocessed_local; preprocessed_next = preprocessed_next; periodic = periodic; public_values = public_values }) m.zeta m.alpha v
      → TellsEquation (IsBalanced air log_chunks m) v
  unfolding PointVerdict
  stated_at_zeta coset whole local next preprocessed_local preprocessed_next public_values v ec ew el en ef eg ep columned chunked h =
      stated_of_numbers air log_chunks m coset local next preprocessed_local preprocessed_next
      (map (λ v. periodic_value residue_ring residue_inverse (root coset.log_size) (coset_size coset) elements element_of (items v) m.zeta) columns) public_values
      (recomposition elements elements (λ c. c) inverse_of (2 ^ (whole.log_size - log_chunks)) (basis_of residue_ring) (chunk_shifts residue_ring root element_of whole log_chunks) (map parts chunks) m.zeta) v
      ec el en ef eg (values_of_columns air m items columns columned coset.log_size (ap (λ (c : TwoAdicCoset Base). c.log_size) ec)) ep
      (quotient_is air m log_chunks whole (map parts chunks) ew chunked) h

-- a power of two in a machine's word
pub shifted_one : (n : ℕ) → n ≤ 12 → (1 * 2 ^ n) % 2 ^ 64 ≡ 2 ^ n
shifted_one n small =
    let bound : 2 ^ n ≤ 2 ^ 12 = two_power_at_most n 12 small in
    ap (λ (k : ℕ). k % 2 ^ 64) (omega arith) ∙ mod-eq_of_lt (omega (arith, bound))

-- some domain is there only where its size is one of the field's
pub within_adicity : (n : ℕ) → (12 < n → true ≡ false) → n ≤ 12
within_adicity n none = elim (cases_lt 12 n) [
  | inl above ↦ absurd (true≢false (none above))
  | inr within ↦ within
]

-- What is found of what was read.
module _ (air : CheckedAir Base) (log_chunks : ℕ) (shape : CheckShape) (bytes : List ℕ) (is : shape ≡ shape_of air) where
  pub unread_verdict : numbers_in shape bytes ≡ None → BadInput ≡ check_verdict air log_chunks (numbers_in (shape_of air) bytes)
  unread_verdict none = ap (check_verdict air log_chunks) (sym none ∙ ap (λ s. numbers_in s bytes) is)

  judged_of : (m : CheckNumbers) (b : Bool) → numbers_in shape bytes ≡ Some m → has_shape shape m ≡ b
      → (if b then checked air log_chunks m else BadInput) ≡ check_verdict air log_chunks (numbers_in (shape_of air) bytes)
  judged_of m b read shaped =
      ap (λ t. if t then checked air log_chunks m else BadInput) (sym shaped ∙ ap (λ s. has_shape s m) is) ∙ ap (check_verdict air log_chunks) (sym read ∙ ap (λ s. numbers_in s bytes) is)

  pub shaped_verdict : (m : CheckNumbers) → numbers_in shape bytes ≡ Some m → has_shape shape m ≡ true → checked air log_chunks m ≡ check_verdict air log_chunks (numbers_in (shape_of air) bytes)
  shaped_verdict m read shaped = judged_of m true read shaped

  pub unshaped_verdict : (m : CheckNumbers) → numbers_in shape bytes ≡ Some m → has_shape shape m ≡ false → BadInput ≡ check_verdict air log_chunks (numbers_in (shape_of air) bytes)
  unshaped_verdict m read shaped = judged_of m false read shaped
