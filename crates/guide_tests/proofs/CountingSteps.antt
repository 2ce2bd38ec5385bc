-- A trace that counts satisfies the counter's constraints.
use Rattle.std.proofs.Common.{◌≡◌, ◌≢◌, ◌∙◌, ap, sym, subst, arith, inl, inr, refl, ℕ, zero, suc, add-one, ◌+◌, ◌-◌, ◌*◌, ◌%◌, ◌^◌, ◌<◌, List, [], ◌∷◌, length, Bool, None}
use Rattle.std.specs.Prelude.{drop, slice_index_or, take}
use Rattle.std.proofs.Math.Nat.{mod-eq_of_lt}
use Rattle.std.proofs.lemmas.Bool.{cases_lt}
use Rattle.stark_support.specs.Ring.{RingOps, FieldLaws, difference}
use Rattle.stark_support.specs.RingFacts.{mul_zero, zero_mul, neg_add_cancel}
use Rattle.stark_support.specs.Powers.{power}
use Rattle.stark_support.specs.TwoAdic.{HasOrder}
use Rattle.stark_support.specs.Scheme.{matrix_row, zk_bits}
use Rattle.stark_support.specs.Selectors.{first_row_selector, transition_selector}
use Rattle.stark_support.specs.Subgroup.{group_of}
use Rattle.stark_samples.specs.Samples.{counter_constraints}
use Rattle.stark_parts.specs.SizingLaw.{AreSizable, HasSmallBound}
use Rattle.stark_proof.specs.ProofView.{ProofView}
use Rattle.stark_support.specs.FieldPair.{FieldsOps}
use Rattle.stark_protocol.specs.Instance.{Instance, ProtocolOps}
use Rattle.stark_protocol.specs.Sizes.{log_parts_of}
use Rattle.stark_completeness.specs.RowSatisfaction.{HoldsInEachRow}
use Rattle.stark_completeness.specs.TrueOpenings.{air_over}
use Rattle.stark_completeness.proofs.SelectorRows.{first_elsewhere, transition_at_end}
use Rattle.p3_uni_stark.proofs.SizedDegrees.{sizable_degrees_fit}
use Rattle.stark_test_proofs.specs.MadeProofs.{IsDrawnOutside}
use Rattle.guide_tests.specs.Counting.{count_at, counted_from}

-- What two fields compute, in one record.
abbrev pub fields_with : {F E : Type 0} → RingOps F → (F → F) → (F → F → Bool) → ℕ → (ℕ → F) → F → RingOps E → (E → E) → (F → E) → ℕ → List E → FieldsOps F E
fields_with base base_inverse same adicity root generator ring inverse embed dimension basis =
    record { base = base; base_inverse = base_inverse; same = same; adicity = adicity; root = root; generator = generator; ring = ring; inverse = inverse; embed = embed; dimension = dimension; basis = basis }

module _ {K : Type 0} (ring : RingOps K) (start : K) where
  dropped : (m n k : ℕ) → k < n → take 1 (drop k (counted_from ring start m n)) ≡ count_at ring start (m + k) ∷ []
  dropped m zero k h = absurd (omega (arith, h))
  dropped m (suc n) zero h = ap (λ j. count_at ring start j ∷ []) (omega arith)
  dropped m (suc n) (suc k) h = dropped (suc m) n k (omega (arith, h)) ∙ ap (λ j. count_at ring start j ∷ []) (omega arith)

  -- row k of a trace that counts
  count_row : (n k : ℕ) → k < n → matrix_row (counted_from ring start 0 n) 1 k ≡ count_at ring start k ∷ []
  count_row n k h =
      let values = counted_from ring start 0 n in
      let one : k * 1 + 1 - k * 1 ≡ 1 = omega arith in
      let place : k * 1 ≡ k = omega arith in
      ap (λ c. take c (drop (k * 1) values)) one ∙ ap (λ c. take 1 (drop c values)) place ∙ dropped 0 n k h ∙ ap (λ j. count_at ring start j ∷ []) (let from_zero : 0 + k ≡ k = omega arith in from_zero)

  pub counted_length : (m n : ℕ) → length (counted_from ring start m n) ≡ n
  counted_length m zero = refl
  counted_length m (suc n) = ap suc (counted_length (suc m) n)

  pub next_number : (i : ℕ) (x one : K) → one ≡ ring.one → x ≡ count_at ring start i → ring.add x one ≡ count_at ring start (i + 1)
  next_number i x one is_one e = ap (ring.add x) is_one ∙ ap (λ t. ring.add t ring.one) e ∙ ap (count_at ring start) (sym (add-one i))

module _ {K : Type 0} {ring : RingOps K} {inverse : K → K} (laws : FieldLaws ring inverse) (g : K) (log_size : ℕ) (order : HasOrder ring g (2 ^ log_size)) (nonzero : g ≢ ring.zero)
    (start one : K) (is_one : one ≡ ring.one) where
  entry_is : (k : ℕ) → k < 2 ^ log_size → slice_index_or (matrix_row (counted_from ring start 0 (2 ^ log_size)) 1 k) 0 ring.zero ≡ count_at ring start k
  entry_is k h = ap (λ row. slice_index_or row 0 ring.zero) (count_row ring start (2 ^ log_size) k h)

  -- On the first row the column is the public value; elsewhere the selector is zero.
  starts : (k : ℕ) → k < 2 ^ log_size
      → ring.mul (first_row_selector ring (λ c. c) (group_of inverse g log_size) (power ring g k)) (difference ring (slice_index_or (matrix_row (counted_from ring start 0 (2 ^ log_size)) 1 k) 0 ring.zero) start) ≡ ring.zero
  starts zero h =
      let s = first_row_selector ring (λ c. c) (group_of inverse g log_size) (power ring g zero) in
      ap (λ x. ring.mul s (difference ring x start)) (entry_is zero h) ∙ ap (ring.mul s) (laws.of_ring.add_neg start) ∙ mul_zero laws.of_ring s
  starts (suc k) h =
      let d = difference ring (slice_index_or (matrix_row (counted_from ring start 0 (2 ^ log_size)) 1 (suc k)) 0 ring.zero) start in
      ap (λ s. ring.mul s d) (first_elsewhere laws g log_size order nonzero (suc k) (omega arith) h) ∙ zero_mul laws.of_ring d

  -- The next number less this one is one.
  one_apart : (x : K) → difference ring (difference ring (ring.add x ring.one) x) one ≡ ring.zero
  one_apart x =
      let grown : difference ring (ring.add x ring.one) x ≡ ring.one = laws.of_ring.add_comm (ring.add x ring.one) (ring.neg x) ∙ neg_add_cancel laws.of_ring x ring.one in
      ap (λ d. difference ring d one) grown ∙ ap (λ o. difference ring ring.one o) is_one ∙ laws.of_ring.add_neg ring.one

  steps : (k : ℕ) → k < 2 ^ log_size
      → ring.mul (transition_selector ring (λ c. c) (group_of inverse g log_size) (power ring g k))
      (difference ring (difference ring (slice_index_or (matrix_row (counted_from ring start 0 (2 ^ log_size)) 1 ((k + 1) % 2 ^ log_size)) 0 ring.zero)
      (slice_index_or (matrix_row (counted_from ring start 0 (2 ^ log_size)) 1 k) 0 ring.zero)) one) ≡ ring.zero
  steps k h = elim (cases_lt (k + 1) (2 ^ log_size)) [
    | inl inside ↦
        let s = transition_selector ring (λ c. c) (group_of inverse g log_size) (power ring g k) in
        let after : slice_index_or (matrix_row (counted_from ring start 0 (2 ^ log_size)) 1 ((k + 1) % 2 ^ log_size)) 0 ring.zero ≡ ring.add (count_at ring start k) ring.one
        = ap (λ j. slice_index_or (matrix_row (counted_from ring start 0 (2 ^ log_size)) 1 j) 0 ring.zero) (mod-eq_of_lt inside ∙ (let next : k + 1 ≡ suc k = omega arith in next)) ∙ entry_is (suc k) (omega (arith, inside)) in
        ap (λ x. ring.mul s (difference ring (difference ring x (slice_index_or (matrix_row (counted_from ring start 0 (2 ^ log_size)) 1 k) 0 ring.zero)) one)) after
        ∙ ap (λ x. ring.mul s (difference ring (difference ring (ring.add (count_at ring start k) ring.one) x) one)) (entry_is k h)
        ∙ ap (ring.mul s) (one_apart (count_at ring start k)) ∙ mul_zero laws.of_ring s
    | inr outside ↦
        let d = difference ring (difference ring (slice_index_or (matrix_row (counted_from ring start 0 (2 ^ log_size)) 1 ((k + 1) % 2 ^ log_size)) 0 ring.zero)
        (slice_index_or (matrix_row (counted_from ring start 0 (2 ^ log_size)) 1 k) 0 ring.zero)) one in
        ap (λ s. ring.mul s d) (transition_at_end laws g log_size order nonzero k (omega (arith, h, outside))) ∙ zero_mul laws.of_ring d
  ]

-- So the counter's AIR holds in each row.
pub holds_in_each_row : {F E : Type 0} (fields : FieldsOps F E) (laws : FieldLaws fields.base fields.base_inverse) (n : ℕ) (order : HasOrder fields.base (fields.root n) (2 ^ n)) (nonzero : fields.root n ≢ fields.base.zero)
    (start one : F) → one ≡ fields.base.one → (preprocessed : ℕ → List F) (numbers public_values : List F) (width : ℕ) → numbers ≡ counted_from fields.base start 0 (2 ^ n) → width ≡ 1 → public_values ≡ start ∷ []
    → HoldsInEachRow (air_over fields (counter_constraints one) [] n) (record { main = matrix_row numbers width; preprocessed = preprocessed; public_values = public_values })
holds_in_each_row fields laws n order nonzero start one is_one preprocessed numbers public_values width are one_wide is_public =
    subst (λ list. HoldsInEachRow (air_over fields (counter_constraints one) [] n) (record { main = matrix_row list width; preprocessed = preprocessed; public_values = public_values })) (sym are)
    (subst (λ w. HoldsInEachRow (air_over fields (counter_constraints one) [] n) (record { main = matrix_row (counted_from fields.base start 0 (2 ^ n)) w; preprocessed = preprocessed; public_values = public_values })) (sym one_wide)
    (subst (λ list. HoldsInEachRow (air_over fields (counter_constraints one) [] n) (record { main = matrix_row (counted_from fields.base start 0 (2 ^ n)) 1; preprocessed = preprocessed; public_values = list })) (sym is_public)
    (λ k h. (starts laws (fields.root n) n order nonzero start one is_one k h, (steps laws (fields.root n) n order nonzero start one is_one k h, tt)))))

-- Its degrees fit the quotient's domain.
sizable : {F : Type 0} (one : F) → AreSizable (counter_constraints one)
sizable one = record { single = (omega arith, (omega arith, tt)); unsaturated = omega arith }

pub degrees_fit : {F : Type 0} (one : F) (is_zk : Bool) (height : ℕ) → HasSmallBound (counter_constraints one) height (height + zk_bits is_zk) (log_parts_of (counter_constraints one) None (zk_bits is_zk))
degrees_fit one is_zk height = sizable_degrees_fit (counter_constraints one) (sizable one) None is_zk height

-- The public values under another name.
pub drawn_with : {S F E C K T P X Y : Type 0} (ops : ProtocolOps S F E C K T P X Y) (i : Instance S F C K) (p : ProofView K E P F) (public_values : List F) → public_values ≡ i.public_values → IsDrawnOutside ops i p
    → IsDrawnOutside ops (record i { public_values = public_values }) p
drawn_with ops i p public_values same drawn = subst (λ list. IsDrawnOutside ops (record i { public_values = list }) p) (sym same) drawn
