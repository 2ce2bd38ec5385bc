-- What a proof without a fault of shape has.
use Rattle.std.proofs.Common.{◌≡◌, ◌∙◌, ◌≤◌, ◌==◌, ◌&&◌, arith, sym, refl, ℕ, All, Bool, true, false, not, List, length, replicate, unwrap_or, Option, None, Some, nat_lt}
use Rattle.std.specs.List.{list_all}
use Rattle.std.proofs.lemmas.Bool.{and_parts, eqb-true, ltb-false}
use Rattle.std.proofs.lemmas.List.{length-replicate}
use Rattle.std.proofs.lemmas.List.Sums.{AllPass-from_list_all}
use Rattle.std.specs.Option.{option_or}
use Rattle.stark_support.specs.OptionFacts.{both_none}
use Rattle.stark_air.specs.Layout.{Layout, Covers}
use Rattle.stark_air.specs.Declaration.{Trace, IsDeclared}
use Rattle.stark_transcript.specs.Shape.{opens_next_row}
use Rattle.stark_transcript.specs.declared.error.InvalidProofShapeError.TheVariants.{NonCanonicalAlphaPowWitness, NonCanonicalOodPowWitness, OpenedValuesDimensionMismatch, PreprocessedVerifierKeyInconsistency, PublicValuesLengthMismatch, TraceNextMismatch}
use Rattle.stark_protocol.specs.declared.preprocessed.PreprocessedVerifierKey.{PreprocessedVerifierKey}
use Rattle.stark_protocol.specs.Equation.{opened_layout}
use Rattle.stark_proof.specs.ProofView.{OpeningsView, PreprocessedView}
use Rattle.stark_protocol.specs.Acceptance.{preprocessed_local, preprocessed_next, rows_of}
use Rattle.stark_protocol.specs.ShapeFaults.{dimensions_fault, expected_next, fault_if, key_degree_fault, key_width_fault, opened_fault, preprocessed_fault, preprocessed_rows_fault, public_values_fault, random_fits, trace_next_fault, unread_next_fault, width_in_force, width_of, witness_fault}
use Rattle.stark_protocol.specs.AcceptanceFacts.{next_at_most, not_found}

-- the test that an error denies
pub met : {X : Type 0} (b : Bool) (error : X) → fault_if (not b) error ≡ None → b ≡ true
met true error e = refl
met false error e = absurd (cc)

-- ---- widths

pub in_force : {K : Type 0} (key : Option (PreprocessedVerifierKey K)) (width : ℕ) → key_width_fault key width ≡ None → width_in_force key width ≡ width
in_force None width e = refl
in_force (Some key) width e = eqb-true key.width width (and_parts (nat_lt 0 key.width) (key.width == width) (met (nat_lt 0 key.width && key.width == width) PreprocessedVerifierKeyInconsistency e)).1

next_is_wide : {E : Type 0} (zero : E) (width wide : ℕ) (reads_next : Bool) (next : Option (List E)) → wide ≡ width → width_of next ≡ expected_next reads_next wide → unread_next_fault reads_next next ≡ None
    → length (unwrap_or next (replicate width zero)) ≡ width
next_is_wide zero width wide reads_next None same got unread = length-replicate width zero
next_is_wide zero width wide true (Some row) same got unread = got ∙ same
next_is_wide zero width wide false (Some row) same got unread = absurd (cc)

preprocessed_widths : {E : Type 0} (zero : E) (width wide : ℕ) (reads_next : Bool) (rows : Option (PreprocessedView E)) → wide ≡ width → preprocessed_rows_fault wide reads_next rows ≡ None
    → (length (preprocessed_local rows) ≡ width) × (length (preprocessed_next (replicate width zero) rows) ≡ width)
preprocessed_widths zero width wide reads_next None same e =
    let none : wide ≤ 0 = ltb-false 0 wide (not_found (nat_lt 0 wide) _ e) in
    (omega (arith, same), omega (arith, same))
preprocessed_widths zero width wide reads_next (Some rows) same e =
    let later = (both_none (fault_if (wide == 0) _) _ e).1 in
    let both = both_none (fault_if (not (length rows.local == wide && width_of rows.next == expected_next reads_next wide)) _) (unread_next_fault reads_next rows.next) later in
    let parts = and_parts (length rows.local == wide) (width_of rows.next == expected_next reads_next wide) (met (length rows.local == wide && width_of rows.next == expected_next reads_next wide) _ both.0) in
    (eqb-true (length rows.local) wide parts.0 ∙ same, next_is_wide zero width wide reads_next rows.next same (eqb-true (width_of rows.next) (expected_next reads_next wide) parts.1) both.1)

trace_next_width : {E : Type 0} (zero : E) (reads_next : Bool) (width : ℕ) (next : Option (List E)) → trace_next_fault reads_next width next ≡ None → length (unwrap_or next (replicate width zero)) ≡ width
trace_next_width zero true width None e = absurd (cc)
trace_next_width zero true width (Some row) e = eqb-true (length row) width (met (length row == width) (TraceNextMismatch None) e)
trace_next_width zero false width None e = length-replicate width zero
trace_next_width zero false width (Some row) e = absurd (cc)

-- as many public values as the AIR reads
pub public_values_are : {E : Type 0} (expected public_values : ℕ) (reads_next : Bool) (width count dimension : ℕ) (opened : OpeningsView E) (alpha_bits : ℕ) (alpha_is_zero : Bool) (bits : ℕ) (is_zero : Bool)
    → opened_fault expected public_values reads_next width count dimension opened alpha_bits alpha_is_zero bits is_zero ≡ None → public_values ≡ expected
public_values_are expected public_values reads_next width count dimension opened alpha_bits alpha_is_zero bits is_zero clear =
    eqb-true public_values expected (met (public_values == expected) (PublicValuesLengthMismatch expected public_values) (both_none (public_values_fault expected public_values) _ clear).0)

-- ---- a proof without a fault

-- The opened rows, public values and chunks of a proof, beside what an AIR declares.
module _ {F E K : Type 0} (zero : E) (key : Option (PreprocessedVerifierKey K)) (layout : Layout) (main_next preprocessed_next_columns : List ℕ) (degree_bits : ℕ) (opened : OpeningsView E) (public_values : List F) (count dimension alpha_bits : ℕ) (alpha_is_zero : Bool) (bits : ℕ) (is_zero : Bool)
    (rows_clear : preprocessed_fault key layout.preprocessed (opens_next_row preprocessed_next_columns) degree_bits opened.preprocessed ≡ None)
    (values_clear : opened_fault layout.public_values (length public_values) (opens_next_row main_next) layout.main count dimension opened alpha_bits alpha_is_zero bits is_zero ≡ None) where
  preprocessed_widths_are : (length (preprocessed_local opened.preprocessed) ≡ layout.preprocessed) × (length (preprocessed_next (replicate layout.preprocessed zero) opened.preprocessed) ≡ layout.preprocessed)
  preprocessed_widths_are =
      let wide = width_in_force key layout.preprocessed in
      let parts = both_none (preprocessed_rows_fault wide (opens_next_row preprocessed_next_columns) opened.preprocessed) _ rows_clear in
      preprocessed_widths zero layout.preprocessed wide (opens_next_row preprocessed_next_columns) opened.preprocessed
      (in_force key layout.preprocessed (both_none (key_width_fault key layout.preprocessed) (key_degree_fault key degree_bits) parts.1).0) parts.0

  pub one_width : length (preprocessed_local opened.preprocessed) ≡ length (preprocessed_next (replicate layout.preprocessed zero) opened.preprocessed)
  one_width = preprocessed_widths_are.0 ∙ sym preprocessed_widths_are.1

  public_values_counted : length public_values ≡ layout.public_values
  public_values_counted = public_values_are layout.public_values (length public_values) (opens_next_row main_next) layout.main count dimension opened alpha_bits alpha_is_zero bits is_zero values_clear

  past_public_values : option_or (trace_next_fault (opens_next_row main_next) layout.main opened.trace_next)
      (option_or (dimensions_fault layout.main count dimension opened.trace_local opened.quotient_chunks opened.random)
      (option_or (witness_fault NonCanonicalAlphaPowWitness alpha_bits alpha_is_zero) (witness_fault NonCanonicalOodPowWitness bits is_zero))) ≡ None
  past_public_values = (both_none (public_values_fault layout.public_values (length public_values)) _ values_clear).1

  next_width_is : length (unwrap_or opened.trace_next (replicate layout.main zero)) ≡ layout.main
  next_width_is = trace_next_width zero (opens_next_row main_next) layout.main opened.trace_next (both_none (trace_next_fault (opens_next_row main_next) layout.main opened.trace_next) _ past_public_values).0

  dimensions_are : (length opened.trace_local == layout.main
      && (length opened.quotient_chunks == count && (list_all (λ chunk. length chunk == dimension) opened.quotient_chunks && random_fits dimension opened.random))) ≡ true
  dimensions_are =
      let past_next = (both_none (trace_next_fault (opens_next_row main_next) layout.main opened.trace_next) _ past_public_values).1 in
      met _ OpenedValuesDimensionMismatch (both_none (dimensions_fault layout.main count dimension opened.trace_local opened.quotient_chunks opened.random) _ past_next).0

  chunk_dimensions : (length opened.quotient_chunks == count && (list_all (λ chunk. length chunk == dimension) opened.quotient_chunks && random_fits dimension opened.random)) ≡ true
  chunk_dimensions = (and_parts (length opened.trace_local == layout.main) _ dimensions_are).1

  pub chunks_counted : length opened.quotient_chunks ≡ count
  chunks_counted = eqb-true _ _ (and_parts (length opened.quotient_chunks == count) _ chunk_dimensions).0

  pub chunks_long : All (λ chunk. length chunk ≡ dimension) opened.quotient_chunks
  chunks_long =
      let rest = (and_parts (length opened.quotient_chunks == count) _ chunk_dimensions).1 in
      let all = (and_parts (list_all (λ chunk. length chunk == dimension) opened.quotient_chunks) _ rest).0 in
      λ k d within. eqb-true _ _ (AllPass-from_list_all (λ chunk. length chunk == dimension) opened.quotient_chunks all k d within)

  -- The opened rows have what the AIR reads.
  pub rows_cover : (periodic : List E) (preprocessed : Option (Trace F)) (columns : List (List F)) → IsDeclared layout preprocessed columns main_next preprocessed_next_columns → length periodic ≡ length columns
      → Covers (opened_layout (rows_of zero layout.main layout.preprocessed opened periodic public_values)) layout
  rows_cover periodic preprocessed columns declared counted = record {
    main = omega (arith, eqb-true (length opened.trace_local) layout.main (and_parts (length opened.trace_local == layout.main) _ dimensions_are).0);
    main_next = omega (arith, next_width_is, declared.main_next_row, next_at_most main_next layout.main);
    preprocessed = omega (arith, preprocessed_widths_are.0);
    preprocessed_next = omega (arith, preprocessed_widths_are.1, declared.preprocessed_next_row, next_at_most preprocessed_next_columns layout.preprocessed);
    public_values = omega (arith, public_values_counted);
    periodics = omega (arith, counted, declared.periodic_columns);
  }
