-- The shape of a proof of a trace has no fault, and its run holds but for the point.
use Rattle.std.proofs.Common.{◌≡◌, ◌∙◌, ap, arith, inl, inr, refl, sym, subst, ℕ, suc, ◌+◌, ◌^◌, ◌<◌, ◌≤◌, ◌==◌, ◌&&◌, Bool, true, false, not, List, [], ◌∷◌, length, map, Option, None, Some, Ok, option_map, nat_lt, nat_le}
use Rattle.std.specs.Prelude.{IfOk, IfSome, Result, Err, is_some, ltb, slice_get}
use Rattle.std.specs.List.{list_all}
use Rattle.std.specs.Option.{option_or}
use Rattle.std.proofs.lemmas.Bool.{eq-eqb, le-ltb, lt-leb, lt-ltb, ltb-true, ne_eqb}
use Rattle.std.proofs.lemmas.Bool.Decides.{eqb_tells}
use Rattle.std.proofs.lemmas.List.{length-map}
use Rattle.std.proofs.lemmas.List.Folds.{list_all-map}
use Rattle.stark_support.specs.Scheme.{QuotientChunk, SchemeLaws, committed_chunk, zk_bits}
use Rattle.stark_air.specs.Declaration.{Trace}
use Rattle.stark_transcript.specs.Shape.{opens_next_row}
use Rattle.stark_transcript.specs.declared.error.InvalidProofShapeError.{InvalidProofShapeError}
use Rattle.stark_transcript.specs.declared.error.InvalidProofShapeError.TheVariants.{DegreeBitsTooLarge, DegreeBitsTooSmall, NonCanonicalAlphaPowWitness, NonCanonicalOodPowWitness, OpenedValuesDimensionMismatch, PreprocessedVerifierKeyInconsistency, PreprocessedDegreeMismatch, PreprocessedTraceWidthMismatch, PublicValuesLengthMismatch, TraceNextMismatch, UnexpectedPreprocessedValues}
use Rattle.stark_transcript.specs.declared.error.ProvingError.{ProvingError}
use Rattle.stark_proof.specs.ProofView.{OpeningsView, ProofView}
use Rattle.stark_protocol.specs.Acceptance.{log_parts, of_shape, shape_fault}
use Rattle.stark_protocol.specs.Instance.{Instance, ProtocolOps}
use Rattle.stark_protocol.specs.OpenedClaims.{next_point}
use Rattle.stark_protocol.specs.ShapeFaults.{degree_fault, expected_next, fault_if, opened_fault, preprocessed_fault, preprocessed_rows_fault, random_fits, randomization_fault, trace_next_fault, unread_next_fault, width_of, witness_fault}
use Rattle.stark_protocol.specs.declared.preprocessed.PreprocessedProverData.{PreprocessedProverData}
use Rattle.stark_prover.specs.Acceptable.{IsAcceptable}
use Rattle.stark_prover.specs.CommittedColumns.{IsPreprocessedCommitment}
use Rattle.stark_prover.proofs.SizedSteps.{width_of_columns}
use Rattle.stark_prover.specs.ProofOfTrace.{IsProofOfTrace, IsRandomization, key_of, with_masks, without_masks, row_if, true_openings, true_preprocessed, values_at}

-- ---- tests that find nothing

no_fault : {X : Type 0} (b : Bool) (error : X) → b ≡ false → fault_if b error ≡ None
no_fault b error is = ap (λ x. fault_if x error) is

no_denial : {X : Type 0} (b : Bool) (error : X) → b ≡ true → fault_if (not b) error ≡ None
no_denial b error is = ap (λ x. fault_if (not x) error) is

none_of : {A : Type 0} (first later : Option A) → first ≡ None → later ≡ None → option_or first later ≡ None
none_of first later a b = ap (λ x. option_or x later) a ∙ b

both : (a b : Bool) → a ≡ true → b ≡ true → (a && b) ≡ true
both a b e f = ap (λ x. x && b) e ∙ f

-- ---- single tests

-- The committed height lies within a scheme's heights.
height_clear : (is_zk least greatest degree_bits : ℕ) → is_zk + least ≤ degree_bits → degree_bits ≤ greatest → degree_bits < 64 → degree_fault None degree_bits is_zk least greatest ≡ None
height_clear is_zk least greatest degree_bits low high small =
    none_of _ _ (no_fault (nat_lt degree_bits (is_zk + least)) (DegreeBitsTooSmall None (is_zk + least) degree_bits) (le-ltb degree_bits (is_zk + least) low))
    (none_of _ _ (no_fault (nat_lt greatest degree_bits) (DegreeBitsTooLarge None greatest degree_bits) (le-ltb greatest degree_bits high))
    (no_fault (nat_le 64 degree_bits) (DegreeBitsTooLarge None 63 degree_bits) (lt-leb 64 degree_bits small)))

-- A next row that is opened where it is read.
next_width : {E : Type 0} (reads : Bool) (row : List E) (width : ℕ) → length row ≡ width → width_of (row_if reads row) ≡ expected_next reads width
next_width true row width e = e
next_width false row width e = refl

read_alone : {E : Type 0} (reads : Bool) (row : List E) → unread_next_fault reads (row_if reads row) ≡ None
read_alone true row = refl
read_alone false row = refl

next_clear : {E : Type 0} (reads : Bool) (row : List E) (width : ℕ) → length row ≡ width → trace_next_fault reads width (row_if reads row) ≡ None
next_clear true row width e = no_denial (length row == width) (TraceNextMismatch None) (eq-eqb (length row) width e)
next_clear false row width e = refl

-- The random row is there with the random commitment, as long as there are columns.
random_clear : {K R X : Type 0} (is_zk : Bool) → is_zk ≡ true → (commitment : K) (row : R) → randomization_fault {X = X} is_zk (Some commitment) (Some row) ≡ None
random_clear {K} {R} {X} is_zk masked commitment row = ap (λ b. randomization_fault {K = K} {R = R} {X = X} b (Some commitment) (Some row)) masked

no_random_clear : (K R X : Type 0) (is_zk : Bool) → is_zk ≡ false → randomization_fault {K = K} {R = R} {X = X} is_zk None None ≡ None
no_random_clear K R X is_zk plain = ap (λ b. randomization_fault {K = K} {R = R} {X = X} b None None) plain

-- A witness is zero where no work is asked for.
witness_clear : (error : InvalidProofShapeError) (bits : ℕ) (is_zero : Bool) → (bits ≡ 0 → is_zero ≡ true) → witness_fault error bits is_zero ≡ None
witness_clear error bits is_zero no_work = no_fault (bits == 0 && not is_zero) error (elim (eqb_tells bits 0) [
  | inl none ↦ ap (λ b. b && not is_zero) none.0 ∙ ap not (no_work none.1)
  | inr some ↦ ap (λ b. b && not is_zero) some.0
])

-- ---- chunks

every_chunk : {X : Type 0} (p : X → Bool) (xs : List X) → ((i : ℕ) (x : X) → slice_get xs i ≡ Some x → p x ≡ true) → list_all p xs ≡ true
every_chunk p [] all = refl
every_chunk p (x ∷ xs) all = both (p x) (list_all p xs) (all 0 x refl) (every_chunk p xs (λ i y at. all (suc i) y at))

-- ---- preprocessed rows

module _ (width declared : ℕ) (is_declared : width ≡ declared) (some : 0 < declared) where
  rows_clear : {E : Type 0} (reads : Bool) (local next : List E) → length local ≡ width → length next ≡ width → preprocessed_rows_fault width reads (Some (record { local = local; next = row_if reads next })) ≡ None
  rows_clear reads local next is_local is_next =
      none_of _ _ (no_fault (width == 0) (UnexpectedPreprocessedValues None) (ne_eqb width 0 (λ e. omega (arith, e, is_declared, some))))
      (none_of _ _ (no_denial (length local == width && width_of (row_if reads next) == expected_next reads width) (PreprocessedTraceWidthMismatch width (expected_next reads width) (length local) (width_of (row_if reads next)))
      (both _ _ (eq-eqb (length local) width is_local) (eq-eqb (width_of (row_if reads next)) (expected_next reads width) (next_width reads next width is_next)))) (read_alone reads next))

  key_clear : fault_if (not (nat_lt 0 width && width == declared)) PreprocessedVerifierKeyInconsistency ≡ None
  key_clear = no_denial (nat_lt 0 width && width == declared) PreprocessedVerifierKeyInconsistency (both _ _ (lt-ltb 0 width (omega (arith, is_declared, some))) (eq-eqb width declared is_declared))

module _ {S F E C K T P X Y : Type 0} (ops : ProtocolOps S F E C K T P X Y) (i : Instance S F C K) where
  preprocessed_clear : (preprocessed_data : Option (PreprocessedProverData K T)) (preprocessed : List (List F)) (degree_bits : ℕ) (zeta next_zeta : E) → IsPreprocessedCommitment ops.opening.scheme i.scheme ops.opening.fields.base preprocessed preprocessed_data
      → is_some preprocessed_data ≡ ltb 0 i.layout.preprocessed → IfSome preprocessed_data (λ h. h.width ≡ i.layout.preprocessed) → IfSome preprocessed_data (λ h. h.degree_bits ≡ degree_bits)
      → preprocessed_fault (option_map key_of preprocessed_data) i.layout.preprocessed (opens_next_row i.preprocessed_next_columns) degree_bits (option_map (true_preprocessed ops i preprocessed zeta next_zeta) (option_map key_of preprocessed_data)) ≡ None
  preprocessed_clear None preprocessed degree_bits zeta next_zeta stands there width same =
      none_of _ _ (no_fault (nat_lt 0 i.layout.preprocessed) _ (sym there)) (none_of _ _ (no_fault (nat_lt 0 i.layout.preprocessed) PreprocessedVerifierKeyInconsistency (sym there)) refl)
  preprocessed_clear (Some preprocessed_data) preprocessed degree_bits zeta next_zeta stands there width same =
      let some : 0 < i.layout.preprocessed = ltb-true 0 i.layout.preprocessed (sym there) in
      let row : (x : E) → length (values_at ops i preprocessed x) ≡ preprocessed_data.width = λ x. length-map preprocessed _ ∙ stands.1 in
      none_of _ _ (rows_clear preprocessed_data.width i.layout.preprocessed width some (opens_next_row i.preprocessed_next_columns) (values_at ops i preprocessed zeta) (values_at ops i preprocessed next_zeta) (row zeta) (row next_zeta))
      (none_of _ _ (key_clear preprocessed_data.width i.layout.preprocessed width some)
      (no_denial (preprocessed_data.degree_bits == degree_bits) (PreprocessedDegreeMismatch preprocessed_data.degree_bits degree_bits) (eq-eqb preprocessed_data.degree_bits degree_bits same)))

-- ---- a proof of a trace

module _ {S F E C K T P X Y : Type 0} {ops : ProtocolOps S F E C K T P X Y} {i : Instance S F C K} {coordinates : E → List F} {preprocessed_data : Option (PreprocessedProverData K T)} {height : ℕ} {trace : Trace F} {preprocessed : List (List F)} {p : ProofView K E P F}
    (made : IsProofOfTrace ops i coordinates preprocessed_data height trace preprocessed p) where
  -- the opened values, as they truly are
  abbrev truly : OpeningsView E
  truly = true_openings ops i made.columns preprocessed made.chunks made.random made.zeta (next_point ops.opening p.degree_bits made.zeta)

  -- Each chunk has as many columns as the extension has coordinates.
  chunk_width : (k : ℕ) (chunk : QuotientChunk F) → slice_get made.chunks k ≡ Some chunk → (length (values_at ops i (committed_chunk ops.opening.fields.base ops.opening.is_zk chunk).columns made.zeta) == ops.opening.fields.dimension) ≡ true
  chunk_width k chunk at =
      let counted = (made.quotient.chunked.chunk k chunk at).takes.count in
      eq-eqb _ ops.opening.fields.dimension (length-map (map (λ m. m.column) chunk.columns) _ ∙ length-map chunk.columns _ ∙ sym (length-map chunk.columns _) ∙ counted)

  chunks_wide : list_all (λ chunk. length chunk == ops.opening.fields.dimension) truly.quotient_chunks ≡ true
  chunks_wide =
      list_all-map (λ chunk. length chunk == ops.opening.fields.dimension) (λ chunk. values_at ops i (committed_chunk ops.opening.fields.base ops.opening.is_zk chunk).columns made.zeta) made.chunks ∙ every_chunk _ made.chunks chunk_width

  random_shape : {commitment : Option K} {kept : Option T} (random : Option (List (List F))) → IsRandomization ops i p.degree_bits commitment kept random
      → (randomization_fault {X = X} ops.opening.is_zk commitment (option_map (λ columns. values_at ops i columns made.zeta) random) ≡ None)
      × (random_fits ops.opening.fields.dimension (option_map (λ columns. values_at ops i columns made.zeta) random) ≡ true)
  random_shape None (without_masks plain) = (no_random_clear K (List E) X ops.opening.is_zk plain, refl)
  random_shape (Some columns) (with_masks {commitment = commitment} masked stands) =
      (random_clear ops.opening.is_zk masked commitment (values_at ops i columns made.zeta), eq-eqb _ ops.opening.fields.dimension (length-map columns _ ∙ stands.number))

  module _ (width_is : trace.width ≡ i.layout.main) (public_values_are : length i.public_values ≡ i.layout.public_values)
      (there : is_some preprocessed_data ≡ ltb 0 i.layout.preprocessed) (data_width : IfSome preprocessed_data (λ h. h.width ≡ i.layout.preprocessed)) (data_degree : IfSome preprocessed_data (λ h. h.degree_bits ≡ p.degree_bits))
      (reflexive : (x : F) → ops.opening.fields.same x x ≡ true) where
    abbrev fault_of : OpeningsView E → Option InvalidProofShapeError
    fault_of opened = opened_fault i.layout.public_values (length i.public_values) (opens_next_row i.main_next_columns) i.layout.main (2 ^ (log_parts ops i p + zk_bits ops.opening.is_zk)) ops.opening.fields.dimension opened
        i.constraint_bits (ops.opening.fields.same p.alpha_pow_witness ops.opening.fields.base.zero) i.ood_bits (ops.opening.fields.same p.ood_pow_witness ops.opening.fields.base.zero)

    values_clear : fault_of truly ≡ None
    values_clear =
        let row : (x : E) → length (values_at ops i made.columns x) ≡ i.layout.main = λ x. length-map made.columns _ ∙ made.committed.takes.count ∙ width_is in
        let count : length truly.quotient_chunks ≡ 2 ^ (log_parts ops i p + zk_bits ops.opening.is_zk) = length-map made.chunks _ ∙ made.quotient.chunked.number in
        none_of _ _ (no_denial (length i.public_values == i.layout.public_values) (PublicValuesLengthMismatch i.layout.public_values (length i.public_values)) (eq-eqb (length i.public_values) i.layout.public_values public_values_are))
        (none_of _ _ (next_clear (opens_next_row i.main_next_columns) (values_at ops i made.columns (next_point ops.opening p.degree_bits made.zeta)) i.layout.main (row (next_point ops.opening p.degree_bits made.zeta)))
        (none_of _ _ (no_denial _ OpenedValuesDimensionMismatch (both _ _ (eq-eqb (length truly.trace_local) i.layout.main (row made.zeta))
        (both _ _ (eq-eqb (length truly.quotient_chunks) _ count) (both _ _ chunks_wide (random_shape made.random made.randomization).1))))
        (none_of _ _ (witness_clear NonCanonicalAlphaPowWitness i.constraint_bits (ops.opening.fields.same p.alpha_pow_witness ops.opening.fields.base.zero)
        (λ none. ap (λ w. ops.opening.fields.same w ops.opening.fields.base.zero) (made.no_alpha_work none) ∙ reflexive ops.opening.fields.base.zero))
        (witness_clear NonCanonicalOodPowWitness i.ood_bits (ops.opening.fields.same p.ood_pow_witness ops.opening.fields.base.zero)
        (λ none. ap (λ w. ops.opening.fields.same w ops.opening.fields.base.zero) (made.no_work none) ∙ reflexive ops.opening.fields.base.zero)))))

    module _ (laws : SchemeLaws ops.opening.scheme) (least : ops.opening.scheme.log_min_trace_height i.scheme ≤ height) (greatest : p.degree_bits ≤ ops.opening.scheme.log_max_trace_height i.scheme) where
      heights_clear : degree_fault None p.degree_bits (zk_bits ops.opening.is_zk) (ops.opening.scheme.log_min_trace_height i.scheme) (ops.opening.scheme.log_max_trace_height i.scheme) ≡ None
      heights_clear =
          height_clear (zk_bits ops.opening.is_zk) (ops.opening.scheme.log_min_trace_height i.scheme) (ops.opening.scheme.log_max_trace_height i.scheme) p.degree_bits
          (omega (arith, made.degree_bits, least)) greatest (omega (arith, greatest, laws.greatest_height i.scheme))

      shape_clear : shape_fault ops i p ≡ None
      shape_clear =
          none_of _ _ (ap (λ fault. of_shape fault) heights_clear)
          (none_of _ _ (ap (λ fault. of_shape fault)
          (ap (λ key. preprocessed_fault key i.layout.preprocessed (opens_next_row i.preprocessed_next_columns) p.degree_bits p.opened_values.preprocessed) made.key ∙ ap (λ o. preprocessed_fault (option_map key_of preprocessed_data) i.layout.preprocessed (opens_next_row i.preprocessed_next_columns) p.degree_bits o.preprocessed) made.opened ∙
          ap (λ key. preprocessed_fault (option_map key_of preprocessed_data) i.layout.preprocessed (opens_next_row i.preprocessed_next_columns) p.degree_bits (option_map (true_preprocessed ops i preprocessed made.zeta (next_point ops.opening p.degree_bits made.zeta)) key)) made.key ∙
          preprocessed_clear ops i preprocessed_data preprocessed p.degree_bits made.zeta (next_point ops.opening p.degree_bits made.zeta) made.preprocessed there data_width data_degree))
          (none_of _ _ (ap (λ fault. of_shape fault) made.sized)
          (none_of _ _ (ap (λ o. randomization_fault ops.opening.is_zk p.commitments.random o.random) made.opened ∙ (random_shape made.random made.randomization).0)
          (ap (λ fault. of_shape fault) (ap fault_of made.opened ∙ values_clear)))))

      pub acceptable : ops.opening.scheme.IsComplete i.scheme → IsAcceptable ops i p
      acceptable complete = record {
        alpha = made.alpha;
        zeta = made.zeta;
        shape = shape_clear;
        drawn = made.drawn;
        fitting = made.fitting;
        opened = record { accepted = made.complete complete };
      }

-- ---- a prover's answer

pub still_there : {A B : Type 0} (f : A → B) (o : Option A) → is_some (option_map f o) ≡ is_some o
still_there f None = refl
still_there f (Some a) = refl

module _ {S F E C K T P X Y : Type 0} (ops : ProtocolOps S F E C K T P X Y) (i : Instance S F C K) (coordinates : E → List F) (preprocessed_data : Option (PreprocessedProverData K T)) (log_height : ℕ) (trace : Trace F)
    (width_is : trace.width ≡ i.layout.main) (public_values_are : length i.public_values ≡ i.layout.public_values) (there : is_some preprocessed_data ≡ ltb 0 i.layout.preprocessed)
    (stands : (preprocessed : List (List F)) × IsPreprocessedCommitment ops.opening.scheme i.scheme ops.opening.fields.base preprocessed preprocessed_data × (length preprocessed ≡ i.layout.preprocessed))
    (IsHeight : ℕ → Type 0) (known : (height : ℕ) → IsHeight height → log_height ≡ height)
    (heights : (height : ℕ) × IsHeight height × (height + zk_bits ops.opening.is_zk ≤ ops.opening.scheme.log_max_trace_height i.scheme) × IfSome preprocessed_data (λ h. h.degree_bits ≡ height + zk_bits ops.opening.is_zk))
    (reflexive : (x : F) → ops.opening.fields.same x x ≡ true) (laws : SchemeLaws ops.opening.scheme) where
  is_height : heights.0 ≡ log_height
  is_height = sym (known heights.0 heights.1)

  -- Where the answer is a proof, and for each height that the trace has.
  pub answer_acceptable : {R : Type 0} (view : R → ProofView K E P F) (r : Result R (ProvingError Y)) → IfOk r (λ proof. (preprocessed : List (List F)) → IsPreprocessedCommitment ops.opening.scheme i.scheme ops.opening.fields.base preprocessed preprocessed_data → IsProofOfTrace ops i coordinates preprocessed_data log_height trace preprocessed (view proof))
      → IfOk r (λ proof. (height : ℕ) → IsHeight height → ops.opening.scheme.log_min_trace_height i.scheme ≤ height → ops.opening.scheme.IsComplete i.scheme → IsAcceptable ops i (view proof))
  answer_acceptable view (Ok proof) each =
      let made = each stands.0 stands.1 in
      let data_width = width_of_columns ops i.scheme preprocessed_data stands.0 i.layout.preprocessed stands.1 stands.2 in
      let bits : (view proof).degree_bits ≡ heights.0 + zk_bits ops.opening.is_zk = made.degree_bits ∙ ap (λ n. n + zk_bits ops.opening.is_zk) (sym is_height) in
      λ height is_height least complete.
      acceptable made width_is public_values_are there data_width (subst (λ n. IfSome preprocessed_data (λ h. h.degree_bits ≡ n)) (sym bits) heights.3) reflexive laws
      (omega (arith, least, known height is_height)) (omega (arith, bits, heights.2)) complete
  answer_acceptable view (Err error) each = tt
