-- From what is set up and read to a prover's conditions and answer.
use Rattle.std.proofs.Common.{◌≡◌, ◌∙◌, ◌⊎◌, inl, inr, ap, sym, arith, ℕ, suc, ◌+◌, ◌*◌, ◌^◌, ◌<◌, ◌≤◌, ◌==◌, ◌%◌, Bool, true, List, [], ◌∷◌, ◌++◌, length, length-append, Option, Result, Ok, Err, IfOk, IfErr}
use Rattle.std.proofs.lemmas.Bool.{eqb-true}
use Rattle.std.proofs.Math.Nat.{mul-mod_left, suc-mul, zero-mul}
use Rattle.std.specs.List.{flat_map, list_all}
use Rattle.stark_support.specs.RingSolver.{both_parts}
use Rattle.stark_support.specs.Scheme.{SchemeOps}
use Rattle.stark_support.specs.Ring.{RingOps}
use Rattle.stark_air.specs.Declaration.{Trace}
use Rattle.stark_air.specs.Layout.{Layout}
use Rattle.stark_transcript.specs.declared.error.ProvingError.{ProvingError}
use Rattle.stark_proof.specs.ProofView.{proof_view}
use Rattle.stark_proof.specs.declared.values.Proof.{Proof}
use Rattle.stark_protocol.specs.Instance.{Instance, ProtocolOps}
use Rattle.stark_protocol.specs.Preprocessing.{IsSetUpFault}
use Rattle.stark_protocol.specs.declared.preprocessed.PreprocessedProverData.{PreprocessedProverData}
use Rattle.stark_prover.specs.Acceptable.{IsAcceptable}
use Rattle.stark_prover.specs.ProofOfTrace.{IsProofOfTrace}
use Rattle.stark_answers.specs.declared.shape.CheckShape.{CheckShape}
use Rattle.stark_answers.specs.TraceShape.{FitsShape}
use Rattle.stark_answers.specs.Prove.{AnswersWithData, IsCause, IsSetUpData, IsTraceFor}

pub same_degree : (d h n zk : ℕ) → d ≡ n + zk → h ≡ n → d ≡ h + zk
same_degree d h n zk e same = omega arith

-- ---- answers

-- A scheme that refuses nothing to set up answers want of memory alone.
pub only_memory : {S F E C K T P X Y : Type 0} (scheme : SchemeOps S F E C K T P X Y) (s : S) (field : RingOps F) (is_zk : Bool) (n : ℕ) (name : List ℕ) (declared : Option (Trace F)) (error : ProvingError Y)
    → ((coset : _) (values : List F) (width : ℕ) (reason : Y) → scheme.RefusesPreprocessing s coset values width reason → ⊥)
    → (error ≡ ProvingError.OutOfMemory) ⊎ IsSetUpFault scheme s field is_zk n name declared error → error ≡ ProvingError.OutOfMemory
only_memory scheme s field is_zk n name declared error sets_up (inl memory) = memory
only_memory scheme s field is_zk n name declared error sets_up (inr fault) = absurd (sets_up _ _ _ _ fault.refuses)

-- What holds beside all columns for which something stands, holds beside these.
pub at_columns : {R X B : Type 0} (Stands : B → Type 0) (IsHeight : ℕ → Type 0) (Holds : ℕ → B → R → Type 0) (preprocessed : B) → Stands preprocessed → (answer : Result R X)
    → IfOk answer (λ proof. (h : ℕ) → IsHeight h → (columns : B) → Stands columns → Holds h columns proof) → IfOk answer (λ proof. (h : ℕ) → IsHeight h → Holds h preprocessed proof)
at_columns Stands IsHeight Holds preprocessed stands (Ok proof) made = λ h is. made h is preprocessed stands
at_columns Stands IsHeight Holds preprocessed stands (Err error) made = tt

module _ {S F E C K T P X Y : Type 0} (ops : ProtocolOps S F E C K T P X Y) (coordinates : E → List F) (log_rows : ℕ) (scheme : S) (declared : Option (Trace F)) (instance : Option (PreprocessedProverData K T) → Instance S F C K) (height : ℕ) (trace : Trace F) where
  pub lacks_memory : (answer : Result (Proof K E P F) (ProvingError Y)) (error : ProvingError Y) → answer ≡ Err error → error ≡ ProvingError.OutOfMemory → AnswersWithData ops coordinates log_rows scheme declared instance height trace answer
  unfolding AnswersWithData
  lacks_memory answer error is memory = inl (is ∙ ap (λ e. Err e) memory)

  -- The answer with the preprocessed data is the AIR's.
  pub answers : (preprocessed_data : Option (PreprocessedProverData K T)) (preprocessed : List (List F)) → IsSetUpData ops log_rows scheme declared preprocessed_data → ops.opening.scheme.log_min_trace_height scheme ≡ 0 → ops.opening.scheme.IsComplete scheme → length trace.values ≡ 2 ^ height * trace.width
      → (answer : Result (Proof K E P F) (ProvingError Y))
      → IfOk answer (λ proof. (h : ℕ) → length trace.values ≡ 2 ^ h * trace.width → IsProofOfTrace ops (instance preprocessed_data) coordinates preprocessed_data h trace preprocessed (proof_view proof))
      → IfOk answer (λ proof. (h : ℕ) → length trace.values ≡ 2 ^ h * trace.width → ops.opening.scheme.log_min_trace_height scheme ≤ h → ops.opening.scheme.IsComplete scheme
      → IsAcceptable ops (instance preprocessed_data) (proof_view proof))
      → IfErr answer (λ error. (h : ℕ) → length trace.values ≡ 2 ^ h * trace.width → (error ≡ ProvingError.OutOfMemory) ⊎ IsCause ops coordinates (instance preprocessed_data) preprocessed_data h trace error)
      → AnswersWithData ops coordinates log_rows scheme declared instance height trace answer
  unfolding AnswersWithData
  answers preprocessed_data preprocessed is lowest whole rows (Ok proof) made acceptable fault = inr (preprocessed_data, is, record { preprocessed = preprocessed; of_trace = made height rows; acceptable = acceptable height rows (omega arith) whole })
  answers preprocessed_data preprocessed is lowest whole rows (Err error) made acceptable fault = elim (fault height rows) [
    | inl memory ↦ inl (ap (λ e. Err e) memory)
    | inr cause ↦ inr (preprocessed_data, is, cause)
  ]

-- ---- what was read

-- Rows of one width, one after the other.
rows_count : {F : Type 0} (width : ℕ) (rows : List (List F)) → list_all (λ row. length row == width) rows ≡ true → length (flat_map (λ row. row) rows) ≡ length rows * width
rows_count width [] all = sym (zero-mul width)
rows_count width (row ∷ rows) all =
    let split = both_parts (length row == width) (list_all (λ r. length r == width) rows) all in
    let here : length row ≡ width = eqb-true (length row) width split.0 in
    let rest : length (flat_map (λ r. r) rows) ≡ length rows * width = rows_count width rows split.1 in
    let joined : length (row ++ flat_map (λ r. r) rows) ≡ length row + length (flat_map (λ r. r) rows) = length-append row (flat_map (λ r. r) rows) in
    let more : suc (length rows) * width ≡ length rows * width + width = suc-mul (length rows) width in
    joined ∙ (let sum : length row + length (flat_map (λ r. r) rows) ≡ length rows * width + width = omega arith in sum) ∙ sym more

module _ {F : Type 0} (shape : CheckShape) (log_rows greatest : ℕ) (rows : List (List F)) (public_values : List F) (height : ℕ) (fits : FitsShape shape log_rows greatest rows public_values height) where
  values_number : (values : List F) → values ≡ flat_map (λ row. row) rows → length values ≡ 2 ^ height * shape.width
  values_number values is = ap (λ v. length v) is ∙ rows_count shape.width rows fits.widths ∙ ap (λ n. n * shape.width) fits.height

  -- The values are those of whole rows.
  pub values_whole : (values : List F) → values ≡ flat_map (λ row. row) rows → length values % shape.width ≡ 0
  values_whole values is = ap (λ n. n % shape.width) (values_number values is) ∙ mul-mod_left (2 ^ height) shape.width

  -- As many as the trace has rows, times its width.
  pub trace_rows : (width : ℕ) (values : List F) → width ≡ shape.width → values ≡ flat_map (λ row. row) rows → length values ≡ 2 ^ height * width
  trace_rows width values wide is = values_number values is ∙ ap (λ w. 2 ^ height * w) (sym wide)

  -- The trace is one for the AIR.
  pub trace_fits : (layout : Layout) (width num : ℕ) (values : List F) → 0 < layout.main → shape.width ≡ layout.main → shape.num_public_values ≡ layout.public_values → shape.preprocessed_width ≡ layout.preprocessed
      → width ≡ shape.width → values ≡ flat_map (λ row. row) rows → num ≡ length public_values → IsTraceFor layout log_rows (record { width = width; values = values }) num 0 greatest
  trace_fits layout width num values some main counted preprocessed wide is count = record {
    columns = omega arith;
    width = wide ∙ main;
    height = height;
    rows = trace_rows width values wide is;
    within = omega (arith, fits.within);
    preprocessed_rows = λ there. fits.preprocessed_rows (omega arith);
    public_values = count ∙ fits.public_values ∙ counted;
  }

abbrev trace_with : {F : Type 0} → ℕ → List F → Trace F
trace_with width values = record { width = width; values = values }

pub same_trace : {F : Type 0} (a b : ℕ) (xs ys : List F) → a ≡ b → xs ≡ ys → trace_with a xs ≡ trace_with b ys
same_trace a b xs ys e f = ap (λ n. trace_with n xs) e ∙ ap (λ zs. trace_with b zs) f
