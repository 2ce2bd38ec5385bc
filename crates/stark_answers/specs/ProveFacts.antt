-- What is said where a prover's findings are.
use Rattle.std.specs.Prelude.{◌≡◌, ℕ, List, refl}
use Rattle.std.proofs.Common.{◌∙◌, inl, inr, subst, sym}
use Rattle.serde_json.specs.Data.{Data}
use Rattle.stark_air.specs.Declaration.{Trace}
use Rattle.stark_transcript.specs.declared.error.ProvingError.{ProvingError}
use Rattle.stark_proof.specs.ProofJson.{proof_writing}
use Rattle.stark_proof.specs.ProofView.{ProofView}
use Rattle.stark_proof_bytes.specs.ProofBytes.{ProofCodecs}
use Rattle.stark_protocol.specs.Instance.{ProtocolOps}
use Rattle.stark_answers.specs.CheckedAir.{CheckedAir}
use Rattle.stark_answers.specs.Finding.{BeginsAsForm, BeginsAsItsKind, IsProof, IsText, WhereProof, finding_bytes}
use Rattle.stark_answers.specs.Prove.{BeginsInForm, IsProofFile, IsProved, TellsProver, file_of, json_line}
use Rattle.stark_answers.specs.declared.finding.Finding.{Finding}
use Rattle.stark_answers.specs.declared.finding.Finding.TheVariants as finding
use Rattle.stark_answers.specs.declared.task.ProofForm.{ProofForm}
use Rattle.stark_answers.specs.declared.task.ProofForm.TheVariants.{Bytes, Json}
use Rattle.stark_answers.specs.declared.verdict.Verdict.{Verdict}
use Rattle.stark_answers.specs.declared.verdict.Verdict.TheVariants as verdict

-- A proof's line begins as an object does.
pub line_begins : {K E P F : Type 0} (commitment : K → Data) (element : E → Data) (argument : P → Data) (witness : F → Data) (same : F → F → _) (zero : F) → BeginsInForm Json (json_line (proof_writing commitment element argument witness same zero))
unfolding proof_writing
line_begins commitment element argument witness same zero p = refl

-- So a proof's file begins as its form does.
pub file_begins : {K E P F : Type 0} (writing : ProofView K E P F → Data) (codecs : ProofCodecs K E P F) → BeginsInForm Json (json_line writing) → (form : ProofForm) → BeginsInForm form (file_of writing codecs form)
file_begins writing codecs begins Json p = begins p
file_begins writing codecs begins Bytes p = refl

-- ---- a proof that is found

begins_as_found : (form : ProofForm) (f : Finding) → IsProof form f → BeginsAsForm form (finding_bytes f) → BeginsAsItsKind f
begins_as_found form (finding.Proof line) is begins = subst (λ k. BeginsAsForm k (finding_bytes (finding.Proof line))) is begins
begins_as_found form (finding.ProofBytes bytes) is begins = subst (λ k. BeginsAsForm k (finding_bytes (finding.ProofBytes bytes))) is begins
begins_as_found form (finding.Verdict v) is begins = absurd is
begins_as_found form (finding.Text text) is begins = absurd is
begins_as_found form finding.Satisfied is begins = absurd is
begins_as_found form (finding.Broken row) is begins = absurd is
begins_as_found form (finding.TooFewBits line) is begins = absurd is

-- It is one in one form.
one_form : (form other : ProofForm) (f : Finding) → IsProof form f → IsProof other f → form ≡ other
one_form form other (finding.Proof line) is also = is ∙ sym also
one_form form other (finding.ProofBytes bytes) is also = is ∙ sym also
one_form form other (finding.Verdict v) is also = absurd is
one_form form other (finding.Text text) is also = absurd is
one_form form other finding.Satisfied is also = absurd is
one_form form other (finding.Broken row) is also = absurd is
one_form form other (finding.TooFewBits line) is also = absurd is

text_is_none : (form : ProofForm) (f : Finding) → IsProof form f → IsText f → ⊥
text_is_none form (finding.Proof line) is text = text
text_is_none form (finding.ProofBytes bytes) is text = text
text_is_none form (finding.Verdict v) is text = text
text_is_none form (finding.Text other) is text = is
text_is_none form finding.Satisfied is text = text
text_is_none form (finding.Broken row) is text = text
text_is_none form (finding.TooFewBits line) is text = text

-- ---- a verdict that is found

verdict_begins : (v : Verdict) (f : Finding) → f ≡ finding.Verdict v → BeginsAsItsKind f
verdict_begins v f is = subst BeginsAsItsKind (sym is) tt

verdict_is_no_proof : (v : Verdict) (f : Finding) → f ≡ finding.Verdict v → (form : ProofForm) → IsProof form f → ⊥
verdict_is_no_proof v f is form proof = subst (IsProof form) is proof

verdict_is_no_text : (v : Verdict) (f : Finding) → f ≡ finding.Verdict v → IsText f → ⊥
verdict_is_no_text v f is text = subst IsText is text

-- What is found of an input that isn't read.
pub not_read_begins : (f : Finding) → f ≡ finding.Verdict verdict.BadInput → BeginsAsItsKind f
not_read_begins f is = verdict_begins verdict.BadInput f is

pub not_read_proof : (f : Finding) → f ≡ finding.Verdict verdict.BadInput → (form : ProofForm) → IsProof form f → ⊥
not_read_proof f is form proof = verdict_is_no_proof verdict.BadInput f is form proof

pub not_read_text : (f : Finding) → f ≡ finding.Verdict verdict.BadInput → IsText f → ⊥
not_read_text f is text = verdict_is_no_text verdict.BadInput f is text

pub not_read_satisfied : finding.Satisfied ≡ finding.Verdict verdict.BadInput → ⊥
not_read_satisfied is = cc

pub not_read_accepted : finding.Verdict verdict.Accepted ≡ finding.Verdict verdict.BadInput → ⊥
not_read_accepted is = cc

-- ---- what a prover finds

module _ {K E P F Y : Type 0} (form : ProofForm) (file : ProofView K E P F → List ℕ) (begins : BeginsInForm form file) (Holds : ProofView K E P F → Type 0) (Fault : ProvingError Y → Type 0) where
  tells_begin : (f : Finding) → TellsProver form file Holds Fault f → BeginsAsItsKind f
  tells_begin f (inl made) = begins_as_found form f made.0 (subst (BeginsAsForm form) (sym made.3) (begins made.1))
  tells_begin f (inr fault) = verdict_begins _ f fault.2

  tells_file : (f : Finding) → TellsProver form file Holds Fault f → WhereProof (λ other bytes. (other ≡ form) × (p : ProofView K E P F) × Holds p × (bytes ≡ file p)) f
  tells_file f (inl made) = λ other is. (one_form other form f is made.0, made.1, made.2, made.3)
  tells_file f (inr fault) = λ other is. absurd (verdict_is_no_proof _ f fault.2 other is)

  tells_no_text : (f : Finding) → TellsProver form file Holds Fault f → IsText f → ⊥
  tells_no_text f (inl made) is = text_is_none form f made.0 is
  tells_no_text f (inr fault) is = verdict_is_no_text _ f fault.2 is

  tells_no_accepted : TellsProver form file Holds Fault (finding.Verdict verdict.Accepted) → ⊥
  tells_no_accepted (inl made) = made.0
  tells_no_accepted (inr fault) = let clash : finding.Verdict verdict.Accepted ≡ _ = fault.2 in cc

  tells_no_satisfied : TellsProver form file Holds Fault finding.Satisfied → ⊥
  tells_no_satisfied (inl made) = made.0
  tells_no_satisfied (inr fault) = let clash : finding.Satisfied ≡ _ = fault.2 in cc

module _ {S F E C K T P X Y : Type 0} (ops : ProtocolOps S F E C K T P X Y) (coordinates : E → List F) (form : ProofForm) (file : ProofView K E P F → List ℕ) (begins : BeginsInForm form file) (log_rows : ℕ) (scheme : S) (first_state : C) (air : CheckedAir F) (height : ℕ) (trace : Trace F) (public_values : List F) (ood_bits alpha_bits : ℕ) where
  pub begins_alone : (f : Finding) → IsProved ops coordinates form file log_rows scheme first_state air height trace public_values ood_bits alpha_bits f → BeginsAsItsKind f
  unfolding IsProved
  begins_alone f proved = tells_begin form file begins _ _ f proved.2

  pub file_alone : (f : Finding) → IsProved ops coordinates form file log_rows scheme first_state air height trace public_values ood_bits alpha_bits f
      → WhereProof (λ other bytes. (other ≡ form) × IsProofFile ops coordinates file log_rows scheme first_state air height trace public_values ood_bits alpha_bits bytes) f
  unfolding IsProved IsProofFile
  file_alone f proved = λ other is. let made = tells_file form file begins _ _ f proved.2 other is in (made.0, (proved.0, proved.1, made.1, made.2, made.3))

  pub no_text_alone : (f : Finding) → IsProved ops coordinates form file log_rows scheme first_state air height trace public_values ood_bits alpha_bits f → IsText f → ⊥
  unfolding IsProved
  no_text_alone f proved is = tells_no_text form file begins _ _ f proved.2 is

  pub accepted_alone : IsProved ops coordinates form file log_rows scheme first_state air height trace public_values ood_bits alpha_bits (finding.Verdict verdict.Accepted) → ⊥
  unfolding IsProved
  accepted_alone proved = tells_no_accepted form file begins _ _ proved.2

  pub satisfied_alone : IsProved ops coordinates form file log_rows scheme first_state air height trace public_values ood_bits alpha_bits finding.Satisfied → ⊥
  unfolding IsProved
  satisfied_alone proved = tells_no_satisfied form file begins _ _ proved.2
