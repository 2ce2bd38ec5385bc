-- What a prover's answer says of a trace, with the challenger that is named.
use Rattle.std.proofs.Common.{◌≡◌, ◌⊎◌, inl, inr, refl, sym, subst, ℕ, false, List, Option, Some}
use Rattle.serde_json.specs.Written.{has_float}
use Rattle.stark_support.specs.JsonFacts.{list_written}
use Rattle.stark_air.specs.Declaration.{Trace}
use Rattle.stark_bench.specs.CommitmentJson.{commitment_written}
use Rattle.stark_fields.specs.ElementJson.{base_written, element_written}
use Rattle.stark_clear.specs.ClearJson.{proof_written}
use Rattle.stark_clear.specs.declared.clear.pcs.ClearProof.{ClearProof}
use Rattle.stark_protocol.specs.Instance.{ProtocolOps}
use Rattle.stark_answers.specs.CheckedAir.{CheckedAir, shape_of}
use Rattle.stark_answers.specs.Prove.{HasNoFloat, IsProved, json_line, no_memory}
use Rattle.stark_answers.specs.SoundRun.{Listed}
use Rattle.stark_answers.specs.TraceShape.{trace_of}
use Rattle.stark_answers.specs.declared.shape.CheckShape.{CheckShape}
use Rattle.stark_answers.specs.declared.finding.Finding.{Finding}
use Rattle.stark_answers.specs.declared.finding.Finding.TheVariants as finding
use Rattle.stark_answers.specs.declared.task.ProofForm.TheVariants.{Json}
use Rattle.stark_answers.specs.declared.verdict.Verdict.TheVariants as verdict
use Rattle.stark_answers.proofs.NoFloats.{no_float_in_list, no_float_in_proof}
use Rattle.stark_commands.specs.Airs.{sample}
use Rattle.stark_commands.specs.Input.{Base, Extension}
use Rattle.stark_commands.specs.ProofInput.{NamedChallenger, hashing, scripted}
use Rattle.stark_commands.specs.Prove.{IsProvedBy, IsProvedRead, program_writing}
use Rattle.stark_commands.specs.TraceInput.{HasTraceShape, TraceNumbers}
use Rattle.stark_commands.specs.declared.sample.SampleAir.{SampleAir}

-- ---- a proof's JSON has no float

no_float_in_commitment : (commitment : Listed Base) → has_float (commitment_written base_written commitment) ≡ false
no_float_in_commitment commitment =
    no_float_in_list (list_written (list_written base_written)) (no_float_in_list (list_written base_written) (no_float_in_list base_written (λ x. refl))) commitment

pub no_float : HasNoFloat program_writing
no_float = no_float_in_proof (commitment_written base_written) (element_written base_written) proof_written base_written _ _ no_float_in_commitment (λ e. refl) (λ p. refl) (λ x. refl)

-- ---- with the challenger that is named

module _ {S H R T X Y : Type 0} (hashing_ops : ProtocolOps S Base Extension H (Listed Base) T ClearProof X Y) (script_ops : ProtocolOps S Base Extension R (Listed Base) T ClearProof X Y) (coordinates : Extension → List Base)
    (log_rows : ℕ) (scheme : S) (hashing_start : H) (script_start : List Base → R) where
  pub proved_by_hashing : (air : CheckedAir Base) (height : ℕ) (trace : Trace Base) (public_values : List Base) (ood_bits alpha_bits : ℕ) (named : NamedChallenger) (start : H) (f : Finding) → named ≡ hashing → start ≡ hashing_start
      → (f ≡ no_memory) ⊎ IsProved hashing_ops coordinates Json (json_line program_writing) log_rows scheme start air height trace public_values ood_bits alpha_bits f
      → (f ≡ no_memory) ⊎ IsProvedBy hashing_ops script_ops coordinates log_rows scheme hashing_start script_start air height trace public_values ood_bits alpha_bits named f
  unfolding IsProvedBy
  proved_by_hashing air height trace public_values ood_bits alpha_bits named start f is begins proved =
      subst (λ n. (f ≡ no_memory) ⊎ IsProvedBy hashing_ops script_ops coordinates log_rows scheme hashing_start script_start air height trace public_values ood_bits alpha_bits n f) (sym is)
      (subst (λ s. (f ≡ no_memory) ⊎ IsProved hashing_ops coordinates Json (json_line program_writing) log_rows scheme s air height trace public_values ood_bits alpha_bits f) begins proved)

  pub proved_by_script : (air : CheckedAir Base) (height : ℕ) (trace : Trace Base) (public_values : List Base) (ood_bits alpha_bits : ℕ) (named : NamedChallenger) (numbers : List Base) (start : R) (f : Finding) → named ≡ scripted numbers → start ≡ script_start numbers
      → (f ≡ no_memory) ⊎ IsProved script_ops coordinates Json (json_line program_writing) log_rows scheme start air height trace public_values ood_bits alpha_bits f
      → (f ≡ no_memory) ⊎ IsProvedBy hashing_ops script_ops coordinates log_rows scheme hashing_start script_start air height trace public_values ood_bits alpha_bits named f
  unfolding IsProvedBy
  proved_by_script air height trace public_values ood_bits alpha_bits named numbers start f is begins proved =
      subst (λ n. (f ≡ no_memory) ⊎ IsProvedBy hashing_ops script_ops coordinates log_rows scheme hashing_start script_start air height trace public_values ood_bits alpha_bits n f) (sym is)
      (subst (λ s. (f ≡ no_memory) ⊎ IsProved script_ops coordinates Json (json_line program_writing) log_rows scheme s air height trace public_values ood_bits alpha_bits f) begins proved)

  -- of what was read in the AIR's widths and counts
  pub proved_shaped : (air : CheckedAir Base) (shape : CheckShape) (m : TraceNumbers) (height : ℕ) (trace : Trace Base) (listed : List Base) (f : Finding) → shape ≡ shape_of air → HasTraceShape shape log_rows m height
      → trace ≡ trace_of air.layout.main m.rows → listed ≡ m.public_values
      → (f ≡ no_memory) ⊎ IsProvedBy hashing_ops script_ops coordinates log_rows scheme hashing_start script_start air height trace listed m.ood_bits m.alpha_bits m.challenger f
      → (f ≡ no_memory) ⊎ IsProvedRead hashing_ops script_ops coordinates log_rows scheme hashing_start script_start air (Some m) f
  unfolding IsProvedRead
  proved_shaped air shape m height trace listed f same fits is lists proved = elim proved [
    | inl memory ↦ inl memory
    | inr obtained ↦ inr (inl (
      height,
      subst (λ s. HasTraceShape s log_rows m height) same fits,
      subst (λ ps. IsProvedBy hashing_ops script_ops coordinates log_rows scheme hashing_start script_start air height (trace_of air.layout.main m.rows) ps m.ood_bits m.alpha_bits m.challenger f) lists
          (subst (λ t. IsProvedBy hashing_ops script_ops coordinates log_rows scheme hashing_start script_start air height t listed m.ood_bits m.alpha_bits m.challenger f) is obtained),
    ))
  ]

  -- of what was read otherwise
  pub unproved_unshaped : (air : CheckedAir Base) (shape : CheckShape) (m : TraceNumbers) (f : Finding) → shape ≡ shape_of air → ((height : ℕ) → HasTraceShape shape log_rows m height → ⊥) → f ≡ finding.Verdict verdict.BadInput
      → (f ≡ no_memory) ⊎ IsProvedRead hashing_ops script_ops coordinates log_rows scheme hashing_start script_start air (Some m) f
  unfolding IsProvedRead
  unproved_unshaped air shape m f same none is = inr (inr (λ height fits. none height (subst (λ s. HasTraceShape s log_rows m height) (sym same) fits), is))

  -- What is found of the numbers that were read is found of the bytes.
  pub proved_as_read : (air : CheckedAir Base) (read : Option TraceNumbers) (m : TraceNumbers) (f : Finding) → read ≡ Some m
      → (f ≡ no_memory) ⊎ IsProvedRead hashing_ops script_ops coordinates log_rows scheme hashing_start script_start air (Some m) f
      → (f ≡ no_memory) ⊎ IsProvedRead hashing_ops script_ops coordinates log_rows scheme hashing_start script_start air read f
  proved_as_read air read m f is obtained =
      subst (λ n. (f ≡ no_memory) ⊎ IsProvedRead hashing_ops script_ops coordinates log_rows scheme hashing_start script_start air n f) (sym is) obtained

  -- What is found for an AIR that declares what a sample AIR does is found for the sample.
  pub proved_for_sample : (air : CheckedAir Base) (name : SampleAir) (read : Option TraceNumbers) (f : Finding) → air ≡ sample name
      → (f ≡ no_memory) ⊎ IsProvedRead hashing_ops script_ops coordinates log_rows scheme hashing_start script_start air read f
      → IsProvedRead hashing_ops script_ops coordinates log_rows scheme hashing_start script_start (sample name) read f ⊎ (f ≡ no_memory)
  proved_for_sample air name read f is (inl memory) = inr memory
  proved_for_sample air name read f is (inr obtained) = inl (subst (λ a. IsProvedRead hashing_ops script_ops coordinates log_rows scheme hashing_start script_start a read f) is obtained)

-- A finding that is proved from one state is proved from an equal one.
pub proved_from : {S H R T X Y : Type 0} (hashing_ops : ProtocolOps S Base Extension H (Listed Base) T ClearProof X Y) (script_ops : ProtocolOps S Base Extension R (Listed Base) T ClearProof X Y) (coordinates : Extension → List Base)
    (log_rows : ℕ) (scheme : S) (start fresh : H) (script_start : List Base → R) (air : CheckedAir Base) (read : Option TraceNumbers) (f : Finding) → start ≡ fresh
    → (f ≡ no_memory) ⊎ IsProvedRead hashing_ops script_ops coordinates log_rows scheme start script_start air read f
    → (f ≡ no_memory) ⊎ IsProvedRead hashing_ops script_ops coordinates log_rows scheme fresh script_start air read f
proved_from hashing_ops script_ops coordinates log_rows scheme start fresh script_start air read f is proved =
    subst (λ s. (f ≡ no_memory) ⊎ IsProvedRead hashing_ops script_ops coordinates log_rows scheme s script_start air read f) is proved
