-- What is said where a prover's findings are.
use Rattle.std.specs.Prelude.{ℕ, List, Option, None, Some}
use Rattle.std.proofs.Common.{inl, inr}
use Rattle.stark_air.specs.Declaration.{Trace}
use Rattle.stark_clear.specs.declared.clear.pcs.ClearProof.{ClearProof}
use Rattle.stark_protocol.specs.Instance.{ProtocolOps}
use Rattle.stark_answers.specs.CheckedAir.{CheckedAir}
use Rattle.stark_answers.specs.Finding.{BeginsAsItsKind, IsText, WhereLine}
use Rattle.stark_commands.specs.Input.{Base, Extension}
use Rattle.stark_commands.specs.ProofInput.{NamedChallenger, hashing, scripted}
use Rattle.stark_commands.specs.TraceInput.{TraceNumbers}
use Rattle.stark_answers.specs.TraceShape.{trace_of}
use Rattle.stark_answers.specs.declared.finding.Finding.{Finding}
use Rattle.stark_answers.specs.declared.finding.Finding.TheVariants as finding
use Rattle.stark_answers.specs.declared.task.ProofForm.TheVariants.{Json}
use Rattle.stark_answers.specs.declared.verdict.Verdict.TheVariants as verdict
use Rattle.stark_answers.specs.Prove.{BeginsInForm, json_line}
use Rattle.stark_commands.specs.Prove.{IsProofLineBy, IsProofOfRead, IsProvedBy, IsProvedRead, program_writing}
use Rattle.stark_answers.specs.ProveFacts.{accepted_alone, begins_alone, file_alone, line_begins, no_text_alone, not_read_accepted, not_read_begins, not_read_proof, not_read_satisfied, not_read_text, satisfied_alone}
use Rattle.stark_answers.specs.SoundRun.{Listed}

-- A proof's line begins as an object does.
pub program_begins : BeginsInForm Json (json_line program_writing)
program_begins = line_begins _ _ _ _ _ _

module _ {S H R T X Y : Type 0} (hashing_ops : ProtocolOps S Base Extension H (Listed Base) T ClearProof X Y) (script_ops : ProtocolOps S Base Extension R (Listed Base) T ClearProof X Y) (coordinates : Extension → List Base)
    (log_rows : ℕ) (scheme : S) (hashing_start : H) (script_start : List Base → R) (air : CheckedAir Base) where
  module _ (height : ℕ) (trace : Trace Base) (public_values : List Base) (ood_bits alpha_bits : ℕ) where
    begins_by : (named : NamedChallenger) (f : Finding) → IsProvedBy hashing_ops script_ops coordinates log_rows scheme hashing_start script_start air height trace public_values ood_bits alpha_bits named f → BeginsAsItsKind f
    unfolding IsProvedBy
    begins_by hashing f proved = begins_alone hashing_ops coordinates Json (json_line program_writing) program_begins log_rows scheme hashing_start air height trace public_values ood_bits alpha_bits f proved
    begins_by (scripted numbers) f proved = begins_alone script_ops coordinates Json (json_line program_writing) program_begins log_rows scheme (script_start numbers) air height trace public_values ood_bits alpha_bits f proved

    line_by : (named : NamedChallenger) (f : Finding) → IsProvedBy hashing_ops script_ops coordinates log_rows scheme hashing_start script_start air height trace public_values ood_bits alpha_bits named f
        → WhereLine (IsProofLineBy hashing_ops script_ops coordinates log_rows scheme hashing_start script_start air height trace public_values ood_bits alpha_bits named) f
    unfolding IsProvedBy IsProofLineBy
    line_by hashing f proved = file_alone hashing_ops coordinates Json (json_line program_writing) program_begins log_rows scheme hashing_start air height trace public_values ood_bits alpha_bits f proved
    line_by (scripted numbers) f proved = file_alone script_ops coordinates Json (json_line program_writing) program_begins log_rows scheme (script_start numbers) air height trace public_values ood_bits alpha_bits f proved

    no_text_by : (named : NamedChallenger) (f : Finding) → IsProvedBy hashing_ops script_ops coordinates log_rows scheme hashing_start script_start air height trace public_values ood_bits alpha_bits named f → IsText f → ⊥
    unfolding IsProvedBy
    no_text_by hashing f proved is = no_text_alone hashing_ops coordinates Json (json_line program_writing) program_begins log_rows scheme hashing_start air height trace public_values ood_bits alpha_bits f proved is
    no_text_by (scripted numbers) f proved is = no_text_alone script_ops coordinates Json (json_line program_writing) program_begins log_rows scheme (script_start numbers) air height trace public_values ood_bits alpha_bits f proved is

    accepted_by : (named : NamedChallenger) → IsProvedBy hashing_ops script_ops coordinates log_rows scheme hashing_start script_start air height trace public_values ood_bits alpha_bits named (finding.Verdict verdict.Accepted) → ⊥
    unfolding IsProvedBy
    accepted_by hashing proved = accepted_alone hashing_ops coordinates Json (json_line program_writing) program_begins log_rows scheme hashing_start air height trace public_values ood_bits alpha_bits proved
    accepted_by (scripted numbers) proved = accepted_alone script_ops coordinates Json (json_line program_writing) program_begins log_rows scheme (script_start numbers) air height trace public_values ood_bits alpha_bits proved

    satisfied_by : (named : NamedChallenger) → IsProvedBy hashing_ops script_ops coordinates log_rows scheme hashing_start script_start air height trace public_values ood_bits alpha_bits named finding.Satisfied → ⊥
    unfolding IsProvedBy
    satisfied_by hashing proved = satisfied_alone hashing_ops coordinates Json (json_line program_writing) program_begins log_rows scheme hashing_start air height trace public_values ood_bits alpha_bits proved
    satisfied_by (scripted numbers) proved = satisfied_alone script_ops coordinates Json (json_line program_writing) program_begins log_rows scheme (script_start numbers) air height trace public_values ood_bits alpha_bits proved

  -- A proof's line begins as an object does.
  pub proved_begins : (read : Option TraceNumbers) (f : Finding) → IsProvedRead hashing_ops script_ops coordinates log_rows scheme hashing_start script_start air read f → BeginsAsItsKind f
  unfolding IsProvedRead
  proved_begins None f proved = not_read_begins f proved
  proved_begins (Some m) f (inl obtained) = begins_by obtained.0 (trace_of air.layout.main m.rows) m.public_values m.ood_bits m.alpha_bits m.challenger f obtained.2
  proved_begins (Some m) f (inr other) = not_read_begins f other.1

  -- A proof that is found is a line, and one of the trace that was read.
  pub proved_line : (read : Option TraceNumbers) (f : Finding) → IsProvedRead hashing_ops script_ops coordinates log_rows scheme hashing_start script_start air read f
      → WhereLine (IsProofOfRead hashing_ops script_ops coordinates log_rows scheme hashing_start script_start air read) f
  unfolding IsProvedRead IsProofOfRead
  proved_line None f proved = λ form is. absurd (not_read_proof f proved form is)
  proved_line (Some m) f (inl obtained) = λ form is.
      let line = line_by obtained.0 (trace_of air.layout.main m.rows) m.public_values m.ood_bits m.alpha_bits m.challenger f obtained.2 form is in
      (line.0, (obtained.0, obtained.1, line.1))
  proved_line (Some m) f (inr other) = λ form is. absurd (not_read_proof f other.1 form is)

  -- A prover accepts nothing.
  pub proved_accepts_none : (read : Option TraceNumbers) → IsProvedRead hashing_ops script_ops coordinates log_rows scheme hashing_start script_start air read (finding.Verdict verdict.Accepted) → ⊥
  unfolding IsProvedRead
  proved_accepts_none None proved = not_read_accepted proved
  proved_accepts_none (Some m) (inl obtained) = accepted_by obtained.0 (trace_of air.layout.main m.rows) m.public_values m.ood_bits m.alpha_bits m.challenger obtained.2
  proved_accepts_none (Some m) (inr other) = not_read_accepted other.1

  -- Nor does it find that a trace satisfies its AIR.
  pub proved_satisfies_none : (read : Option TraceNumbers) → IsProvedRead hashing_ops script_ops coordinates log_rows scheme hashing_start script_start air read finding.Satisfied → ⊥
  unfolding IsProvedRead
  proved_satisfies_none None proved = not_read_satisfied proved
  proved_satisfies_none (Some m) (inl obtained) = satisfied_by obtained.0 (trace_of air.layout.main m.rows) m.public_values m.ood_bits m.alpha_bits m.challenger obtained.2
  proved_satisfies_none (Some m) (inr other) = not_read_satisfied other.1

  -- Nor does it show anything.
  pub proved_no_text : (read : Option TraceNumbers) (f : Finding) → IsProvedRead hashing_ops script_ops coordinates log_rows scheme hashing_start script_start air read f → IsText f → ⊥
  unfolding IsProvedRead
  proved_no_text None f proved is = not_read_text f proved is
  proved_no_text (Some m) f (inl obtained) is = no_text_by obtained.0 (trace_of air.layout.main m.rows) m.public_values m.ood_bits m.alpha_bits m.challenger f obtained.2 is
  proved_no_text (Some m) f (inr other) is = not_read_text f other.1 is
