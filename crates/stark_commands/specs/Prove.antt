-- What a prover finds of an input.
use Rattle.std.specs.Prelude.{◌≡◌, ◌==◌, ◌⊎◌, ℕ, List, Option, None, Some}
use Rattle.serde_json.specs.Data.{Data}
use Rattle.stark_air.specs.Declaration.{Trace}
use Rattle.stark_bench.specs.CommitmentJson.{commitment_written}
use Rattle.stark_fields.specs.ElementJson.{base_written, element_written}
use Rattle.stark_fields.specs.Residues.{residue_ring}
use Rattle.stark_clear.specs.ClearJson.{proof_written}
use Rattle.stark_clear.specs.declared.clear.pcs.ClearProof.{ClearProof}
use Rattle.stark_proof.specs.ProofJson.{proof_writing}
use Rattle.stark_proof.specs.ProofView.{ProofView}
use Rattle.stark_protocol.specs.Instance.{ProtocolOps}
use Rattle.stark_answers.specs.CheckedAir.{CheckedAir, shape_of}
use Rattle.stark_commands.specs.Input.{Base, Extension}
use Rattle.stark_commands.specs.ProofInput.{NamedChallenger, hashing, scripted}
use Rattle.stark_commands.specs.TraceInput.{HasTraceShape, TraceNumbers}
use Rattle.stark_answers.specs.TraceShape.{trace_of}
use Rattle.stark_answers.specs.declared.finding.Finding.{Finding}
use Rattle.stark_answers.specs.declared.finding.Finding.TheVariants as finding
use Rattle.stark_answers.specs.declared.task.ProofForm.TheVariants.{Json}
use Rattle.stark_answers.specs.declared.verdict.Verdict.TheVariants as verdict
use Rattle.stark_answers.specs.Prove.{IsProofFile, IsProved, json_line}
use Rattle.stark_answers.specs.SoundRun.{Listed}

-- A proof of the program's configuration as JSON.
abbrev pub program_writing : ProofView (Listed Base) Extension ClearProof Base → Data
program_writing = proof_writing (commitment_written base_written) (element_written base_written) proof_written base_written (λ (x y : Base). x.value == y.value) residue_ring.zero

-- With the challenger that is named.
module _ {S H R T X Y : Type 0} (hashing_ops : ProtocolOps S Base Extension H (Listed Base) T ClearProof X Y) (script_ops : ProtocolOps S Base Extension R (Listed Base) T ClearProof X Y) (coordinates : Extension → List Base)
    (log_rows : ℕ) (scheme : S) (hashing_start : H) (script_start : List Base → R) where
  unfoldable pub IsProvedBy : CheckedAir Base → ℕ → Trace Base → List Base → ℕ → ℕ → NamedChallenger → Finding → Type 0
  IsProvedBy air height trace public_values ood_bits alpha_bits hashing f = IsProved hashing_ops coordinates Json (json_line program_writing) log_rows scheme hashing_start air height trace public_values ood_bits alpha_bits f
  IsProvedBy air height trace public_values ood_bits alpha_bits (scripted numbers) f = IsProved script_ops coordinates Json (json_line program_writing) log_rows scheme (script_start numbers) air height trace public_values ood_bits alpha_bits f

  unfoldable pub IsProofLineBy : CheckedAir Base → ℕ → Trace Base → List Base → ℕ → ℕ → NamedChallenger → List ℕ → Type 0
  IsProofLineBy air height trace public_values ood_bits alpha_bits hashing line = IsProofFile hashing_ops coordinates (json_line program_writing) log_rows scheme hashing_start air height trace public_values ood_bits alpha_bits line
  IsProofLineBy air height trace public_values ood_bits alpha_bits (scripted numbers) line = IsProofFile script_ops coordinates (json_line program_writing) log_rows scheme (script_start numbers) air height trace public_values ood_bits alpha_bits line

  -- Of what was read, if it was, in the AIR's widths and counts.
  unfoldable pub IsProvedRead : CheckedAir Base → Option TraceNumbers → Finding → Type 0
  IsProvedRead air None f = f ≡ finding.Verdict verdict.BadInput
  IsProvedRead air (Some m) f =
      ((height : ℕ) × HasTraceShape (shape_of air) log_rows m height × IsProvedBy air height (trace_of air.layout.main m.rows) m.public_values m.ood_bits m.alpha_bits m.challenger f)
      ⊎ (((height : ℕ) → HasTraceShape (shape_of air) log_rows m height → ⊥) × (f ≡ finding.Verdict verdict.BadInput))

  -- The bytes are the line of a proof of the trace that was read, in the AIR's widths and counts.
  unfoldable pub IsProofOfRead : CheckedAir Base → Option TraceNumbers → List ℕ → Type 0
  IsProofOfRead air None line = ⊥
  IsProofOfRead air (Some m) line = (height : ℕ) × HasTraceShape (shape_of air) log_rows m height × IsProofLineBy air height (trace_of air.layout.main m.rows) m.public_values m.ood_bits m.alpha_bits m.challenger line
