-- That the proofs which a run writes are accepted.
use Rattle.std.specs.Prelude.{◌≡◌, ℕ, List, Option}
use Rattle.std.specs.Io.KnownBytes.{Appends}
use Rattle.stark_answers.specs.Finding.{IsProof, finding_bytes}
use Rattle.stark_answers.specs.declared.finding.Finding.{Finding}
use Rattle.stark_answers.specs.declared.task.ProofForm.{ProofForm}
use Rattle.stark_answers.specs.declared.task.TraceTask.TheVariants.{Prove}
use Rattle.stark_cli.specs.Running.{IsInput}
use Rattle.stark_cli.specs.declared.statements.Verb.{Verb}
use Rattle.stark_cli.specs.declared.statements.Verb.TheVariants.{Trace}

-- Over the files of proofs that a verifier of a statement accepts.
module _ (accepts : List ℕ → List ℕ → Type 0) where
  -- A proof that is found after a check is accepted for the statement, as it is written.
  abbrev pub AcceptsFound : Verb → List ℕ × List ℕ → Finding → Type 0
  AcceptsFound verb input f = (form : ProofForm) → verb ≡ Trace (Prove form) → IsProof form f → accepts input.0 (finding_bytes f)

  -- It is so of an input that is the readers', where these tell their bytes.
  abbrev pub AcceptsFoundOf : Verb → Option (List ℕ × List ℕ) → Finding → Type 0
  AcceptsFoundOf verb known f = (input : List ℕ × List ℕ) × IsInput known input × AcceptsFound verb input f

  -- A run wrote a file that is accepted for the statement of such an input.
  abbrev pub WritesAccepted : Option (List ℕ × List ℕ) → Option (List ℕ) → Option (List ℕ) → Type 0
  WritesAccepted known old new = (input : List ℕ × List ℕ) × IsInput known input × (file : List ℕ) × accepts input.0 file × Appends old new file

  -- A run that was asked for a proof after a check did.
  abbrev pub ProvesAccepted : Verb → Option (List ℕ × List ℕ) → Option (List ℕ) → Option (List ℕ) → Type 0
  ProvesAccepted verb known old new = (form : ProofForm) → verb ≡ Trace (Prove form) → WritesAccepted known old new
