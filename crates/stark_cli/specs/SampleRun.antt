-- What is found of an input, and what a run says of it.
use Rattle.std.specs.Prelude.{◌≡◌, true, ℕ, List, take, Option, None, Some, ◌⊎◌, refl}
use Rattle.std.specs.Io.KnownBytes.{Appends}
use Rattle.std.proofs.Common.{subst, sym}
use Rattle.stark_commands.specs.Airs.{log_chunks_of, sample}
use Rattle.stark_answers.specs.CheckedAir.{shape_of}
use Rattle.stark_commands.specs.Input.{CheckNumbers, has_shape, numbers_in}
use Rattle.stark_answers.specs.Finding.{BeginsAsItsKind}
use Rattle.stark_cli.specs.Running.{FindsSome, IsInput, SaysOf}
use Rattle.stark_answers.specs.declared.verdict.Refusal.TheVariants as refusal
use Rattle.stark_answers.specs.declared.finding.Finding.{Finding}
use Rattle.stark_answers.specs.declared.finding.Finding.TheVariants as finding
use Rattle.stark_answers.specs.declared.verdict.Verdict.{Verdict}
use Rattle.stark_answers.specs.declared.verdict.Verdict.TheVariants as verdict
use Rattle.stark_answers.specs.declared.verdict.RunEnd.{RunEnd}
use Rattle.stark_cli.specs.declared.words.Command.{Command}
use Rattle.stark_cli.specs.declared.words.Command.TheVariants.{Check, Prove, Verify}
use Rattle.stark_commands.specs.declared.sample.SampleAir.{SampleAir}
use Rattle.stark_commands.specs.Check.{check_verdict, CheckHolds}

-- what is said for want of memory
abbrev pub lacks_memory : Finding
lacks_memory = finding.Verdict (verdict.Refused refusal.OutOfMemory)

-- The command is the check of an AIR, and the input spells numbers of its widths and counts of which that check holds.
abbrev pub CheckHoldsOf : Option Command → List ℕ → Type 0
CheckHoldsOf command input = (air : SampleAir) × (command ≡ Some (Check air)) × (m : CheckNumbers) × (numbers_in (shape_of (sample air)) input ≡ Some m)
    × (has_shape (shape_of (sample air)) m ≡ true) × CheckHolds (sample air) (log_chunks_of air) m

-- Over what a verifier and a prover find of an input, for each AIR.
module _ (verified : SampleAir → List ℕ → Verdict → Type 0) (sound : SampleAir → List ℕ → Type 0) (proved : SampleAir → List ℕ → Finding → Type 0) where
  -- This is what is found of an input.
  unfoldable pub IsFinding : Option Command → List ℕ → Finding → Type 0
  IsFinding None input f = f ≡ finding.Verdict verdict.BadInput
  IsFinding (Some (Check air)) input f = f ≡ finding.Verdict (check_verdict (sample air) (log_chunks_of air) (numbers_in (shape_of (sample air)) input))
  IsFinding (Some (Verify air)) input f = (v : Verdict) × (f ≡ finding.Verdict v) × verified air input v × (v ≡ verdict.Accepted → sound air input)
  IsFinding (Some (Prove air)) input f = proved air input f

  -- Under no command any input is bad.
  pub bad_input_without_command : (input : List ℕ) → IsFinding None input (finding.Verdict verdict.BadInput)
  unfolding IsFinding
  bad_input_without_command input = refl

  -- A proof's line begins as an object does, where those of a prover do.
  pub found_proofs_open : ((air : SampleAir) (input : List ℕ) (f : Finding) → proved air input f → BeginsAsItsKind f) → (command : Option Command) (input : List ℕ) (f : Finding) → IsFinding command input f → BeginsAsItsKind f
  unfolding IsFinding
  found_proofs_open opens None input f obtained = subst BeginsAsItsKind (sym obtained) tt
  found_proofs_open opens (Some (Check air)) input f obtained = subst BeginsAsItsKind (sym obtained) tt
  found_proofs_open opens (Some (Verify air)) input f obtained = subst BeginsAsItsKind (sym obtained.1) tt
  found_proofs_open opens (Some (Prove air)) input f obtained = opens air input f obtained

  -- So the check of an AIR holds of the numbers that the input spells, or an AIR's verifier accepts the proof that it spells.
  abbrev pub HoldsOf : Option Command → List ℕ → Type 0
  HoldsOf command input = CheckHoldsOf command input ⊎ ((air : SampleAir) × (command ≡ Some (Verify air)) × verified air input verdict.Accepted)

  -- A run said what is found of this input, or that memory is wanting.
  abbrev pub SaysFinding : Option Command → List ℕ → RunEnd → Option (List ℕ) → Option (List ℕ) → Type 0
  SaysFinding command input end old new = SaysOf lacks_memory (IsFinding command) input end old new

  -- An input that is the reader's, where the reader's bytes are known, is accepted.
  abbrev pub AcceptsInput : Option Command → Option (List ℕ) → Type 0
  AcceptsInput command known = FindsSome (IsFinding command) known (finding.Verdict verdict.Accepted)

-- Over the lines of proofs of the trace that an input spells, for each AIR.
module _ (proof_line : SampleAir → List ℕ → List ℕ → Type 0) where
  -- A prover is named, and the bytes are the front of the line of a proof of the trace that the input spells.
  abbrev pub ProvesTrace : Option Command → List ℕ → List ℕ → Type 0
  ProvesTrace command input bytes = (air : SampleAir) × (command ≡ Some (Prove air)) × (line : List ℕ) × proof_line air input line × (count : ℕ) × (bytes ≡ take count line)

  -- A prover is named, and this is the line of a proof of the trace that an input spells, which is the reader's, where the
  -- reader's bytes are known.
  abbrev pub ProvesInput : Option Command → Option (List ℕ) → List ℕ → Type 0
  ProvesInput command known line = (air : SampleAir) × (command ≡ Some (Prove air)) × (input : List ℕ) × IsInput known input × proof_line air input line

  -- A run wrote such a line.
  abbrev pub WritesProof : Option Command → Option (List ℕ) → Option (List ℕ) → Option (List ℕ) → Type 0
  WritesProof command known old new = (line : List ℕ) × ProvesInput command known line × Appends old new line

-- Where the words name an AIR's verifier, this holds of the AIR and the input.
abbrev pub OfVerified : (SampleAir → List ℕ → Type 0) → Option Command → List ℕ → Type 0
OfVerified sound command input = (air : SampleAir) → command ≡ Some (Verify air) → sound air input
