-- What is found of a statement and a second input, and what a run says of them.
use Rattle.std.specs.Prelude.{◌≡◌, ◌⊎◌, ℕ, List, take, Option, String, string_bytes}
use Rattle.std.specs.Io.KnownBytes.{Appends}
use Rattle.std.specs.declared.alloc.Global.{Global}
use Rattle.stark_answers.specs.Finding.{WhereProof, finding_bytes}
use Rattle.stark_answers.specs.declared.finding.Finding.{Finding}
use Rattle.stark_answers.specs.declared.finding.Finding.TheVariants as finding
use Rattle.stark_answers.specs.declared.verdict.Verdict.{Verdict}
use Rattle.stark_answers.specs.declared.verdict.Verdict.TheVariants as verdict
use Rattle.stark_answers.specs.declared.verdict.RunEnd.{RunEnd}
use Rattle.stark_answers.specs.declared.verdict.RunEnd.TheVariants as ends
use Rattle.stark_service.specs.Floor.{floor_line}
use Rattle.stark_service.specs.Showing.{IsOfShowing}
use Rattle.stark_service.specs.StatementFacts.{IsOfTrace}
use Rattle.stark_service.specs.declared.floor.FloorVerdict.{FloorVerdict}
use Rattle.stark_service.specs.declared.floor.FloorVerdict.TheVariants.{Judged, NotJudged}
use Rattle.stark_cli.specs.Running.{IsFindingEnd, IsInput, SaysOf}
use Rattle.stark_cli.specs.declared.statements.Verb.{Verb}
use Rattle.stark_cli.specs.declared.statements.Verb.TheVariants.{Show, Trace, Verify, VerifyAtLeast}
use Rattle.stark_answers.specs.declared.task.ProofForm.{ProofForm}
use Rattle.stark_answers.specs.declared.task.TraceTask.{TraceTask}
use Rattle.stark_answers.specs.declared.task.TraceTask.TheVariants.{Check, Prove, ProveUnchecked}

-- what is said for want of memory
abbrev pub no_memory : Finding
no_memory = finding.Verdict verdict.OutOfMemory

-- It says this of a proof where its worth has a floor: the verdict, or the line of how many bits are proved.
abbrev pub IsFloorFinding : FloorVerdict → Finding → Type 0
IsFloorFinding (Judged v) f = f ≡ finding.Verdict v
IsFloorFinding (NotJudged bits) f = (line : String Global) × (f ≡ finding.TooFewBits line) × (string_bytes line ≡ floor_line (NotJudged bits))

-- Over what a verifier, without a floor and with one, a check and a prover say of a statement and a proof or a trace, and what is shown
-- of a statement.
module _ (verdict_on : List ℕ → List ℕ → Verdict → Type 0) (sound : List ℕ → List ℕ → Type 0) (floored : ℕ → List ℕ → List ℕ → FloorVerdict → Type 0) (finds : TraceTask → List ℕ → List ℕ → Finding → Type 0) (proof_file : List ℕ → List ℕ → ProofForm → List ℕ → Type 0) (shown : List ℕ → Finding → Type 0) where
  -- This is what is found of the bytes of a statement and of the second input; a finding is of its task, and a proof one of the trace.
  unfoldable pub IsFinding : Verb → List ℕ × List ℕ → Finding → Type 0
  IsFinding Verify input f = (v : Verdict) × (f ≡ finding.Verdict v) × verdict_on input.0 input.1 v × (v ≡ verdict.Accepted → sound input.0 input.1)
  IsFinding (VerifyAtLeast floor) input f = (a : FloorVerdict) × IsFloorFinding a f × floored floor input.0 input.1 a × (a ≡ Judged verdict.Accepted → sound input.0 input.1)
  IsFinding (Trace asked) input f = finds asked input.0 input.1 f × IsOfTrace asked f × WhereProof (proof_file input.0 input.1) f
  IsFinding Show input f = shown input.0 f × IsOfShowing f

  -- A run said what is found of these inputs, or that memory is wanting.
  abbrev pub SaysFinding : Verb → List ℕ × List ℕ → RunEnd → Option (List ℕ) → Option (List ℕ) → Type 0
  SaysFinding verb input end old new = SaysOf no_memory (IsFinding verb) input end old new

-- Over a verifier's verdicts.
module _ (verdict_on : List ℕ → List ℕ → Verdict → Type 0) (floored : ℕ → List ℕ → List ℕ → FloorVerdict → Type 0) where
  -- A verifier is asked, and accepts the proof for the statement: where its worth has a floor, by what is said under that.
  abbrev pub Accepts : Verb → List ℕ × List ℕ → Type 0
  Accepts Verify input = verdict_on input.0 input.1 verdict.Accepted
  Accepts (VerifyAtLeast floor) input = floored floor input.0 input.1 (Judged verdict.Accepted)
  Accepts (Trace asked) input = ⊥
  Accepts Show input = ⊥

  -- It is so of inputs that are the readers', where these tell their bytes.
  abbrev pub AcceptsInput : Verb → Option (List ℕ × List ℕ) → Type 0
  AcceptsInput verb known = (input : List ℕ × List ℕ) × IsInput known input × Accepts verb input

-- A run ended as what is found under the verb asks, where none of its reads and writes failed: for too few bits only where there is a
-- floor.
abbrev pub IsEndUnder : Verb → RunEnd → Type 0
IsEndUnder (VerifyAtLeast floor) end = IsFindingEnd end ⊎ (end ≡ ends.BelowFloor)
IsEndUnder Verify end = IsFindingEnd end
IsEndUnder (Trace asked) end = IsFindingEnd end
IsEndUnder Show end = IsFindingEnd end

-- A prover is asked for a proof in a form.
abbrev pub IsProver : ProofForm → Verb → Type 0
IsProver form verb = (verb ≡ Trace (Prove form)) ⊎ (verb ≡ Trace (ProveUnchecked form))

-- A run that was to write this file wrote it whole, or, where a write failed, a front of it.
abbrev pub WritesFile : RunEnd → List ℕ → Option (List ℕ) → Option (List ℕ) → Type 0
WritesFile ends.Accepted file old new = Appends old new file
WritesFile ends.OutputFailed file old new = (count : ℕ) × Appends old new (take count file)
WritesFile ends.Refused file old new = ⊥
WritesFile ends.NotJudged file old new = ⊥
WritesFile ends.BelowFloor file old new = ⊥
WritesFile ends.InputFailed file old new = ⊥

-- Over the files of proofs in a form, for a statement, of a trace.
module _ (proof_file : List ℕ → List ℕ → ProofForm → List ℕ → Type 0) where
  -- A prover is asked, and the bytes are the front of the file of a proof of the trace, in the form that is asked for.
  abbrev pub ProvesTrace : ProofForm → Verb → List ℕ × List ℕ → List ℕ → Type 0
  ProvesTrace form verb input bytes = IsProver form verb × (file : List ℕ) × proof_file input.0 input.1 form file × (count : ℕ) × (bytes ≡ take count file)

  -- A prover is asked, and this is the file of a proof, for inputs that are the readers', where these tell their bytes.
  abbrev pub ProvesInput : Verb → Option (List ℕ × List ℕ) → List ℕ → Type 0
  ProvesInput verb known file = (form : ProofForm) × IsProver form verb × (input : List ℕ × List ℕ) × IsInput known input × proof_file input.0 input.1 form file

  -- A run wrote such a file.
  abbrev pub WritesProof : Verb → Option (List ℕ × List ℕ) → Option (List ℕ) → Option (List ℕ) → Type 0
  WritesProof verb known old new = (file : List ℕ) × ProvesInput verb known file × Appends old new file

  -- A run was to write such a file.
  abbrev pub DeliversProof : Verb → Option (List ℕ × List ℕ) → RunEnd → Option (List ℕ) → Option (List ℕ) → Type 0
  DeliversProof verb known end old new = (file : List ℕ) × ProvesInput verb known file × WritesFile end file old new

-- A run was asked to show, and wrote a text that shows the statement.
abbrev pub WritesText : (List ℕ → Finding → Type 0) → Verb → Option (List ℕ × List ℕ) → Option (List ℕ) → Option (List ℕ) → Type 0
WritesText shown verb known old new = (f : Finding) × ((verb ≡ Show) × (input : List ℕ × List ℕ) × IsInput known input × shown input.0 f) × Appends old new (finding_bytes f)

-- A run was asked to check, and said that a trace satisfies the AIR of a statement, which it does.
abbrev pub SaysSatisfied : (TraceTask → List ℕ → List ℕ → Finding → Type 0) → Verb → Option (List ℕ × List ℕ) → Option (List ℕ) → Option (List ℕ) → Type 0
SaysSatisfied finds verb known old new = ((verb ≡ Trace Check) × (input : List ℕ × List ℕ) × IsInput known input × finds Check input.0 input.1 finding.Satisfied)
    × Appends old new (finding_bytes finding.Satisfied)
