-- What a run whose proof goes to an output of its own wrote there, and to its writer.
use Rattle.std.proofs.Common.{◌≡◌, ◌⊎◌, ◌∙◌, inl, inr, refl, sym, subst, ℕ, List, Option}
use Rattle.std.specs.Io.KnownBytes.{Appends}
use Rattle.stark_answers.specs.Finding.{finding_end, finding_bytes}
use Rattle.stark_answers.specs.Verdict.{line_of}
use Rattle.stark_answers.specs.declared.finding.Finding.{Finding}
use Rattle.stark_answers.specs.declared.finding.Finding.TheVariants as finding
use Rattle.stark_answers.specs.declared.task.ProofForm.{ProofForm}
use Rattle.stark_answers.specs.declared.task.TraceTask.{TraceTask}
use Rattle.stark_answers.specs.declared.verdict.Verdict.{Verdict}
use Rattle.stark_answers.specs.declared.verdict.Verdict.TheVariants as verdict
use Rattle.stark_answers.specs.declared.verdict.RunEnd.{RunEnd}
use Rattle.stark_answers.specs.declared.verdict.RunEnd.TheVariants.{Accepted, BelowFloor, Refused, NotJudged, InputFailed, OutputFailed}
use Rattle.stark_service.specs.declared.floor.FloorVerdict.{FloorVerdict}
use Rattle.stark_cli.specs.Running.{Found, IsSomeProof, Says, SaysAnswer, SaysProof}
use Rattle.stark_cli.specs.StatementRun.{AcceptsInput, DeliversProof, IsFinding, SaysSatisfied, WritesFile, WritesText, no_memory}
use Rattle.stark_cli.specs.declared.statements.Verb.{Verb}
use Rattle.stark_cli.proofs.Findings.{finds, form_of, only_accepted, unjudged_memory}
use Rattle.stark_cli.proofs.StatementMeaning.{accepts, checker, prover, shower}

proof_ends : (f : Finding) → IsSomeProof f → finding_end f ≡ Accepted
proof_ends (finding.Verdict v) is = absurd is
proof_ends (finding.Proof line) is = refl
proof_ends (finding.ProofBytes bytes) is = refl
proof_ends (finding.Text text) is = absurd is
proof_ends finding.Satisfied is = absurd is
proof_ends (finding.Broken row) is = absurd is
proof_ends (finding.TooFewBits line) is = absurd is

refused_no_proof : Refused ≡ Accepted → ⊥
refused_no_proof h = cc

unjudged_no_proof : NotJudged ≡ Accepted → ⊥
unjudged_no_proof h = cc

below_no_proof : BelowFloor ≡ Accepted → ⊥
below_no_proof h = cc

-- What is said of a proof is its file, or a front of it.
writes_file : (end : RunEnd) (f : Finding) (old new : Option (List ℕ)) → IsSomeProof f → (end ≡ InputFailed → ⊥) → Says end f old new → WritesFile end (finding_bytes f) old new
writes_file Accepted f old new is read says = says.1
writes_file OutputFailed f old new is read says = says
writes_file Refused f old new is read says = refused_no_proof (sym says.0 ∙ proof_ends f is)
writes_file NotJudged f old new is read says = unjudged_no_proof (sym says.0 ∙ proof_ends f is)
writes_file BelowFloor f old new is read says = below_no_proof (sym says.0 ∙ proof_ends f is)
writes_file InputFailed f old new is read says = read refl

module _ (verdict_on : List ℕ → List ℕ → Verdict → Type 0) (sound : List ℕ → List ℕ → Type 0) (floored : ℕ → List ℕ → List ℕ → FloorVerdict → Type 0) (obtained : TraceTask → List ℕ → List ℕ → Finding → Type 0) (proof_file : List ℕ → List ℕ → ProofForm → List ℕ → Type 0) (shown : List ℕ → Finding → Type 0) where
  -- A run that found a proof and said so wrote the file of one, for the statement, of the trace.
  pub delivers : (verb : Verb) (known : Option (List ℕ × List ℕ)) (end : RunEnd) (old new : Option (List ℕ)) → (end ≡ InputFailed → ⊥)
      → SaysProof no_memory (IsFinding verdict_on sound floored obtained proof_file shown verb) known end old new → DeliversProof proof_file verb known end old new
  delivers verb known end old new read (f, is, (input, lent, inl here), says) =
      let formed = form_of f is in
      let proof = prover verdict_on sound floored obtained proof_file shown verb input f here formed.0 formed.1 in
      (finding_bytes f, (formed.0, proof.0, input, lent, proof.1), writes_file end f old new is read says)
  delivers verb known end old new read (f, is, (input, lent, inr lacks), says) = absurd (subst IsSomeProof lacks is)

  answered : (verb : Verb) (known : Option (List ℕ × List ℕ)) (f : Finding) (old new : Option (List ℕ)) → (IsSomeProof f → ⊥) → finding_end f ≡ Accepted
      → Found no_memory (IsFinding verdict_on sound floored obtained proof_file shown verb) known f → Appends old new (finding_bytes f)
      → (AcceptsInput verdict_on floored verb known × Appends old new (line_of verdict.Accepted)) ⊎ (WritesText shown verb known old new ⊎ SaysSatisfied obtained verb known old new)
  answered verb known (finding.Verdict v) old new other e here wrote =
      let is : v ≡ verdict.Accepted = only_accepted v e in
      let some = finds no_memory unjudged_memory (IsFinding verdict_on sound floored obtained proof_file shown verb) known (finding.Verdict v) e here in
      let accepted = accepts verdict_on sound floored obtained proof_file shown verb some.0 (subst (λ w. IsFinding verdict_on sound floored obtained proof_file shown verb some.0 (finding.Verdict w)) is some.2) in
      inl ((some.0, some.1, accepted), subst (λ w. Appends old new (line_of w)) is wrote)
  answered verb known (finding.Proof line) old new other e here wrote = absurd (other tt)
  answered verb known (finding.ProofBytes bytes) old new other e here wrote = absurd (other tt)
  answered verb known (finding.Text text) old new other e here wrote =
      let some = finds no_memory unjudged_memory (IsFinding verdict_on sound floored obtained proof_file shown verb) known (finding.Text text) e here in
      let shows = shower verdict_on sound floored obtained proof_file shown verb some.0 (finding.Text text) some.2 tt in
      inr (inl (finding.Text text, (shows.0, some.0, some.1, shows.1), wrote))
  answered verb known finding.Satisfied old new other e here wrote =
      let some = finds no_memory unjudged_memory (IsFinding verdict_on sound floored obtained proof_file shown verb) known finding.Satisfied e here in
      let checked = checker verdict_on sound floored obtained proof_file shown verb some.0 some.2 in
      inr (inr ((checked.0, some.0, some.1, checked.1), wrote))
  answered verb known (finding.Broken row) old new other e here wrote = absurd (refused_no_proof e)
  answered verb known (finding.TooFewBits line) old new other e here wrote = absurd (below_no_proof e)

  -- One that found no proof ends well only as `accepted`, a text and `satisfied` do.
  pub ends_answered : (verb : Verb) (known : Option (List ℕ × List ℕ)) (end : RunEnd) (old new : Option (List ℕ))
      → (end ≡ InputFailed) ⊎ SaysAnswer no_memory (IsFinding verdict_on sound floored obtained proof_file shown verb) known end old new → end ≡ Accepted
      → (AcceptsInput verdict_on floored verb known × Appends old new (line_of verdict.Accepted)) ⊎ (WritesText shown verb known old new ⊎ SaysSatisfied obtained verb known old new)
  ends_answered verb known InputFailed old new said e = absurd (cc)
  ends_answered verb known OutputFailed old new said e = absurd (cc)
  ends_answered verb known Refused old new said e = absurd (cc)
  ends_answered verb known NotJudged old new said e = absurd (cc)
  ends_answered verb known BelowFloor old new said e = absurd (cc)
  ends_answered verb known Accepted old new (inl failed) e = absurd (cc)
  ends_answered verb known Accepted old new (inr said) e = answered verb known said.0 old new said.1 said.3.0 said.2 said.3.1
