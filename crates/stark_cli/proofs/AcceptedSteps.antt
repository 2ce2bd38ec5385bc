-- A run that was asked for a proof after a check, and ended well, wrote one that is accepted.
use Rattle.std.proofs.Common.{◌≡◌, ◌⊎◌, ◌∙◌, inl, inr, ap, refl, subst, sym, ℕ, List, Option, Result, Ok, Err, IfOk, true, is_err}
use Rattle.std.specs.Io.KnownBytes.{Appends}
use Rattle.stark_answers.specs.Finding.{IsProof, finding_bytes, finding_end}
use Rattle.stark_answers.specs.declared.finding.Finding.{Finding}
use Rattle.stark_answers.specs.declared.finding.Finding.TheVariants as finding
use Rattle.stark_answers.specs.declared.task.ProofForm.{ProofForm}
use Rattle.stark_answers.specs.declared.task.ProofForm.TheVariants.{Bytes, Json}
use Rattle.stark_answers.specs.declared.task.TraceTask.{TraceTask}
use Rattle.stark_answers.specs.declared.task.TraceTask.TheVariants.{Check, Prove}
use Rattle.stark_answers.specs.declared.verdict.RunEnd.{RunEnd}
use Rattle.stark_answers.specs.declared.verdict.RunEnd.TheVariants.{Accepted, BelowFloor, InputFailed, NotJudged, OutputFailed, Refused}
use Rattle.stark_answers.specs.declared.verdict.Verdict.{Verdict}
use Rattle.stark_answers.specs.declared.verdict.Verdict.TheVariants as verdict
use Rattle.stark_service.specs.StatementFacts.{IsOfTrace}
use Rattle.stark_service.specs.declared.floor.FloorVerdict.{FloorVerdict}
use Rattle.stark_cli.specs.AcceptedProofs.{AcceptsFoundOf, ProvesAccepted, WritesAccepted}
use Rattle.stark_cli.specs.Running.{Found, IsInput, Says, SaidProof}
use Rattle.stark_cli.specs.StatementRun.{IsFinding, no_memory}
use Rattle.stark_cli.specs.declared.statements.Verb.{Verb}
use Rattle.stark_cli.specs.declared.statements.Verb.TheVariants.{Show, Trace, Verify, VerifyAtLeast}
use Rattle.stark_cli.proofs.Findings.{is_some_of, only_accepted, some_of}

-- A finding of a trace that was to be proved, of which a run ends well, is a proof as it was asked for.
proof_ends : (form : ProofForm) (f : Finding) → IsOfTrace (Prove form) f → finding_end f ≡ Accepted → IsProof form f
proof_ends form (finding.Verdict v) kind e = absurd (kind.accepts_none (ap (λ w. finding.Verdict w) (only_accepted v e)))
proof_ends form (finding.Proof line) kind e = let same : Json ≡ form = kind.proves_as_asked Json refl in sym same
proof_ends form (finding.ProofBytes bytes) kind e = let same : Bytes ≡ form = kind.proves_as_asked Bytes refl in sym same
proof_ends form (finding.Text text) kind e = absurd (kind.shows_none tt)
proof_ends form finding.Satisfied kind e = absurd (let clash : Prove form ≡ Check = kind.satisfied_checks refl in cc)
proof_ends form (finding.Broken row) kind e = absurd (let clash : Refused ≡ Accepted = e in cc)
proof_ends form (finding.TooFewBits line) kind e = absurd kind.begins

-- A run that ends well ends as what it found, and wrote it whole.
ends_whole : (end : RunEnd) (f : Finding) (old new : Option (List ℕ)) → end ≡ Accepted → Says end f old new → (finding_end f ≡ Accepted) × Appends old new (finding_bytes f)
ends_whole end f old new is says = subst (λ e. Says e f old new) is says

memory_ends : (f : Finding) → f ≡ no_memory → finding_end f ≡ Accepted → ⊥
memory_ends f memory e = let clash : NotJudged ≡ Accepted = sym (ap finding_end memory) ∙ e in cc

-- ---- what is found under a verb

same_task : (asked : TraceTask) (form : ProofForm) → Trace asked ≡ Trace (Prove form) → asked ≡ Prove form
same_task asked form is = cc

-- Other verbs ask for no proof after a check.
pub verify_is_other : (verb : Verb) (form : ProofForm) → verb ≡ Verify → verb ≡ Trace (Prove form) → ⊥
verify_is_other verb form is proves = let clash : Verify ≡ Trace (Prove form) = sym is ∙ proves in cc

pub floor_is_other : (verb : Verb) (floor : ℕ) (form : ProofForm) → verb ≡ VerifyAtLeast floor → verb ≡ Trace (Prove form) → ⊥
floor_is_other verb floor form is proves = let clash : VerifyAtLeast floor ≡ Trace (Prove form) = sym is ∙ proves in cc

pub show_is_other : (verb : Verb) (form : ProofForm) → verb ≡ Show → verb ≡ Trace (Prove form) → ⊥
show_is_other verb form is proves = let clash : Show ≡ Trace (Prove form) = sym is ∙ proves in cc

pub asked_proof : (verb : Verb) (asked : TraceTask) (form : ProofForm) → verb ≡ Trace asked → verb ≡ Trace (Prove form) → asked ≡ Prove form
asked_proof verb asked form is proves = same_task asked form (sym is ∙ proves)

-- Want of memory is no proof.
pub memory_accepted : {A : Type 0} (accepts : List ℕ → List ℕ → Type 0) (verb : Verb) (known : Option (List ℕ × List ℕ)) (input : List ℕ × List ℕ) → IsInput known input → (answer : A → Finding) (r : Result A RunEnd) → IfOk r (λ x. answer x ≡ no_memory)
    → IfOk r (λ x. AcceptsFoundOf accepts verb known (answer x))
memory_accepted accepts verb known input is answer (Ok x) memory = (input, is, λ form proves proof. absurd (subst (IsProof form) memory proof))
memory_accepted accepts verb known input is answer (Err e) memory = tt

-- ---- what a run wrote

module _ (verdict_on : List ℕ → List ℕ → Verdict → Type 0) (sound : List ℕ → List ℕ → Type 0) (floored : ℕ → List ℕ → List ℕ → FloorVerdict → Type 0) (obtained : TraceTask → List ℕ → List ℕ → Finding → Type 0) (proof_file : List ℕ → List ℕ → ProofForm → List ℕ → Type 0) (shown : List ℕ → Finding → Type 0)
    (accepts : List ℕ → List ℕ → Type 0) (verb : Verb) (known : Option (List ℕ × List ℕ)) where
  of_trace : (form : ProofForm) → verb ≡ Trace (Prove form) → (input : List ℕ × List ℕ) (f : Finding) → IsFinding verdict_on sound floored obtained proof_file shown verb input f → IsOfTrace (Prove form) f
  unfolding IsFinding
  of_trace form is input f here = (subst (λ k. IsFinding verdict_on sound floored obtained proof_file shown k input f) is here).1

  is_proof : (form : ProofForm) → verb ≡ Trace (Prove form) → (f : Finding) → Found no_memory (IsFinding verdict_on sound floored obtained proof_file shown verb) known f → finding_end f ≡ Accepted → IsProof form f
  is_proof form is f obtained e = elim obtained.2 [
    | inl here ↦ proof_ends form f (of_trace form is obtained.0 f here) e
    | inr memory ↦ absurd (memory_ends f memory e)
  ]

  finding_written : (f : Finding) (end : RunEnd) (old new : Option (List ℕ)) → Found no_memory (IsFinding verdict_on sound floored obtained proof_file shown verb) known f → AcceptsFoundOf accepts verb known f → Says end f old new
      → end ≡ Accepted → ProvesAccepted accepts verb known old new
  finding_written f end old new obtained accepted says is = λ form proves.
      let whole = ends_whole end f old new is says in
      (accepted.0, accepted.1, finding_bytes f, accepted.2 form proves (is_proof form proves f obtained whole.0), whole.1)

  failed_end : (end : RunEnd) → end ≡ InputFailed → end ≡ Accepted → ⊥
  failed_end end failed is = let clash : InputFailed ≡ Accepted = sym failed ∙ is in cc

  module _ {A : Type 0} (answer : A → Finding) (end : RunEnd) (old new : Option (List ℕ)) where
    pub accepted_written : (r : Result A RunEnd) → IfOk r (λ x. Found no_memory (IsFinding verdict_on sound floored obtained proof_file shown verb) known (answer x)) → IfOk r (λ x. AcceptsFoundOf accepts verb known (answer x))
        → IfOk r (λ x. Says end (answer x) old new) → (is_err r ≡ true → end ≡ InputFailed) → end ≡ Accepted → ProvesAccepted accepts verb known old new
    accepted_written (Ok x) obtained accepted says failed is = finding_written (answer x) end old new obtained accepted says is
    accepted_written (Err e) obtained accepted says failed is = absurd (failed_end end (failed refl) is)

    -- where a proof has an output of its own
    pub accepted_delivered : (Stated : Type 0) → Stated → (r : Result A RunEnd) → IfOk r (λ x. Found no_memory (IsFinding verdict_on sound floored obtained proof_file shown verb) known (answer x)) → IfOk r (λ x. AcceptsFoundOf accepts verb known (answer x))
        → IfOk r (λ x. Stated → SaidProof end (answer x) old new) → (is_err r ≡ true → end ≡ InputFailed) → end ≡ Accepted → ProvesAccepted accepts verb known old new
    accepted_delivered Stated stated (Ok x) obtained accepted says failed is = finding_written (answer x) end old new obtained accepted (says stated).says is
    accepted_delivered Stated stated (Err e) obtained accepted says failed is = absurd (failed_end end (failed refl) is)
