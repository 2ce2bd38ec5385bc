-- What is found of a trace where no statement was read.
use Rattle.std.proofs.Common.{◌≡◌, ◌⊎◌, subst, sym, Result}
use Rattle.stark_statement.specs.StatementJson.{StatementFault}
use Rattle.stark_statement.specs.StatementView.{StatementView}
use Rattle.stark_answers.specs.Finding.{IsProof}
use Rattle.stark_answers.specs.declared.finding.Finding.{Finding}
use Rattle.stark_answers.specs.declared.finding.Finding.TheVariants as finding
use Rattle.stark_answers.specs.declared.task.ProofForm.{ProofForm}
use Rattle.stark_answers.specs.declared.task.TraceTask.{TraceTask}
use Rattle.stark_answers.specs.declared.verdict.Verdict.{Verdict}
use Rattle.stark_answers.specs.declared.verdict.Verdict.TheVariants as verdict
use Rattle.stark_service.specs.StatementFacts.{IsOfTrace}
use Rattle.stark_service.specs.Statements.{IsSaidOfNone}
use Rattle.stark_service.proofs.ReadSteps.{none_accepted}

-- A verdict that doesn't accept is a finding of a trace under any task.
pub verdict_of_trace : (asked : TraceTask) (v : Verdict) (f : Finding) → f ≡ finding.Verdict v → (v ≡ verdict.Accepted → ⊥) → IsOfTrace asked f
verdict_of_trace asked v f is other = subst (IsOfTrace asked) (sym is) (record {
  begins = tt;
  accepts_none = λ accepts. other (let same : v ≡ verdict.Accepted = cc in same);
  shows_none = λ no. no;
  proves_as_asked = λ form no. absurd no;
  satisfied_checks = λ satisfied. absurd (let clash : finding.Verdict v ≡ finding.Satisfied = satisfied in cc);
})

-- What is said without a statement is one.
pub unread_of_trace : {F : Type 0} (asked : TraceTask) (read : Result (StatementView F) StatementFault) (v : Verdict) (f : Finding) → f ≡ finding.Verdict v → (v ≡ verdict.OutOfMemory) ⊎ IsSaidOfNone read v → IsOfTrace asked f
unread_of_trace asked read v f is said = verdict_of_trace asked v f is (none_accepted read v said)

-- It is no proof.
pub verdict_no_proof : (v : Verdict) (f : Finding) → f ≡ finding.Verdict v → (form : ProofForm) → IsProof form f → ⊥
verdict_no_proof v f is form proof = subst (IsProof form) is proof
