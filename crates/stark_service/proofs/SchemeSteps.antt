-- From what is said over a configuration to what is said by the scheme that was chosen.
use Rattle.std.proofs.Common.{◌≡◌, ◌⊎◌, ◌∙◌, inl, inr, ap, subst, ℕ, ◌≤◌, List, Option}
use Rattle.stark_merkle.specs.declared.root.Root.{Root}
use Rattle.stark_fri_proof.specs.Parts.{FriProofView}
use Rattle.stark_fri_proof.specs.declared.parameters.FriParameters.{FriParameters}
use Rattle.stark_fri.specs.Parts.{FriOps}
use Rattle.stark_over_fri.proofs.AcceptedSteps.{IsByFri}
use Rattle.stark_over_fri.proofs.DeclaredSteps.{CommitsByFri}
use Rattle.stark_proof.specs.ProofView.{ProofView}
use Rattle.stark_clear.specs.ClearScheme.{clear_pcs}
use Rattle.stark_clear.specs.Stops.{StopsAt}
use Rattle.stark_clear.specs.declared.clear.call.ClearCall.{ClearCall}
use Rattle.stark_clear.specs.declared.clear.pcs.ClearPcs.{ClearPcs}
use Rattle.stark_statement.specs.Configuration.{fri_numbers}
use Rattle.stark_statement.specs.StatementView.{StatementView}
use Rattle.stark_answers.specs.Finding.{IsAcceptedWhereProved, WhereProof, finding_bytes}
use Rattle.stark_answers.specs.SoundRun.{Listed}
use Rattle.stark_answers.specs.declared.finding.Finding.{Finding}
use Rattle.stark_answers.specs.declared.task.TraceTask.{TraceTask}
use Rattle.stark_answers.specs.declared.verdict.Verdict.{Verdict}
use Rattle.stark_answers.specs.declared.verdict.Verdict.TheVariants as verdict
use Rattle.stark_answers.proofs.SoundSteps.{InTheClear}
use Rattle.stark_service.specs.Acceptance.{IsAcceptedOn}
use Rattle.stark_service.specs.Schemes.{WithNumbers}
use Rattle.stark_service.specs.Service.{ServiceOps}
use Rattle.stark_service.specs.Statements.{IsFileOn, IsSoundOn, IsAnswerOn, IsVerdictOn}
use Rattle.stark_service.specs.TraceChecks.{OrLacksMemory}
use Rattle.stark_service.specs.FriSoundness.{IsSoundByFriOn}
use Rattle.stark_service.proofs.FriSound.{sound_by_fri}
use Rattle.stark_service.proofs.StatementsSound.{listed_soundly}

-- A configuration has a scheme that was made with parameters, and a challenger that observed the statement.
module _ {S F E C K T P X Y : Type 0} (ops : ServiceOps S F E C K T P X Y) (scheme made : S) (parameters_of : S → FriParameters) (parameters : FriParameters) (state bound after : C) (s : StatementView F)
    (is_made : scheme ≡ made) (made_with : parameters_of made ≡ parameters) (is_bound : state ≡ bound) (observed : bound ≡ after) where
  with_numbers : (Holds : S → C → Type 0) → Holds scheme state → WithNumbers parameters_of (fri_numbers parameters) (λ pcs. Holds pcs after)
  with_numbers Holds holds = (scheme, ap fri_numbers (ap parameters_of is_made ∙ made_with), subst (Holds scheme) (is_bound ∙ observed) holds)

  module _ (read : Option (ProofView K E P F)) where
    pub verdict_by_numbers : (v : Verdict) → (v ≡ verdict.OutOfMemory) ⊎ IsVerdictOn ops scheme state s read v → (v ≡ verdict.OutOfMemory) ⊎ WithNumbers parameters_of (fri_numbers parameters) (λ pcs. IsVerdictOn ops pcs after s read v)
    verdict_by_numbers v (inl memory) = inl memory
    verdict_by_numbers v (inr said) = inr (with_numbers (λ pcs c. IsVerdictOn ops pcs c s read v) said)

  module _ (read : Option (List (List F))) where
    pub found_by_numbers : (asked : TraceTask) (f : Finding) → OrLacksMemory (IsAnswerOn ops scheme state s asked read) f → OrLacksMemory (λ g. WithNumbers parameters_of (fri_numbers parameters) (λ pcs. IsAnswerOn ops pcs after s asked read g)) f
    found_by_numbers asked f (inl memory) = inl memory
    found_by_numbers asked f (inr obtained) = inr (with_numbers (λ pcs c. IsAnswerOn ops pcs c s asked read f) obtained)

    pub file_by_numbers : (f : Finding) → WhereProof (λ form file. IsFileOn ops scheme state s form read file) f → WhereProof (λ form file. WithNumbers parameters_of (fri_numbers parameters) (λ pcs. IsFileOn ops pcs after s form read file)) f
    file_by_numbers f is = λ form proof. with_numbers (λ pcs c. IsFileOn ops pcs c s form read (finding_bytes f)) (is form proof)

  -- A file that is accepted is so with these numbers.
  pub accepted_by_numbers : (asked : TraceTask) (f : Finding) → IsAcceptedWhereProved asked (λ file. IsAcceptedOn ops scheme state s (ops.reading file)) f
      → IsAcceptedWhereProved asked (λ file. WithNumbers parameters_of (fri_numbers parameters) (λ pcs. IsAcceptedOn ops pcs after s (ops.reading file))) f
  accepted_by_numbers asked f accepts = λ form is proof. with_numbers (λ pcs c. IsAcceptedOn ops pcs c s (ops.reading (finding_bytes f))) (accepts form is proof)

-- What is accepted by FRI is sound, by the verdict with the scheme and the challenger that a configuration has.
module _ {S F E C T P X Y : Type 0} (ops : ServiceOps S F E C Root T P X Y) (scheme made : S) (parameters_of : S → FriParameters) (parameters : FriParameters) (state bound after : C) (s : StatementView F)
    (is_made : scheme ≡ made) (made_with : parameters_of made ≡ parameters) (is_bound : state ≡ bound) (observed : bound ≡ after) (fri : FriOps C F E) (proof_of : P → FriProofView F E) (by : IsByFri ops.protocol fri parameters_of proof_of)
    (commits : CommitsByFri ops.protocol fri parameters_of) where
  pub sound_by_numbers : (read : Option (ProofView Root E P F)) (v : Verdict) → (v ≡ verdict.OutOfMemory) ⊎ IsVerdictOn ops scheme state s read v → v ≡ verdict.Accepted
      → WithNumbers parameters_of (fri_numbers parameters) (λ pcs. IsSoundByFriOn ops fri parameters_of proof_of pcs after s read)
  sound_by_numbers read v said is =
      with_numbers ops scheme made parameters_of parameters state bound after s is_made made_with is_bound observed (λ pcs c. IsSoundByFriOn ops fri parameters_of proof_of pcs c s read)
      (sound_by_fri ops fri parameters_of proof_of by commits scheme state s read v said is)

-- What is accepted in the clear is sound, by the verdict with the scheme and the challenger that a configuration has.
pub sound_in_the_clear : {S F E C T P X Y : Type 0} (ops : ServiceOps S F E C (Listed F) T P X Y) (scheme made other : S) (state bound after : C) (s : StatementView F)
    → scheme ≡ made → made ≡ other → state ≡ bound → bound ≡ after → ((log_rows : ℕ) → log_rows ≤ ops.protocol.opening.scheme.log_max_trace_height other → InTheClear ops.protocol log_rows)
    → (read : Option (ProofView (Listed F) E P F)) (v : Verdict) → (v ≡ verdict.OutOfMemory) ⊎ IsVerdictOn ops scheme state s read v → v ≡ verdict.Accepted → IsSoundOn ops other after s read
sound_in_the_clear ops scheme made other state bound after s is_made is_new is_bound observed clear read v said is =
    listed_soundly ops other after s clear read v
    (subst (λ p. (v ≡ verdict.OutOfMemory) ⊎ IsVerdictOn ops p after s read v) (is_made ∙ is_new)
    (subst (λ c. (v ≡ verdict.OutOfMemory) ⊎ IsVerdictOn ops scheme c s read v) (is_bound ∙ observed) said)) is

-- A file of a proof is one with the scheme and the challenger that a configuration has.
pub file_in_the_clear : {S F E C K T P X Y : Type 0} (ops : ServiceOps S F E C K T P X Y) (scheme made other : S) (state bound after : C) (s : StatementView F) → scheme ≡ made → made ≡ other → state ≡ bound → bound ≡ after
    → (read : Option (List (List F))) (f : Finding) → WhereProof (λ form file. IsFileOn ops scheme state s form read file) f → WhereProof (λ form file. IsFileOn ops other after s form read file) f
file_in_the_clear ops scheme made other state bound after s is_made is_new is_bound observed read f is = λ form proof.
    subst (λ p. IsFileOn ops p after s form read (finding_bytes f)) (is_made ∙ is_new)
    (subst (λ c. IsFileOn ops scheme c s form read (finding_bytes f)) (is_bound ∙ observed) (is form proof))

-- A file that is accepted is so with the scheme and the challenger that a configuration has.
pub accepted_in_the_clear : {S F E C K T P X Y : Type 0} (ops : ServiceOps S F E C K T P X Y) (scheme made other : S) (state bound after : C) (s : StatementView F) → scheme ≡ made → made ≡ other → state ≡ bound → bound ≡ after
    → (asked : TraceTask) (f : Finding) → IsAcceptedWhereProved asked (λ file. IsAcceptedOn ops scheme state s (ops.reading file)) f → IsAcceptedWhereProved asked (λ file. IsAcceptedOn ops other after s (ops.reading file)) f
accepted_in_the_clear ops scheme made other state bound after s is_made is_new is_bound observed asked f accepts = λ form is proof.
    subst (λ p. IsAcceptedOn ops p after s (ops.reading (finding_bytes f))) (is_made ∙ is_new)
    (subst (λ c. IsAcceptedOn ops scheme c s (ops.reading (finding_bytes f))) (is_bound ∙ observed) (accepts form is proof))

-- A scheme that stops nowhere stops at no call.
pub stops_nowhere : {F : Type 0} (pcs made : ClearPcs F) → pcs ≡ made → made ≡ clear_pcs → (call : ClearCall) → StopsAt pcs.stops_at call → ⊥
stops_nowhere {F} pcs made is new call stops = subst (λ (k : ClearPcs F). StopsAt k.stops_at call) (is ∙ new) stops
