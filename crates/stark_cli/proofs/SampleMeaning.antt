-- What is found under a command of a sample AIR, and what it means.
use Rattle.std.proofs.Common.{◌≡◌, ◌⊎◌, inl, inr, ap, refl, ℕ, List, [], Option, None, Some, IfSome, sym, subst}
use Rattle.std.specs.Io.KnownBytes.{Appends}
use Rattle.stark_commands.specs.Airs.{log_chunks_of, sample}
use Rattle.stark_answers.specs.CheckedAir.{shape_of}
use Rattle.stark_commands.specs.Check.{check_verdict}
use Rattle.stark_answers.specs.Finding.{IsProof, IsText, WhereLine, finding_bytes}
use Rattle.stark_commands.specs.Input.{numbers_in}
use Rattle.stark_answers.specs.Verdict.{line_of}
use Rattle.stark_answers.specs.declared.finding.Finding.{Finding}
use Rattle.stark_answers.specs.declared.finding.Finding.TheVariants as finding
use Rattle.stark_answers.specs.declared.task.ProofForm.{ProofForm}
use Rattle.stark_answers.specs.declared.task.ProofForm.TheVariants.{Json}
use Rattle.stark_commands.specs.declared.sample.SampleAir.{SampleAir}
use Rattle.stark_answers.specs.declared.verdict.Verdict.{Verdict}
use Rattle.stark_answers.specs.declared.verdict.Verdict.TheVariants as verdict
use Rattle.stark_answers.specs.declared.verdict.Refusal.TheVariants as refusal
use Rattle.stark_commands.proofs.CheckMeaning.{holds_of_read}
use Rattle.stark_commands.proofs.Sizes.{cut_of_sample}
use Rattle.stark_cli.specs.Running.{AcceptsOrTells, Found, IsFoundOrLacksMemory, IsFrontOfProof, IsInput}
use Rattle.stark_cli.proofs.Findings.{form_of, input_found, is_some_of, some_of}
use Rattle.stark_cli.specs.SampleRun.{AcceptsInput, HoldsOf, IsFinding, OfVerified, ProvesTrace, WritesProof, bad_input_without_command, lacks_memory}
use Rattle.stark_cli.specs.declared.words.Command.{Command}
use Rattle.stark_cli.specs.declared.words.Command.TheVariants.{Check, Prove, Verify}

bad_input_clash : verdict.BadInput ≡ verdict.Accepted → ⊥
bad_input_clash h = cc

same_verdict : (v w : Verdict) → finding.Verdict v ≡ finding.Verdict w → v ≡ w
same_verdict v w e = cc

-- A verdict is no proof, and no text.
no_proof : (f : Finding) (v : Verdict) → f ≡ finding.Verdict v → (form : ProofForm) → IsProof form f → ⊥
no_proof f v is form proof = subst (IsProof form) is proof

no_text : (f : Finding) (v : Verdict) → f ≡ finding.Verdict v → IsText f → ⊥
no_text f v is text = subst IsText is text

module _ (verified : SampleAir → List ℕ → Verdict → Type 0) (sound : SampleAir → List ℕ → Type 0) (proved : SampleAir → List ℕ → Finding → Type 0) where
  -- What an AIR's check, verifier or prover finds is found of the command that names it.
  pub check_found : (command : Command) (air : SampleAir) (input : List ℕ) (v : Verdict) → command ≡ Check air
      → (v ≡ check_verdict (sample air) (log_chunks_of air) (numbers_in (shape_of (sample air)) input)) ⊎ (v ≡ verdict.Refused refusal.OutOfMemory)
      → IsFoundOrLacksMemory lacks_memory (IsFinding verified sound proved (Some command)) input (finding.Verdict v)
  unfolding IsFinding
  check_found command air input v is (inl obtained) = subst (λ k. IsFoundOrLacksMemory lacks_memory (IsFinding verified sound proved (Some k)) input (finding.Verdict v)) (sym is) (inl (ap (λ w. finding.Verdict w) obtained))
  check_found command air input v is (inr memory) = inr (ap (λ w. finding.Verdict w) memory)

  pub verify_found : (command : Command) (air : SampleAir) (input : List ℕ) (v : Verdict) → command ≡ Verify air
      → verified air input v ⊎ (v ≡ verdict.Refused refusal.OutOfMemory) → (v ≡ verdict.Accepted → sound air input)
      → IsFoundOrLacksMemory lacks_memory (IsFinding verified sound proved (Some command)) input (finding.Verdict v)
  unfolding IsFinding
  verify_found command air input v is (inl obtained) soundly = subst (λ k. IsFoundOrLacksMemory lacks_memory (IsFinding verified sound proved (Some k)) input (finding.Verdict v)) (sym is) (inl (v, refl, obtained, soundly))
  verify_found command air input v is (inr memory) soundly = inr (ap (λ w. finding.Verdict w) memory)

  pub prove_found : (command : Command) (air : SampleAir) (input : List ℕ) (f : Finding) → command ≡ Prove air
      → proved air input f ⊎ (f ≡ finding.Verdict (verdict.Refused refusal.OutOfMemory)) → IsFoundOrLacksMemory lacks_memory (IsFinding verified sound proved (Some command)) input f
  unfolding IsFinding
  prove_found command air input f is obtained = subst (λ k. IsFoundOrLacksMemory lacks_memory (IsFinding verified sound proved (Some k)) input f) (sym is) obtained

  -- Under words that name no command every input is bad.
  pub other_words_found : (result command : Option Command) (known : Option (List ℕ)) → result ≡ command → ((x : Command) → result ≡ Some x → ⊥)
      → Found lacks_memory (IsFinding verified sound proved command) known (finding.Verdict verdict.BadInput)
  other_words_found None command known e other =
      subst (λ k. Found lacks_memory (IsFinding verified sound proved k) known (finding.Verdict verdict.BadInput)) e
      (some_of [] known, is_some_of [] known, inl (bad_input_without_command verified sound proved (some_of [] known)))
  other_words_found (Some x) command known e other = absurd (other x refl)

  -- What is found of a command is found of the words that name it.
  pub command_found : (command : Option Command) (known : Option (List ℕ)) (lent input : List ℕ) (named : Command) (f : Finding) → IsInput known input → command ≡ Some named → lent ≡ input
      → IsFoundOrLacksMemory lacks_memory (IsFinding verified sound proved (Some named)) lent f → Found lacks_memory (IsFinding verified sound proved command) known f
  command_found command known lent input named f is names same obtained =
      subst (λ k. Found lacks_memory (IsFinding verified sound proved k) known f) (sym names) (input_found lacks_memory (IsFinding verified sound proved (Some named)) known lent input f is same obtained)

  -- Where a prover accepts nothing, what is accepted was checked or verified.
  pub holds_of_finding : ((air : SampleAir) (input : List ℕ) → proved air input (finding.Verdict verdict.Accepted) → ⊥) → (command : Option Command) (input : List ℕ)
      → IsFinding verified sound proved command input (finding.Verdict verdict.Accepted) → HoldsOf verified sound proved command input
  unfolding IsFinding
  holds_of_finding none None input h = absurd (bad_input_clash (sym (same_verdict _ _ h)))
  holds_of_finding none (Some (Check air)) input h =
      let holding = holds_of_read (sample air) (log_chunks_of air) (cut_of_sample air) (numbers_in (shape_of (sample air)) input) (sym (same_verdict _ _ h)) in
      inl (air, refl, holding.0, holding.1, holding.2, holding.3)
  holds_of_finding none (Some (Verify air)) input h = inr (air, refl, subst (λ v. verified air input v) (sym (same_verdict _ _ h.1)) h.2)
  holds_of_finding none (Some (Prove air)) input h = absurd (none air input h)

  -- What is accepted of a proof is sound.
  pub sound_of_finding : (command : Option Command) (input : List ℕ) → IsFinding verified sound proved command input (finding.Verdict verdict.Accepted) → OfVerified sound command input
  unfolding IsFinding
  sound_of_finding None input h air named = absurd (cc)
  sound_of_finding (Some (Check other)) input h air named = absurd (let clash : Check other ≡ Verify air = cc in cc)
  sound_of_finding (Some (Prove other)) input h air named = absurd (let clash : Prove other ≡ Verify air = cc in cc)
  sound_of_finding (Some (Verify other)) input h air named =
      let same : other ≡ air = cc in
      subst (λ a. sound a input) same (h.3 (sym (same_verdict _ _ h.1)))

no_verdict : (v : Verdict) → finding.Satisfied ≡ finding.Verdict v → ⊥
no_verdict v is = cc

-- Where proofs that are found are proofs of the trace that was read.
module _ (verified : SampleAir → List ℕ → Verdict → Type 0) (sound : SampleAir → List ℕ → Type 0) (proved : SampleAir → List ℕ → Finding → Type 0) (proof_line : SampleAir → List ℕ → List ℕ → Type 0)
    (finds_proofs : (air : SampleAir) (input : List ℕ) (f : Finding) → proved air input f → WhereLine (proof_line air input) f)
    (shows_none : (air : SampleAir) (input : List ℕ) (f : Finding) → proved air input f → IsText f → ⊥)
    (satisfies_none : (air : SampleAir) (input : List ℕ) → proved air input finding.Satisfied → ⊥) where
  named_prover : (command : Option Command) (input : List ℕ) (f : Finding) → IsFinding verified sound proved command input f → (form : ProofForm) → IsProof form f
      → (air : SampleAir) × (command ≡ Some (Prove air)) × proof_line air input (finding_bytes f)
  unfolding IsFinding
  named_prover None input f obtained form is = absurd (no_proof f verdict.BadInput obtained form is)
  named_prover (Some (Check air)) input f obtained form is = absurd (no_proof f _ obtained form is)
  named_prover (Some (Verify air)) input f obtained form is = absurd (no_proof f obtained.0 obtained.1 form is)
  named_prover (Some (Prove air)) input f obtained form is = (air, refl, (finds_proofs air input f obtained form is).1)

  finds_no_text : (command : Option Command) (input : List ℕ) (f : Finding) → IsFinding verified sound proved command input f → IsText f → ⊥
  unfolding IsFinding
  finds_no_text None input f obtained is = no_text f verdict.BadInput obtained is
  finds_no_text (Some (Check air)) input f obtained is = no_text f _ obtained is
  finds_no_text (Some (Verify air)) input f obtained is = no_text f obtained.0 obtained.1 is
  finds_no_text (Some (Prove air)) input f obtained is = shows_none air input f obtained is

  satisfies_nothing : (command : Option Command) (input : List ℕ) → IsFinding verified sound proved command input finding.Satisfied → ⊥
  unfolding IsFinding
  satisfies_nothing None input obtained = let clash : finding.Satisfied ≡ finding.Verdict verdict.BadInput = obtained in cc
  satisfies_nothing (Some (Check air)) input obtained = no_verdict _ obtained
  satisfies_nothing (Some (Verify air)) input obtained = no_verdict obtained.0 obtained.1
  satisfies_nothing (Some (Prove air)) input obtained = satisfies_none air input obtained

  -- What begins as an object does is the front of a proof of the trace that was read.
  proves_trace : (command : Option Command) (input bytes : List ℕ) → IsFrontOfProof (IsFinding verified sound proved command) Json input bytes → ProvesTrace proof_line command input bytes
  proves_trace command input bytes front =
      let prover = named_prover command input front.0 front.2 Json front.1 in
      (prover.0, prover.1, finding_bytes front.0, prover.2, front.3, front.4)

  pub stated_traces : (command : Option Command) (known : Option (List ℕ)) (P : List ℕ → Type 0) (Q : List ℕ → Type 0) → IfSome known (λ input. (bytes : List ℕ) → P bytes → Q bytes → IsFrontOfProof (IsFinding verified sound proved command) Json input bytes)
      → IfSome known (λ input. (bytes : List ℕ) → P bytes → Q bytes → ProvesTrace proof_line command input bytes)
  stated_traces command None P Q fronts = tt
  stated_traces command (Some input) P Q fronts = λ bytes p q. proves_trace command input bytes (fronts bytes p q)

  -- What is accepted or proved is accepted, or is a proof of the trace that an input spells.
  pub ends_accepted : (command : Option Command) (known old new : Option (List ℕ)) → AcceptsOrTells (IsFinding verified sound proved command) known old new
      → (AcceptsInput verified sound proved command known × Appends old new (line_of verdict.Accepted)) ⊎ WritesProof proof_line command known old new
  ends_accepted command known old new (inl accepted) = inl accepted
  ends_accepted command known old new (inr (f, inl is, some, made)) =
      let formed = form_of f is in
      let prover = named_prover command some.0 f some.2 formed.0 formed.1 in
      inr (finding_bytes f, (prover.0, prover.1, some.0, some.1, prover.2), made)
  ends_accepted command known old new (inr (f, inr (inl is), some, made)) = absurd (finds_no_text command some.0 f some.2 is)
  ends_accepted command known old new (inr (f, inr (inr is), some, made)) = absurd (satisfies_nothing command some.0 (subst (λ g. IsFinding verified sound proved command some.0 g) is some.2))
