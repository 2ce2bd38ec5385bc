-- What is found under a verb, and what it means.
use Rattle.std.proofs.Common.{◌≡◌, ◌⊎◌, ◌∙◌, inl, inr, ap, refl, ℕ, List, Option, None, Some, IfSome, sym, subst, take, string_bytes}
use Rattle.std.specs.Prelude.{String}
use Rattle.std.specs.Io.KnownBytes.{Appends}
use Rattle.std.specs.declared.alloc.Global.{Global}
use Rattle.stark_answers.specs.Finding.{BeginsAsItsKind, IsProof, IsText, WhereProof, finding_bytes}
use Rattle.stark_answers.specs.Verdict.{line_of}
use Rattle.stark_answers.specs.declared.finding.Finding.{Finding}
use Rattle.stark_answers.specs.declared.finding.Finding.TheVariants as finding
use Rattle.stark_answers.specs.declared.verdict.Verdict.{Verdict}
use Rattle.stark_answers.specs.declared.verdict.Verdict.TheVariants as verdict
use Rattle.stark_service.specs.Floor.{floor_line}
use Rattle.stark_service.specs.Showing.{IsOfShowing}
use Rattle.stark_service.specs.StatementFacts.{IsOfTrace}
use Rattle.stark_service.specs.declared.floor.FloorVerdict.{FloorVerdict}
use Rattle.stark_service.specs.declared.floor.FloorVerdict.TheVariants.{Judged, NotJudged}
use Rattle.stark_cli.specs.Running.{AcceptsOrTells, Found, IsFoundOrLacksMemory, IsFrontOfProof, IsInput, SaysFound}
use Rattle.stark_cli.specs.StatementRun.{Accepts, AcceptsInput, IsEndUnder, IsFinding, IsFloorFinding, IsProver, ProvesTrace, SaysSatisfied, WritesProof, WritesText, no_memory}
use Rattle.stark_cli.specs.declared.statements.Verb.{Verb}
use Rattle.stark_cli.specs.declared.statements.Verb.TheVariants.{Show, Trace, Verify, VerifyAtLeast}
use Rattle.stark_answers.specs.declared.task.ProofForm.{ProofForm}
use Rattle.stark_answers.specs.declared.task.TraceTask.{TraceTask}
use Rattle.stark_answers.specs.declared.task.TraceTask.TheVariants.{Check, Prove, ProveUnchecked}
use Rattle.stark_answers.specs.declared.verdict.RunEnd.{RunEnd}
use Rattle.stark_answers.specs.declared.verdict.RunEnd.TheVariants.{InputFailed, OutputFailed}
use Rattle.stark_cli.proofs.Findings.{finding_ends, form_of, input_found, some_end}
use Rattle.stark_cli.proofs.Lines.{BeginsAsSaid, kind_said}

same_verdict : (v w : Verdict) → finding.Verdict v ≡ finding.Verdict w → v ≡ w
same_verdict v w e = cc

no_verdict : (v : Verdict) → finding.Satisfied ≡ finding.Verdict v → ⊥
no_verdict v is = cc

-- What is said of a floor is a verdict, or the line of how many bits are proved.
floor_no_proof : (a : FloorVerdict) (f : Finding) → IsFloorFinding a f → (form : ProofForm) → IsProof form f → ⊥
floor_no_proof (Judged v) f is form proof = subst (IsProof form) is proof
floor_no_proof (NotJudged bits) f is form proof = subst (IsProof form) is.1 proof

floor_no_text : (a : FloorVerdict) (f : Finding) → IsFloorFinding a f → IsText f → ⊥
floor_no_text (Judged v) f is text = subst IsText is text
floor_no_text (NotJudged bits) f is text = subst IsText is.1 text

floor_satisfies_none : (a : FloorVerdict) → IsFloorFinding a finding.Satisfied → ⊥
floor_satisfies_none (Judged v) is = no_verdict v is
floor_satisfies_none (NotJudged bits) is = let clash : finding.Satisfied ≡ finding.TooFewBits is.0 = is.1 in cc

floor_accepted : (a : FloorVerdict) → IsFloorFinding a (finding.Verdict verdict.Accepted) → a ≡ Judged verdict.Accepted
floor_accepted (Judged v) is = ap (λ w. Judged w) (sym (same_verdict _ _ is))
floor_accepted (NotJudged bits) is = absurd (let clash : finding.Verdict verdict.Accepted ≡ finding.TooFewBits is.0 = is.1 in cc)

floor_begins : (a : FloorVerdict) (f : Finding) → IsFloorFinding a f → BeginsAsSaid f
floor_begins (Judged v) f is = subst BeginsAsSaid (sym is) tt
floor_begins (NotJudged bits) f is = subst BeginsAsSaid (sym is.1) (ap (take 1) is.2)

pub few_said : (a : FloorVerdict) (bits : ℕ) (line : String Global) → a ≡ NotJudged bits → string_bytes line ≡ floor_line a → IsFloorFinding a (finding.TooFewBits line)
few_said a bits line is says = subst (λ b. string_bytes line ≡ floor_line b → IsFloorFinding b (finding.TooFewBits line)) (sym is) (λ e. (line, refl, e)) says

floor_memory : (a : FloorVerdict) (f : Finding) → a ≡ Judged verdict.OutOfMemory → IsFloorFinding a f → f ≡ no_memory
floor_memory a f lacks is = subst (λ b. IsFloorFinding b f) lacks is

module _ (verdict_on : List ℕ → List ℕ → Verdict → Type 0) (sound : List ℕ → List ℕ → Type 0) (floored : ℕ → List ℕ → List ℕ → FloorVerdict → Type 0) (obtained : TraceTask → List ℕ → List ℕ → Finding → Type 0) (proof_file : List ℕ → List ℕ → ProofForm → List ℕ → Type 0) (shown : List ℕ → Finding → Type 0) where
  -- What a verifier, a check, a prover and what shows find is found under their verbs.
  pub verify_found : (verb : Verb) (input : List ℕ × List ℕ) (v : Verdict) (f : Finding) → verb ≡ Verify → f ≡ finding.Verdict v → (v ≡ verdict.OutOfMemory) ⊎ verdict_on input.0 input.1 v
      → (v ≡ verdict.Accepted → sound input.0 input.1) → IsFoundOrLacksMemory no_memory (IsFinding verdict_on sound floored obtained proof_file shown verb) input f
  unfolding IsFinding
  verify_found verb input v f is says (inl memory) soundly = inr (says ∙ ap (λ w. finding.Verdict w) memory)
  verify_found verb input v f is says (inr said) soundly = subst (λ k. IsFoundOrLacksMemory no_memory (IsFinding verdict_on sound floored obtained proof_file shown k) input f) (sym is) (inl (v, says, said, soundly))

  floored_input : (floor : ℕ) (input : List ℕ × List ℕ) (a : FloorVerdict) (f : Finding) → (a ≡ Judged verdict.OutOfMemory) ⊎ floored floor input.0 input.1 a → (a ≡ Judged verdict.Accepted → sound input.0 input.1)
      → IsFloorFinding a f → IsFoundOrLacksMemory no_memory (IsFinding verdict_on sound floored obtained proof_file shown (VerifyAtLeast floor)) input f
  unfolding IsFinding
  floored_input floor input a f (inl lacks) soundly is = inr (floor_memory a f lacks is)
  floored_input floor input a f (inr said) soundly is = inl (a, is, said, soundly)

  pub floor_found : (verb : Verb) (floor : ℕ) (input : List ℕ × List ℕ) (a : FloorVerdict) (f : Finding) → verb ≡ VerifyAtLeast floor → IsFloorFinding a f ⊎ (f ≡ no_memory)
      → (a ≡ Judged verdict.OutOfMemory) ⊎ floored floor input.0 input.1 a → (a ≡ Judged verdict.Accepted → sound input.0 input.1)
      → IsFoundOrLacksMemory no_memory (IsFinding verdict_on sound floored obtained proof_file shown verb) input f
  floor_found verb floor input a f is (inl says) said soundly =
      subst (λ k. IsFoundOrLacksMemory no_memory (IsFinding verdict_on sound floored obtained proof_file shown k) input f) (sym is) (floored_input floor input a f said soundly says)
  floor_found verb floor input a f is (inr memory) said soundly = inr memory

  pub trace_found : (verb : Verb) (asked : TraceTask) (input : List ℕ × List ℕ) (f : Finding) → verb ≡ Trace asked → (f ≡ no_memory) ⊎ obtained asked input.0 input.1 f → IsOfTrace asked f → WhereProof (proof_file input.0 input.1) f
      → IsFoundOrLacksMemory no_memory (IsFinding verdict_on sound floored obtained proof_file shown verb) input f
  unfolding IsFinding
  trace_found verb asked input f is (inl memory) kind line = inr memory
  trace_found verb asked input f is (inr here) kind line = subst (λ k. IsFoundOrLacksMemory no_memory (IsFinding verdict_on sound floored obtained proof_file shown k) input f) (sym is) (inl (here, kind, line))

  pub show_found : (verb : Verb) (input : List ℕ × List ℕ) (f : Finding) → verb ≡ Show → (f ≡ no_memory) ⊎ shown input.0 f → IsOfShowing f → IsFoundOrLacksMemory no_memory (IsFinding verdict_on sound floored obtained proof_file shown verb) input f
  unfolding IsFinding
  show_found verb input f is (inl memory) kind = inr memory
  show_found verb input f is (inr here) kind = subst (λ k. IsFoundOrLacksMemory no_memory (IsFinding verdict_on sound floored obtained proof_file shown k) input f) (sym is) (inl (here, kind))

  -- What is found beside slices is found beside the lists that they are of.
  pub same_inputs : (verb : Verb) (first firsts other others : List ℕ) (f : Finding) → first ≡ firsts → other ≡ others
      → IsFoundOrLacksMemory no_memory (IsFinding verdict_on sound floored obtained proof_file shown verb) (first, other) f → IsFoundOrLacksMemory no_memory (IsFinding verdict_on sound floored obtained proof_file shown verb) (firsts, others) f
  same_inputs verb first firsts other others f is also here =
      subst (λ b. IsFoundOrLacksMemory no_memory (IsFinding verdict_on sound floored obtained proof_file shown verb) (firsts, b) f) also
      (subst (λ a. IsFoundOrLacksMemory no_memory (IsFinding verdict_on sound floored obtained proof_file shown verb) (a, other) f) is here)

  -- What is found of the bytes that were read is found of the readers' inputs.
  pub pair_found : (verb : Verb) (known : Option (List ℕ × List ℕ)) (lent input : List ℕ × List ℕ) (f : Finding) → IsInput known input → lent ≡ input
      → IsFoundOrLacksMemory no_memory (IsFinding verdict_on sound floored obtained proof_file shown verb) lent f → Found no_memory (IsFinding verdict_on sound floored obtained proof_file shown verb) known f
  pair_found verb known lent input f is same here = input_found no_memory (IsFinding verdict_on sound floored obtained proof_file shown verb) known lent input f is same here

  -- Each line begins as its kind does.
  pub kinds : (verb : Verb) (input : List ℕ × List ℕ) (f : Finding) → IsFinding verdict_on sound floored obtained proof_file shown verb input f → BeginsAsSaid f
  unfolding IsFinding
  kinds Verify input f here = subst BeginsAsSaid (sym here.1) tt
  kinds (VerifyAtLeast floor) input f here = floor_begins here.0 f here.1
  kinds (Trace asked) input f here = kind_said f here.1.begins
  kinds Show input f here = kind_said f here.1.begins

  -- Where nothing failed, the end is as the verb asks.
  pub ends_under : (verb : Verb) (known : Option (List ℕ × List ℕ)) (end : RunEnd) (old new : Option (List ℕ)) → (end ≡ InputFailed → ⊥) → (end ≡ OutputFailed → ⊥)
      → (end ≡ InputFailed) ⊎ SaysFound no_memory (IsFinding verdict_on sound floored obtained proof_file shown verb) known end old new → IsEndUnder verb end
  unfolding IsFinding
  ends_under Verify known end old new read wrote said =
      finding_ends no_memory tt (IsFinding verdict_on sound floored obtained proof_file shown Verify) (λ input f here. subst BeginsAsItsKind (sym here.1) tt) known end old new read wrote said
  ends_under (VerifyAtLeast floor) known end old new read wrote said = some_end end read wrote
  ends_under (Trace asked) known end old new read wrote said =
      finding_ends no_memory tt (IsFinding verdict_on sound floored obtained proof_file shown (Trace asked)) (λ input f here. here.1.begins) known end old new read wrote said
  ends_under Show known end old new read wrote said =
      finding_ends no_memory tt (IsFinding verdict_on sound floored obtained proof_file shown Show) (λ input f here. here.1.begins) known end old new read wrote said

  -- Only a verifier accepts.
  pub accepts : (verb : Verb) (input : List ℕ × List ℕ) → IsFinding verdict_on sound floored obtained proof_file shown verb input (finding.Verdict verdict.Accepted) → Accepts verdict_on floored verb input
  unfolding IsFinding
  accepts Verify input here = subst (λ v. verdict_on input.0 input.1 v) (sym (same_verdict _ _ here.1)) here.2
  accepts (VerifyAtLeast floor) input here = subst (λ a. floored floor input.0 input.1 a) (floor_accepted here.0 here.1) here.2
  accepts (Trace asked) input here = absurd (here.1.accepts_none refl)
  accepts Show input here = absurd (here.1.accepts_none refl)

  -- What it accepts is sound.
  pub accepts_soundly : (verb : Verb) (input : List ℕ × List ℕ) → IsFinding verdict_on sound floored obtained proof_file shown verb input (finding.Verdict verdict.Accepted) → sound input.0 input.1
  unfolding IsFinding
  accepts_soundly Verify input here = here.3 (sym (same_verdict _ _ here.1))
  accepts_soundly (VerifyAtLeast floor) input here = here.3 (floor_accepted here.0 here.1)
  accepts_soundly (Trace asked) input here = absurd (here.1.accepts_none refl)
  accepts_soundly Show input here = absurd (here.1.accepts_none refl)

  pub prover : (verb : Verb) (input : List ℕ × List ℕ) (f : Finding) → IsFinding verdict_on sound floored obtained proof_file shown verb input f → (form : ProofForm) → IsProof form f
      → IsProver form verb × proof_file input.0 input.1 form (finding_bytes f)
  unfolding IsFinding
  prover Verify input f here form is = absurd (subst (IsProof form) here.1 is)
  prover (VerifyAtLeast floor) input f here form is = absurd (floor_no_proof here.0 f here.1 form is)
  prover (Trace Check) input f here form is = absurd (here.1.proves_as_asked form is)
  prover (Trace (Prove asked)) input f here form is = (inl (ap (λ k. Trace (Prove k)) (sym (here.1.proves_as_asked form is))), here.2 form is)
  prover (Trace (ProveUnchecked asked)) input f here form is = (inr (ap (λ k. Trace (ProveUnchecked k)) (sym (here.1.proves_as_asked form is))), here.2 form is)
  prover Show input f here form is = absurd (here.1.proves_none form is)

  pub shower : (verb : Verb) (input : List ℕ × List ℕ) (f : Finding) → IsFinding verdict_on sound floored obtained proof_file shown verb input f → IsText f → (verb ≡ Show) × shown input.0 f
  unfolding IsFinding
  shower Verify input f here is = absurd (subst IsText here.1 is)
  shower (VerifyAtLeast floor) input f here is = absurd (floor_no_text here.0 f here.1 is)
  shower (Trace asked) input f here is = absurd (here.1.shows_none is)
  shower Show input f here is = (refl, here.0)

  -- What begins as a proof in a form does is the front of one of the trace.
  proves_trace : (form : ProofForm) (verb : Verb) (input : List ℕ × List ℕ) (bytes : List ℕ) → IsFrontOfProof (IsFinding verdict_on sound floored obtained proof_file shown verb) form input bytes → ProvesTrace proof_file form verb input bytes
  proves_trace form verb input bytes front =
      let made = prover verb input front.0 front.2 form front.1 in
      (made.0, finding_bytes front.0, made.1, front.3, front.4)

  pub stated_traces : (form : ProofForm) (verb : Verb) (known : Option (List ℕ × List ℕ)) (P : List ℕ → Type 0) (Q : List ℕ → Type 0)
      → IfSome known (λ input. (bytes : List ℕ) → P bytes → Q bytes → IsFrontOfProof (IsFinding verdict_on sound floored obtained proof_file shown verb) form input bytes)
      → IfSome known (λ input. (bytes : List ℕ) → P bytes → Q bytes → ProvesTrace proof_file form verb input bytes)
  stated_traces form verb None P Q fronts = tt
  stated_traces form verb (Some input) P Q fronts = λ bytes p q. proves_trace form verb input bytes (fronts bytes p q)

  pub checker : (verb : Verb) (input : List ℕ × List ℕ) → IsFinding verdict_on sound floored obtained proof_file shown verb input finding.Satisfied → (verb ≡ Trace Check) × obtained Check input.0 input.1 finding.Satisfied
  unfolding IsFinding
  checker Verify input here = absurd (no_verdict here.0 here.1)
  checker (VerifyAtLeast floor) input here = absurd (floor_satisfies_none here.0 here.1)
  checker (Trace asked) input here =
      let is = here.1.satisfied_checks refl in (ap (λ k. Trace k) is, subst (λ k. obtained k input.0 input.1 finding.Satisfied) is here.0)
  checker Show input here = absurd (here.1.satisfies_none refl)

  -- A run that ends well accepted, proved, showed, or checked a trace that satisfies its AIR.
  pub ends_well : (verb : Verb) (known : Option (List ℕ × List ℕ)) (old new : Option (List ℕ)) → AcceptsOrTells (IsFinding verdict_on sound floored obtained proof_file shown verb) known old new
      → (AcceptsInput verdict_on floored verb known × Appends old new (line_of verdict.Accepted)) ⊎ (WritesProof proof_file verb known old new ⊎ (WritesText shown verb known old new ⊎ SaysSatisfied obtained verb known old new))
  ends_well verb known old new (inl accepted) = inl ((accepted.0.0, accepted.0.1, accepts verb accepted.0.0 accepted.0.2), accepted.1)
  ends_well verb known old new (inr (f, inl is, some, made)) =
      let formed = form_of f is in
      let proof = prover verb some.0 f some.2 formed.0 formed.1 in
      inr (inl (finding_bytes f, (formed.0, proof.0, some.0, some.1, proof.1), made))
  ends_well verb known old new (inr (f, inr (inl is), some, made)) =
      let text = shower verb some.0 f some.2 is in
      inr (inr (inl (f, (text.0, some.0, some.1, text.1), made)))
  ends_well verb known old new (inr (f, inr (inr is), some, made)) =
      let checked = checker verb some.0 (subst (λ g. IsFinding verdict_on sound floored obtained proof_file shown verb some.0 g) is some.2) in
      inr (inr (inr ((checked.0, some.0, some.1, checked.1), subst (λ g. Appends old new (finding_bytes g)) is made)))
