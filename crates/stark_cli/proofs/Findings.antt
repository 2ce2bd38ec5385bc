-- What a run found of its input.
use Rattle.std.proofs.Common.{◌≡◌, ◌⊎◌, ◌∙◌, ℕ, List, Bool, true, false, Option, None, Some, IfOk, IfSome, Result, Ok, Err, is_err, refl, sym, subst, ap, inl, inr, arith}
use Rattle.std.proofs.lemmas.Bool.{false≢true}
use Rattle.std.specs.Io.KnownBytes.{Appends, Keeps}
use Rattle.stark_answers.specs.Finding.{BeginsAsItsKind, IsProof, finding_end, finding_bytes}
use Rattle.stark_answers.specs.Verdict.{line_of, end_of}
use Rattle.stark_answers.specs.declared.finding.Finding.{Finding}
use Rattle.stark_answers.specs.declared.finding.Finding.TheVariants as finding
use Rattle.stark_answers.specs.declared.task.ProofForm.{ProofForm}
use Rattle.stark_answers.specs.declared.task.ProofForm.TheVariants.{Bytes, Json}
use Rattle.stark_answers.specs.declared.report.Report.{Report}
use Rattle.stark_answers.specs.declared.verdict.Verdict.{Verdict}
use Rattle.stark_answers.specs.declared.verdict.Verdict.TheVariants as verdict
use Rattle.stark_answers.specs.declared.verdict.Refusal.TheVariants as refusal
use Rattle.stark_answers.specs.declared.verdict.RunEnd.{RunEnd}
use Rattle.stark_answers.specs.declared.verdict.RunEnd.TheVariants.{Accepted, BelowFloor, Refused, NotJudged, InputFailed, OutputFailed}
use Rattle.stark_cli.specs.Running.{AcceptsOrTells, FindsSome, Found, IsFoundOrLacksMemory, IsInput, IsFindingEnd, IsNoAnswer, IsSomeProof, SaidAnswer, SaidProof, Says, SaysAnswer, SaysFound, SaysOf, SaysProof, both, first_letter}

-- an input that is the readers'
abbrev pub some_of : {I : Type 0} → I → Option I → I
some_of other None = other
some_of other (Some input) = input

pub is_some_of : {I : Type 0} (other : I) (known : Option I) → IsInput known (some_of other known)
is_some_of other None = tt
is_some_of other (Some input) = refl

-- Bytes of two readers are theirs together.
pub both_inputs : (first second : Option (List ℕ)) (bytes others : List ℕ) → IsInput first bytes → IsInput second others → IsInput (both first second) (bytes, others)
both_inputs None second bytes others is also = tt
both_inputs (Some xs) None bytes others is also = tt
both_inputs (Some xs) (Some ys) bytes others is also = ap (λ a. (a, others)) is ∙ ap (λ b. (xs, b)) also

module _ {I : Type 0} (memory : Finding) (IsFound : I → Finding → Type 0) where
  -- What is found of the bytes that were read is found of an input.
  pub input_found : (known : Option I) (lent input : I) (f : Finding) → IsInput known input → lent ≡ input → IsFoundOrLacksMemory memory IsFound lent f → Found memory IsFound known f
  input_found known lent input f is same obtained = (input, is, subst (λ i. IsFoundOrLacksMemory memory IsFound i f) same obtained)

  -- Of an input that wasn't read for want of memory that is found.
  pub memory_found : (known : Option I) (input : I) → IsInput known input → (f : Finding) → f ≡ memory → Found memory IsFound known f
  memory_found known input is f lacks = (input, is, inr lacks)

  -- An answer that is want of memory, or fails.
  pub memory_answered : (known : Option I) (input : I) → IsInput known input → (r : Result Finding RunEnd) → IfOk r (λ f. f ≡ memory) → IfOk r (Found memory IsFound known)
  memory_answered known input is (Ok f) lacks = memory_found known input is f lacks
  memory_answered known input is (Err end) lacks = tt

  -- And of a report of it.
  pub memory_reported : (known : Option I) (input : I) → IsInput known input → (r : Result (Report Finding) RunEnd) → IfOk r (λ report. report.answer ≡ memory) → IfOk r (λ report. Found memory IsFound known report.answer)
  memory_reported known input is (Ok report) lacks = memory_found known input is report.answer lacks
  memory_reported known input is (Err end) lacks = tt

-- What is found of the readers' bytes, unless a reader failed, and what is said of that: here the answer is a finding or a report of one.
module _ {I A : Type 0} (memory : Finding) (IsFound : I → Finding → Type 0) (answer : A → Finding) (known : Option I) (r : Result A RunEnd) (end : RunEnd) (old new : Option (List ℕ)) where
  pub said_of : IfOk r (λ x. Found memory IsFound known (answer x)) → IfOk r (λ x. Says end (answer x) old new) → (is_err r ≡ true → end ≡ InputFailed) → (end ≡ InputFailed) ⊎ SaysFound memory IsFound known end old new
  said_of obtained says failed = go r obtained says failed where
    go : (r : Result A RunEnd) → IfOk r (λ x. Found memory IsFound known (answer x)) → IfOk r (λ x. Says end (answer x) old new) → (is_err r ≡ true → end ≡ InputFailed) → (end ≡ InputFailed) ⊎ SaysFound memory IsFound known end old new
    go (Ok x) obtained says failed = inr (answer x, obtained, says)
    go (Err e) obtained says failed = inl (failed refl)

  -- What is said of a proof alone, and of what is no proof.
  pub proof_said : (stated : Bool) → IfOk r (λ x. Found memory IsFound known (answer x)) → IfOk r (λ x. stated ≡ true → SaidProof end (answer x) old new) → (is_err r ≡ true → end ≡ InputFailed)
      → (stated ≡ true → end ≡ InputFailed → ⊥) → stated ≡ true → SaysProof memory IsFound known end old new
  proof_said stated obtained says failed read is = go r obtained says failed where
    go : (r : Result A RunEnd) → IfOk r (λ x. Found memory IsFound known (answer x)) → IfOk r (λ x. stated ≡ true → SaidProof end (answer x) old new) → (is_err r ≡ true → end ≡ InputFailed) → SaysProof memory IsFound known end old new
    go (Ok x) obtained says failed = (answer x, (says is).is_proof, obtained, (says is).says)
    go (Err e) obtained says failed = absurd (read is (failed refl))

  pub answer_said : (stated : Bool) → IfOk r (λ x. Found memory IsFound known (answer x)) → IfOk r (λ x. stated ≡ false → SaidAnswer end (answer x) old new) → (is_err r ≡ true → end ≡ InputFailed)
      → stated ≡ false → (end ≡ InputFailed) ⊎ SaysAnswer memory IsFound known end old new
  answer_said stated obtained says failed other = go r obtained says failed where
    go : (r : Result A RunEnd) → IfOk r (λ x. Found memory IsFound known (answer x)) → IfOk r (λ x. stated ≡ false → SaidAnswer end (answer x) old new) → (is_err r ≡ true → end ≡ InputFailed) → (end ≡ InputFailed) ⊎ SaysAnswer memory IsFound known end old new
    go (Ok x) obtained says failed = inr (answer x, (says other).no_proof, obtained, (says other).says)
    go (Err e) obtained says failed = inl (failed refl)

-- What is said of a finding that is known.
pub said_known : (r : Result Finding RunEnd) (f : Finding) (end : RunEnd) (old new : Option (List ℕ)) → r ≡ Ok f → IfOk r (λ x. Says end x old new) → Says end f old new
said_known r f end old new is says = subst (λ s. IfOk s (λ x. Says end x old new)) is says

-- Where nothing failed, the end is that of a finding.
pub some_end : (end : RunEnd) → (end ≡ InputFailed → ⊥) → (end ≡ OutputFailed → ⊥) → IsFindingEnd end ⊎ (end ≡ BelowFloor)
some_end InputFailed read wrote = absurd (read refl)
some_end OutputFailed read wrote = absurd (wrote refl)
some_end Accepted read wrote = inl (inl refl)
some_end Refused read wrote = inl (inr (inl refl))
some_end NotJudged read wrote = inl (inr (inr refl))
some_end BelowFloor read wrote = inr refl

verdict_below : (v : Verdict) → end_of v ≡ BelowFloor → ⊥
verdict_below verdict.Accepted e = let h : Accepted ≡ BelowFloor = e in cc
verdict_below (verdict.Refused why) e = let h : Refused ≡ BelowFloor = e in cc
verdict_below verdict.BadInput e = let h : NotJudged ≡ BelowFloor = e in cc
verdict_below verdict.OutOfMemory e = let h : NotJudged ≡ BelowFloor = e in cc

-- What begins as its kind does is said of no floor.
kind_below : (f : Finding) → BeginsAsItsKind f → finding_end f ≡ BelowFloor → ⊥
kind_below (finding.Verdict v) begins e = verdict_below v e
kind_below (finding.Proof line) begins e = let h : Accepted ≡ BelowFloor = e in cc
kind_below (finding.ProofBytes bytes) begins e = let h : Accepted ≡ BelowFloor = e in cc
kind_below (finding.Text text) begins e = let h : Accepted ≡ BelowFloor = e in cc
kind_below finding.Satisfied begins e = let h : Accepted ≡ BelowFloor = e in cc
kind_below (finding.Broken row) begins e = let h : Refused ≡ BelowFloor = e in cc
kind_below (finding.TooFewBits line) begins e = begins

module _ {I : Type 0} (memory : Finding) (memory_begins : BeginsAsItsKind memory) (IsFound : I → Finding → Type 0) (kinds : (input : I) (f : Finding) → IsFound input f → BeginsAsItsKind f) where
  found_begins : (input : I) (f : Finding) → IsFoundOrLacksMemory memory IsFound input f → BeginsAsItsKind f
  found_begins input f (inl here) = kinds input f here
  found_begins input f (inr lacks) = subst BeginsAsItsKind (sym lacks) memory_begins

  said_below : (known : Option I) (end : RunEnd) (old new : Option (List ℕ)) → (end ≡ InputFailed) ⊎ SaysFound memory IsFound known end old new → end ≡ BelowFloor → ⊥
  said_below known BelowFloor old new (inl failed) e = let h : BelowFloor ≡ InputFailed = failed in cc
  said_below known BelowFloor old new (inr said) e = kind_below said.0 (found_begins said.1.0 said.0 said.1.2) said.2.0
  said_below known InputFailed old new said e = let h : InputFailed ≡ BelowFloor = e in cc
  said_below known OutputFailed old new said e = let h : OutputFailed ≡ BelowFloor = e in cc
  said_below known Accepted old new said e = let h : Accepted ≡ BelowFloor = e in cc
  said_below known Refused old new said e = let h : Refused ≡ BelowFloor = e in cc
  said_below known NotJudged old new said e = let h : NotJudged ≡ BelowFloor = e in cc

  -- Where nothing failed, and each finding begins as its kind does, the end is that of one that isn't of a floor.
  pub finding_ends : (known : Option I) (end : RunEnd) (old new : Option (List ℕ)) → (end ≡ InputFailed → ⊥) → (end ≡ OutputFailed → ⊥) → (end ≡ InputFailed) ⊎ SaysFound memory IsFound known end old new → IsFindingEnd end
  finding_ends known end old new read wrote said = elim (some_end end read wrote) [
    | inl one ↦ one
    | inr below ↦ absurd (said_below known end old new said below)
  ]

pub none_failed : (first second : Bool) → first ≡ false → second ≡ false → (first ≡ true) ⊎ (second ≡ true) → ⊥
none_failed first second is also (inl failed) = false≢true (sym is ∙ failed)
none_failed first second is also (inr failed) = false≢true (sym also ∙ failed)

-- A run whose input failed says nothing.
says_nothing : (end : RunEnd) (f : Finding) (old new : Option (List ℕ)) → end ≡ InputFailed → Keeps old new → Says end f old new
says_nothing InputFailed f old new e k = k
says_nothing OutputFailed f old new e k = absurd (cc)
says_nothing Accepted f old new e k = absurd (cc)
says_nothing Refused f old new e k = absurd (cc)
says_nothing NotJudged f old new e k = absurd (cc)
says_nothing BelowFloor f old new e k = absurd (cc)

module _ {I : Type 0} (memory : Finding) (IsFound : I → Finding → Type 0) where
  -- What is said is found of the readers' bytes, where they tell them.
  pub says_known : (known : Option I) (end : RunEnd) (old new : Option (List ℕ))
      → (end ≡ InputFailed) ⊎ SaysFound memory IsFound known end old new → (end ≡ InputFailed → Keeps old new)
      → IfSome known (λ input. SaysOf memory IsFound input end old new)
  says_known None end old new obtained silent = tt
  says_known (Some bytes) end old new (inl e) silent = (memory, inr refl, says_nothing end memory old new e (silent e))
  says_known (Some bytes) end old new (inr obtained) silent =
      (obtained.0, subst (λ input. IsFoundOrLacksMemory memory IsFound input obtained.0) obtained.1.1 obtained.1.2, obtained.2)

-- What is said of what is no proof is said of something that is found.
module _ {I : Type 0} (memory : Finding) (IsFound : I → Finding → Type 0) where
  pub said_found : (known : Option I) (end : RunEnd) (old new : Option (List ℕ)) → (end ≡ InputFailed) ⊎ SaysAnswer memory IsFound known end old new → (end ≡ InputFailed) ⊎ SaysFound memory IsFound known end old new
  said_found known end old new (inl failed) = inl failed
  said_found known end old new (inr said) = inr (said.0, said.2, said.3)

pub only_accepted : (v : Verdict) → end_of v ≡ Accepted → v ≡ verdict.Accepted
only_accepted verdict.Accepted e = refl
only_accepted (verdict.Refused why) e = absurd (let h : Refused ≡ Accepted = e in cc)
only_accepted verdict.BadInput e = absurd (let h : NotJudged ≡ Accepted = e in cc)
only_accepted verdict.OutOfMemory e = absurd (let h : NotJudged ≡ Accepted = e in cc)

module _ {I : Type 0} (memory : Finding) (no_answer : IsNoAnswer memory) (IsFound : I → Finding → Type 0) where
  -- A run that ends well found something of an input.
  pub finds : (known : Option I) (f : Finding) → finding_end f ≡ Accepted → Found memory IsFound known f → FindsSome IsFound known f
  finds known f e obtained = elim obtained.2 [
    | inl here ↦ (obtained.0, obtained.1, here)
    | inr lacks ↦ absurd (no_answer.no_end (sym (ap finding_end lacks) ∙ e))
  ]

  said_so : (known : Option I) (f : Finding) (old new : Option (List ℕ)) → finding_end f ≡ Accepted → Found memory IsFound known f → Appends old new (finding_bytes f) → AcceptsOrTells IsFound known old new
  said_so known (finding.Verdict v) old new e obtained wrote =
      let is : v ≡ verdict.Accepted = only_accepted v e in
      inl (subst (λ w. FindsSome IsFound known (finding.Verdict w)) is (finds known (finding.Verdict v) e obtained), subst (λ w. Appends old new (line_of w)) is wrote)
  said_so known (finding.Proof line) old new e obtained wrote = inr (finding.Proof line, inl tt, finds known (finding.Proof line) refl obtained, wrote)
  said_so known (finding.ProofBytes bytes) old new e obtained wrote = inr (finding.ProofBytes bytes, inl tt, finds known (finding.ProofBytes bytes) refl obtained, wrote)
  said_so known (finding.Text text) old new e obtained wrote = inr (finding.Text text, inr (inl tt), finds known (finding.Text text) refl obtained, wrote)
  said_so known finding.Satisfied old new e obtained wrote = inr (finding.Satisfied, inr (inr refl), finds known finding.Satisfied refl obtained, wrote)
  said_so known (finding.Broken row) old new e obtained wrote = absurd (let h : Refused ≡ Accepted = e in cc)
  said_so known (finding.TooFewBits line) old new e obtained wrote = absurd (let h : BelowFloor ≡ Accepted = e in cc)

  -- A run that ends by `Accepted` found an input accepted, or a proof or a text of it, or that it satisfies, and said so.
  pub accepts_or_tells : (known : Option I) (end : RunEnd) (old new : Option (List ℕ))
      → (end ≡ InputFailed) ⊎ SaysFound memory IsFound known end old new → end ≡ Accepted → AcceptsOrTells IsFound known old new
  accepts_or_tells known InputFailed old new obtained e = absurd (cc)
  accepts_or_tells known OutputFailed old new obtained e = absurd (cc)
  accepts_or_tells known Refused old new obtained e = absurd (cc)
  accepts_or_tells known NotJudged old new obtained e = absurd (cc)
  accepts_or_tells known BelowFloor old new obtained e = absurd (cc)
  accepts_or_tells known Accepted old new (inl failed) e = absurd (cc)
  accepts_or_tells known Accepted old new (inr obtained) e = said_so known obtained.0 old new obtained.2.0 obtained.1 obtained.2.1

refused_ends : Refused ≡ Accepted → ⊥
refused_ends h = cc

unjudged_ends : NotJudged ≡ Accepted → ⊥
unjudged_ends h = cc

refused_begins : (form : ProofForm) → 114 ≡ first_letter form → ⊥
refused_begins Json e = absurd (let h : 114 ≡ 123 = e in omega arith)
refused_begins Bytes e = absurd (let h : 114 ≡ 118 = e in omega arith)

unjudged_begins : (form : ProofForm) → 111 ≡ first_letter form → ⊥
unjudged_begins Json e = absurd (let h : 111 ≡ 123 = e in omega arith)
unjudged_begins Bytes e = absurd (let h : 111 ≡ 118 = e in omega arith)

-- `refused OutOfMemory` is no answer.
pub refused_memory : IsNoAnswer (finding.Verdict (verdict.Refused refusal.OutOfMemory))
refused_memory = record { no_end = refused_ends; not_accepted = λ e. absurd (let h : 114 ≡ 97 = e in omega arith); no_proof = refused_begins }

-- Nor is `out of memory`.
pub unjudged_memory : IsNoAnswer (finding.Verdict verdict.OutOfMemory)
unjudged_memory = record { no_end = unjudged_ends; not_accepted = λ e. absurd (let h : 111 ≡ 97 = e in omega arith); no_proof = unjudged_begins }

-- A proof has a form.
pub form_of : (f : Finding) → IsSomeProof f → (form : ProofForm) × IsProof form f
form_of (finding.Proof line) is = (Json, refl)
form_of (finding.ProofBytes bytes) is = (Bytes, refl)
form_of (finding.Verdict v) is = absurd is
form_of (finding.Text text) is = absurd is
form_of finding.Satisfied is = absurd is
form_of (finding.Broken row) is = absurd is
form_of (finding.TooFewBits line) is = absurd is
