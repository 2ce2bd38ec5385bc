-- From what a prover finds of a trace that was checked to what a verifier says of the file.
use Rattle.std.proofs.Common.{◌≡◌, ◌⊎◌, ◌∙◌, inl, inr, ap, arith, refl, subst, sym, ℕ, ◌+◌, ◌*◌, ◌^◌, ◌<◌, ◌≤◌, Bool, true, false, List, length, Option, None, Some, Result, Ok, Err, IfOk}
use Rattle.std.specs.Prelude.{if◌then◌else◌, nat_eq}
use Rattle.std.specs.List.{starts_with}
use Rattle.std.specs.Result.{result_ok}
use Rattle.std.proofs.lemmas.Bool.{eqb-true, le-ltb, lt-ltb}
use Rattle.serde_json.specs.Data.{Data, depth}
use Rattle.serde_json.specs.Read.{max_depth}
use Rattle.stark_support.specs.FieldPair.{FieldsOps}
use Rattle.stark_support.specs.Json.{json_of}
use Rattle.stark_support.specs.LogarithmFacts.{same_exponent}
use Rattle.std.proofs.lemmas.Option.{same_Some}
use Rattle.stark_support.specs.Scheme.{SchemeLaws, zk_bits}
use Rattle.stark_support.specs.declared.periodic.PeriodicColumnShapeError.{PeriodicColumnShapeError}
use Rattle.stark_air.specs.Declaration.{Trace}
use Rattle.stark_transcript.specs.declared.error.ProvingError.{ProvingError}
use Rattle.stark_completeness.proofs.EquationOfTrace.{own_height}
use Rattle.stark_proof.specs.ProofJson.{ProofFault, openings_rule_fault}
use Rattle.stark_proof.specs.ProofView.{ProofView, proof_view}
use Rattle.stark_proof.specs.declared.values.Proof.{Proof}
use Rattle.stark_proof_bytes.specs.ProofBytes.{ProofCodecs, magic, proof_reading}
use Rattle.stark_protocol.specs.Acceptance.{Accepted}
use Rattle.stark_protocol.specs.FirstFault.{FirstFault}
use Rattle.stark_protocol.specs.Preprocessing.{IsSetUp, has_columns}
use Rattle.stark_protocol.specs.declared.preprocessed.PreprocessedVerifierKey.{PreprocessedVerifierKey}
use Rattle.stark_verifier.proofs.Excluded.{excluded}
use Rattle.stark_prover.specs.Completeness.{HasSizedDegrees}
use Rattle.stark_prover.specs.Sizes.{periodic_fault}
use Rattle.stark_statement.specs.StatementView.{StatementView}
use Rattle.stark_answers.specs.CheckedAir.{CheckedAir}
use Rattle.stark_answers.specs.Completeness.{IsAcceptedWithKey, IsComplete}
use Rattle.stark_answers.specs.Finding.{IsProof, WhereProof, finding_bytes, unjudged_finding}
use Rattle.stark_answers.specs.Prove.{IsWritten, OrNoMemory, TellsAnswer}
use Rattle.stark_answers.specs.ReadBack.{NestsWithin, ReadsBack, SpellsInForm}
use Rattle.stark_answers.specs.TraceShape.{trace_of}
use Rattle.stark_answers.specs.Verify.{IsKey, IsSizedAsKey, IsVerdict, TellsProof, instance_of}
use Rattle.stark_answers.specs.declared.finding.Finding.{Finding}
use Rattle.stark_answers.specs.declared.finding.Finding.TheVariants as finding
use Rattle.stark_answers.specs.declared.task.ProofForm.{ProofForm}
use Rattle.stark_answers.specs.declared.task.ProofForm.TheVariants.{Bytes, Json}
use Rattle.stark_answers.specs.declared.task.TraceTask.{TraceTask}
use Rattle.stark_answers.specs.declared.task.TraceTask.TheVariants as task
use Rattle.stark_answers.specs.declared.verdict.Verdict.{Verdict}
use Rattle.stark_answers.specs.declared.verdict.Verdict.TheVariants as verdict
use Rattle.stark_answers.proofs.CompleteSteps.{same_height}
use Rattle.stark_service.specs.Acceptance.{AreSatisfying, IsAcceptedOn, IsAcceptedWithRows, IsTheVerdict, judged_with}
use Rattle.stark_service.specs.Heights.{UnlessOfOtherHeight, height_fault, is_fixed_height}
use Rattle.stark_service.specs.Service.{ServiceOps, SetsUpOnce}
use Rattle.stark_service.specs.StatementAir.{declared_of}
use Rattle.stark_service.specs.StatementFacts.{rows_prove_none}
use Rattle.stark_service.specs.Statements.{HasRows, IsVerdictOn, IsVerdictWithRows, ReadsDeclared, proof_in, proof_in_bytes, proof_in_json}
use Rattle.stark_service.specs.TraceChecks.{IsCheckedTrace, IsCheckedWithRows, IsSatisfying, UnlessUnfit}
use Rattle.stark_service.proofs.StatementSteps.{no_json}

-- ---- what a file spells

module _ {K E P F : Type 0} (writing : ProofView K E P F → Data) (reading : Data → Result (ProofView K E P F) ProofFault) (codecs : ProofCodecs K E P F) where
  json_spelt : (b : Bool) (file : List ℕ) (p : ProofView K E P F) (d : Data) → starts_with nat_eq file magic ≡ b → json_of file ≡ Some d → reading d ≡ Ok p → (if b then proof_in_bytes codecs file else proof_in_json reading file) ≡ Some p
  unfolding proof_in_json
  json_spelt true file p d begins spells reads = absurd (let clash : None ≡ Some d = sym (no_json file begins) ∙ spells in cc)
  json_spelt false file p d begins spells reads = rw (spells, reads) refl

  bytes_spelt : (b : Bool) (file : List ℕ) (p : ProofView K E P F) → starts_with nat_eq file magic ≡ b → proof_reading codecs file ≡ Ok p → (if b then proof_in_bytes codecs file else proof_in_json reading file) ≡ Some p
  unfolding proof_in_bytes proof_reading
  bytes_spelt true file p begins back = ap result_ok back
  bytes_spelt false file p begins back = absurd (let clash : Err _ ≡ Ok p = rw begins at back in cc)

  -- What a proof was written as in a form is read as this proof.
  spelt_in_form : (form : ProofForm) (p : ProofView K E P F) (file : List ℕ) → openings_rule_fault p.opened_values ≡ None → depth (writing p) ≤ max_depth → SpellsInForm writing reading codecs form p file → proof_in reading codecs file ≡ Some p
  unfolding proof_in
  spelt_in_form Json p file ruled shallow spells = let spelt = spells (record { ruled = ruled; shallow = shallow }) in json_spelt (starts_with nat_eq file magic) file p spelt.0 refl spelt.1 spelt.2
  spelt_in_form Bytes p file ruled shallow back = bytes_spelt (starts_with nat_eq file magic) file p refl back

-- ---- a finding that is a proof

unjudged_same : (f : Finding) (form : ProofForm) → IsProof form (unjudged_finding f) → IsProof form f × (finding_bytes (unjudged_finding f) ≡ finding_bytes f)
unjudged_same (finding.Verdict v) form is = absurd is
unjudged_same (finding.Proof line) form is = (is, refl)
unjudged_same (finding.ProofBytes bytes) form is = (is, refl)
unjudged_same (finding.Text text) form is = absurd is
unjudged_same finding.Satisfied form is = absurd is
unjudged_same (finding.Broken row) form is = absurd is
unjudged_same (finding.TooFewBits line) form is = absurd is

of_unjudged : (f g : Finding) → g ≡ unjudged_finding f → (form : ProofForm) → IsProof form g → IsProof form f × (finding_bytes g ≡ finding_bytes f)
of_unjudged f g is form = subst (λ k. IsProof form k → IsProof form f × (finding_bytes k ≡ finding_bytes f)) (sym is) (unjudged_same f form)

module _ {K E P F Y : Type 0} (writing : ProofView K E P F → Data) (reading : Data → Result (ProofView K E P F) ProofFault) (codecs : ProofCodecs K E P F) (shallow : (p : ProofView K E P F) → depth (writing p) ≤ max_depth)
    (Complete : ProofView K E P F → Type 0) (Accepts : List ℕ → Type 0) (ruled : (p : ProofView K E P F) → Complete p → openings_rule_fault p.opened_values ≡ None)
    (each : (p : ProofView K E P F) → Complete p → (file : List ℕ) → proof_in reading codecs file ≡ Some p → Accepts file) (form : ProofForm) where
  -- Where what is answered is complete, what is found of it is accepted.
  found_accepted : (answer : Result (Proof K E P F) (ProvingError Y)) (f g : Finding) → OrNoMemory (TellsAnswer (λ proof h. IsWritten writing codecs form (proof_view proof) h) answer) f
      → IfOk answer (λ proof. ReadsBack writing reading codecs form (proof_view proof) f) → IfOk answer (λ proof. Complete (proof_view proof)) → g ≡ unjudged_finding f → WhereProof (λ other file. Accepts file) g
  found_accepted (Ok proof) f g tells back complete unless = λ other is.
      let p = proof_view proof in
      let kept = of_unjudged f g unless other is in
      elim tells [
        | inl memory ↦ absurd (subst (IsProof other) memory kept.0)
        | inr written ↦ subst Accepts (sym kept.1) (each p complete (finding_bytes f) (spelt_in_form writing reading codecs form p (finding_bytes f) (ruled p complete) (shallow p) (back written.0)))
      ]
  found_accepted (Err error) f g tells back complete unless = λ other is.
      let kept = of_unjudged f g unless other is in
      elim tells [
        | inl memory ↦ absurd (subst (IsProof other) memory kept.0)
        | inr named ↦ absurd (subst (IsProof other) named kept.0)
      ]

-- What holds of an answer at each height holds at this one.
at_this_height : {R X : Type 0} (IsHeight : ℕ → Type 0) (Holds : ℕ → R → Type 0) (height : ℕ) → IsHeight height → (answer : Result R X) → IfOk answer (λ x. (h : ℕ) → IsHeight h → Holds h x) → IfOk answer (Holds height)
at_this_height IsHeight Holds height is (Ok x) each = each height is
at_this_height IsHeight Holds height is (Err error) each = tt

-- ---- the height

no_height_fault : (fixed : Option ℕ) (rows height degree_bits : ℕ) → is_fixed_height fixed rows ≡ true → rows ≡ 2 ^ height → degree_bits ≡ height → height_fault fixed degree_bits ≡ None
no_height_fault None rows height degree_bits is many same = refl
no_height_fault (Some n) rows height degree_bits is many same =
    let own : height ≡ n = same_exponent height n (sym many ∙ eqb-true rows (2 ^ n) is) in
    rw (le-ltb degree_bits n (omega (arith, own, same)), le-ltb n degree_bits (omega (arith, own, same))) refl

unmasked : (is_zk : Bool) (height degree_bits : ℕ) → is_zk ≡ false → degree_bits ≡ height + zk_bits is_zk → degree_bits ≡ height
unmasked is_zk height degree_bits plain is = let none : zk_bits is_zk ≡ 0 = ap zk_bits plain in omega (arith, none, is)

-- ---- rows

module _ {S F E C K T P X Y : Type 0} (ops : ServiceOps S F E C K T P X Y) (scheme : S) (first_state : C) (s : StatementView F) (log_rows : ℕ) (rows : List (List F)) (read : Option (ProofView K E P F)) where
  accepted_as_declared : (height : ℕ) (p : ProofView K E P F) → ops.protocol.opening.is_zk ≡ false → length rows ≡ 2 ^ height → AreSatisfying ops scheme first_state s rows → read ≡ Some p
      → IsAcceptedWithKey ops.protocol log_rows scheme (declared_of s.air).preprocessed_trace (judged_with ops scheme first_state s) height (trace_of (declared_of s.air).layout.main rows) p
      → IsAcceptedWithRows ops scheme first_state s log_rows read
  unfolding IsSatisfying
  accepted_as_declared height p plain many are spelt holds =
      let own : height ≡ _ = own_height ops.protocol.opening.is_zk height p.degree_bits holds.degree_bits in
      record {
        proof = p;
        spelt = spelt;
        fixed = no_height_fault s.log_height (length rows) height p.degree_bits are.fixed many (unmasked ops.protocol.opening.is_zk height p.degree_bits plain holds.degree_bits);
        key = holds.key;
        is_key = holds.is_key;
        accepted = λ drawn. holds.accepted are.satisfied (subst (λ n. HasSizedDegrees ops.protocol (judged_with ops scheme first_state s holds.key) n) (sym own) drawn.sized) (drawn.outside holds.alpha holds.zeta holds.drawn);
      }

  -- A proof of the trace that the rows are, which is accepted with a key.
  accepted_shaped : (air : CheckedAir F) (height : ℕ) (trace : Trace F) (public_values : List F) (ood_bits alpha_bits : ℕ) (p : ProofView K E P F) → air ≡ declared_of s.air → trace ≡ trace_of air.layout.main rows → public_values ≡ s.public_values → ood_bits ≡ s.ood_bits → alpha_bits ≡ s.alpha_bits
      → ops.protocol.opening.is_zk ≡ false → length rows ≡ 2 ^ height → AreSatisfying ops scheme first_state s rows → read ≡ Some p
      → IsAcceptedWithKey ops.protocol log_rows scheme air.preprocessed_trace (instance_of air scheme first_state ood_bits alpha_bits public_values) height trace p
      → IsAcceptedWithRows ops scheme first_state s log_rows read
  accepted_shaped air height trace public_values ood_bits alpha_bits p declares is lists asks asks_first plain many are spelt holds =
      accepted_as_declared height p plain many are spelt
      (subst (λ n. IsAcceptedWithKey ops.protocol log_rows scheme (declared_of s.air).preprocessed_trace (instance_of (declared_of s.air) scheme first_state s.ood_bits n s.public_values) height (trace_of (declared_of s.air).layout.main rows) p) asks_first
      (subst (λ n. IsAcceptedWithKey ops.protocol log_rows scheme (declared_of s.air).preprocessed_trace (instance_of (declared_of s.air) scheme first_state n alpha_bits s.public_values) height (trace_of (declared_of s.air).layout.main rows) p) asks
      (subst (λ ps. IsAcceptedWithKey ops.protocol log_rows scheme (declared_of s.air).preprocessed_trace (instance_of (declared_of s.air) scheme first_state ood_bits alpha_bits ps) height (trace_of (declared_of s.air).layout.main rows) p) lists
      (subst (λ (a : CheckedAir F). IsAcceptedWithKey ops.protocol log_rows scheme a.preprocessed_trace (instance_of a scheme first_state ood_bits alpha_bits public_values) height (trace_of a.layout.main rows) p) declares
      (subst (λ t. IsAcceptedWithKey ops.protocol log_rows scheme air.preprocessed_trace (instance_of air scheme first_state ood_bits alpha_bits public_values) height t p) is holds)))))

-- What a prover finds of rows in the AIR's widths and counts that satisfy it.
module _ {S F E C K T P X Y : Type 0} (ops : ServiceOps S F E C K T P X Y) (reading : Data → Result (ProofView K E P F) ProofFault) (codecs : ProofCodecs K E P F) (shallow : NestsWithin max_depth ops.writing)
    (scheme : S) (first_state : C) (s : StatementView F) (log_rows : ℕ) (rows : List (List F)) (form : ProofForm) where
  pub rows_accepted : (air : CheckedAir F) (height : ℕ) (trace : Trace F) (public_values : List F) (ood_bits alpha_bits : ℕ) (answer : Result (Proof K E P F) (ProvingError Y)) (f g : Finding)
      → air ≡ declared_of s.air → trace ≡ trace_of air.layout.main rows → public_values ≡ s.public_values → ood_bits ≡ s.ood_bits → alpha_bits ≡ s.alpha_bits
      → ops.protocol.opening.is_zk ≡ false → length rows ≡ 2 ^ height → length trace.values ≡ 2 ^ height * trace.width → AreSatisfying ops scheme first_state s rows
      → OrNoMemory (TellsAnswer (λ proof h. IsWritten ops.writing codecs form (proof_view proof) h) answer) f → IfOk answer (λ proof. ReadsBack ops.writing reading codecs form (proof_view proof) f)
      → IsComplete ops.protocol log_rows scheme air.preprocessed_trace (instance_of air scheme first_state ood_bits alpha_bits public_values) trace answer
      → g ≡ unjudged_finding f → WhereProof (λ other file. IsAcceptedWithRows ops scheme first_state s log_rows (proof_in reading codecs file)) g
  rows_accepted air height trace public_values ood_bits alpha_bits answer f g declares is lists asks asks_first plain many whole are tells back complete unless =
      found_accepted ops.writing reading codecs shallow
      (IsAcceptedWithKey ops.protocol log_rows scheme air.preprocessed_trace (instance_of air scheme first_state ood_bits alpha_bits public_values) height trace)
      (λ file. IsAcceptedWithRows ops scheme first_state s log_rows (proof_in reading codecs file)) (λ p holds. holds.ruled)
      (λ p holds file spelt. accepted_shaped ops scheme first_state s log_rows rows (proof_in reading codecs file) air height trace public_values ood_bits alpha_bits p declares is lists asks asks_first plain many are spelt holds)
      form answer f g tells back
      (at_this_height (λ h. length trace.values ≡ 2 ^ h * trace.width)
      (λ h proof. IsAcceptedWithKey ops.protocol log_rows scheme air.preprocessed_trace (instance_of air scheme first_state ood_bits alpha_bits public_values) h trace (proof_view proof)) height whole answer complete)
      unless

-- ---- with the AIR's own number of rows

wide_columns : {F : Type 0} (declared : Option (Trace F)) (trace : Trace F) → declared ≡ Some trace → 0 < trace.width → has_columns declared ≡ false → ⊥
wide_columns declared trace is wide none = let clash : true ≡ false = sym (lt-ltb 0 trace.width wide) ∙ sym (ap has_columns is) ∙ none in cc

module _ {S F E C K T P X Y : Type 0} (ops : ServiceOps S F E C K T P X Y) (laws : SchemeLaws ops.protocol.opening.scheme) (scheme : S) (once : SetsUpOnce ops.protocol.opening.scheme scheme ops.protocol.opening.fields.base ops.protocol.opening.fields.root ops.protocol.opening.is_zk) (first_state : C) (s : StatementView F) where
  abbrev declared : Option (Trace F)
  declared = (declared_of s.air).preprocessed_trace

  abbrev most : ℕ
  most = ops.protocol.opening.scheme.log_max_trace_height scheme

  -- An AIR with columns has one number of rows.
  one_number : (n m : ℕ) → HasRows most (declared_of s.air) n → HasRows most (declared_of s.air) m → (trace : Trace F) → declared ≡ Some trace → 0 < trace.width → n ≡ m
  one_number n m rows others trace is wide = same_height (length trace.values) trace.width n m wide (rows.height trace is wide) (others.height trace is wide)

  -- A key at one number of rows is one at the other.
  key_at : (n m : ℕ) → HasRows most (declared_of s.air) n → HasRows most (declared_of s.air) m → (key : Option (PreprocessedVerifierKey K)) → IsKey ops.protocol n scheme declared key → IsKey ops.protocol m scheme declared key
  key_at n m rows others None is = is
  key_at n m rows others (Some key) is = subst (λ k. IsKey ops.protocol k scheme declared (Some key)) (one_number n m rows others is.0 is.1 is.4) is

  key_sized : (n : ℕ) (key : Option (PreprocessedVerifierKey K)) → IsKey ops.protocol n scheme declared key → IsSizedAsKey ops.protocol n declared key
  key_sized n None is = is
  key_sized n (Some key) is = (is.0, is.1, is.4, is.3.key_width, is.3.key_degree)

  -- There is one key.
  one_key : (n : ℕ) → n ≤ most → (key another : Option (PreprocessedVerifierKey K)) → IsKey ops.protocol n scheme declared key → IsKey ops.protocol n scheme declared another → key ≡ another
  one_key n within None None is also = refl
  one_key n within None (Some another) is also = absurd (wide_columns declared also.0 also.1 also.4 is)
  one_key n within (Some key) None is also = absurd (wide_columns declared is.0 is.1 is.4 also)
  one_key n within (Some key) (Some another) is also =
      let same : also.0 ≡ is.0 = same_Some _ _ (sym also.1 ∙ is.1) in
      ap (λ k. Some k) (once n within is.0 is.2 also.2 key another is.3 (subst (λ t. IsSetUp ops.protocol.opening.scheme scheme ops.protocol.opening.fields.base ops.protocol.opening.fields.root ops.protocol.opening.is_zk n t also.2 another) same also.3))

  module _ (log_rows : ℕ) (rows : HasRows most (declared_of s.air) log_rows) (key : Option (PreprocessedVerifierKey K)) (is_key : IsKey ops.protocol log_rows scheme declared key) (p : ProofView K E P F) (accepted : Accepted ops.protocol (judged_with ops scheme first_state s key) p) where
    tells_accepted : (v : Verdict) → TellsProof (Accepted ops.protocol (judged_with ops scheme first_state s key) p) (FirstFault ops.protocol (judged_with ops scheme first_state s key) p) v → v ≡ verdict.Accepted
    tells_accepted verdict.Accepted tells = refl
    tells_accepted (verdict.Refused why) tells = absurd (excluded ops.protocol laws (judged_with ops scheme first_state s key) p accepted tells.1)
    tells_accepted verdict.BadInput tells = absurd tells
    tells_accepted verdict.OutOfMemory tells = absurd tells

    only_with_key : (n : ℕ) → HasRows most (declared_of s.air) n → (v : Verdict) → IsVerdict ops.protocol n scheme first_state (declared_of s.air) p s.public_values s.ood_bits s.alpha_bits v → v ≡ verdict.Accepted
    unfolding IsVerdict
    only_with_key n others v (inl said) =
        let same : said.0 ≡ key = one_key log_rows rows.within said.0 key (key_at n log_rows others rows said.0 said.1) is_key in
        tells_accepted v (subst (λ k. TellsProof (Accepted ops.protocol (judged_with ops scheme first_state s k) p) (FirstFault ops.protocol (judged_with ops scheme first_state s k) p) v) same said.2)
    only_with_key n others v (inr misshapen) =
        let faulty = misshapen.1 key (key_sized n key (key_at log_rows n rows others key is_key)) in
        absurd (let clash : Some misshapen.0 ≡ None = sym faulty ∙ accepted.shape in cc)

    module _ (read : Option (ProofView K E P F)) (spelt : read ≡ Some p) (fixed : height_fault s.log_height p.degree_bits ≡ None) where
      only_with_rows : (n : ℕ) → HasRows most (declared_of s.air) n → (v : Verdict) → IsVerdictWithRows ops scheme first_state s n read v → v ≡ verdict.Accepted
      unfolding IsVerdictWithRows
      only_with_rows n others v said =
          only_with_key n others v
          (subst (λ fault. UnlessOfOtherHeight fault (λ u. IsVerdict ops.protocol n scheme first_state (declared_of s.air) p s.public_values s.ood_bits s.alpha_bits u) v) fixed
          (subst (λ r. IsVerdictWithRows ops scheme first_state s n r v) spelt said))

      only_on : (v : Verdict) → IsVerdictOn ops scheme first_state s read v → v ≡ verdict.Accepted
      unfolding IsVerdictOn
      only_on v (reads, inl said) = only_with_rows said.0 said.1 v said.2
      only_on v (reads, inr none) = absurd (none.0 log_rows rows)

      accepted_with_rows : IsVerdictWithRows ops scheme first_state s log_rows read verdict.Accepted
      unfolding IsVerdict IsVerdictWithRows
      accepted_with_rows =
          subst (λ r. IsVerdictWithRows ops scheme first_state s log_rows r verdict.Accepted) (sym spelt)
          (subst (λ fault. UnlessOfOtherHeight fault (λ u. IsVerdict ops.protocol log_rows scheme first_state (declared_of s.air) p s.public_values s.ood_bits s.alpha_bits u) verdict.Accepted) (sym fixed) (inl (key, is_key, accepted)))

      verdict_is : ReadsDeclared (declared_of s.air) → IsTheVerdict (IsVerdictOn ops scheme first_state s read) verdict.Accepted
      unfolding IsVerdictOn
      verdict_is reads = ((reads, inl (log_rows, rows, accepted_with_rows)), only_on)

  pub accepted_on : (log_rows : ℕ) (read : Option (ProofView K E P F)) → ReadsDeclared (declared_of s.air) → HasRows most (declared_of s.air) log_rows → IsAcceptedWithRows ops scheme first_state s log_rows read → IsAcceptedOn ops scheme first_state s read
  accepted_on log_rows read reads rows holds = record {
    proof = holds.proof;
    spelt = holds.spelt;
    log_rows = log_rows;
    rows = rows;
    key = holds.key;
    is_key = holds.is_key;
    accepted = λ drawn. verdict_is log_rows rows holds.key holds.is_key holds.proof (holds.accepted drawn) read holds.spelt holds.fixed reads;
  }

-- ---- what a check finds

unless_satisfied : {F E : Type 0} (fields : FieldsOps F E) (number : F → ℕ) (fault : Option PeriodicColumnShapeError) (air : CheckedAir F) (list : _) (trace : Trace F) (public_values : List F)
    → UnlessUnfit fault (IsCheckedTrace fields number air list trace public_values) finding.Satisfied → IsSatisfying fields number air trace public_values
unless_satisfied fields number None air list trace public_values checked = checked
unless_satisfied fields number (Some fault) air list trace public_values is = absurd (let clash : finding.Satisfied ≡ finding.Verdict _ = is in cc)

module _ {F E : Type 0} (fields : FieldsOps F E) (number : F → ℕ) (most : ℕ) (s : StatementView F) (log_rows : ℕ) where
  satisfied_alone : (rows : List (List F)) → IsCheckedWithRows fields number most s log_rows (Some rows) finding.Satisfied → IsSatisfying fields number (declared_of s.air) (trace_of (declared_of s.air).layout.main rows) s.public_values
  unfolding IsCheckedWithRows
  satisfied_alone rows (inl obtained) = unless_satisfied fields number (periodic_fault (declared_of s.air).periodic_columns obtained.0) (declared_of s.air) s.air.list (trace_of (declared_of s.air).layout.main rows) s.public_values obtained.2
  satisfied_alone rows (inr other) = absurd (let clash : finding.Satisfied ≡ finding.Verdict verdict.BadInput = other.1 in cc)

  -- Where it is that the rows satisfy the AIR, they do.
  pub rows_satisfy : (rows : List (List F)) (g : Finding) → g ≡ finding.Satisfied → (g ≡ finding.Verdict verdict.OutOfMemory) ⊎ IsCheckedWithRows fields number most s log_rows (Some rows) g
      → IsSatisfying fields number (declared_of s.air) (trace_of (declared_of s.air).layout.main rows) s.public_values
  rows_satisfy rows g satisfied (inl memory) = absurd (let clash : finding.Satisfied ≡ finding.Verdict verdict.OutOfMemory = sym satisfied ∙ memory in cc)
  rows_satisfy rows g satisfied (inr checked) = satisfied_alone rows (subst (IsCheckedWithRows fields number most s log_rows (Some rows)) satisfied checked)

  -- It is no proof.
  pub check_proves_none : (read : Option (List (List F))) (f : Finding) → (f ≡ finding.Verdict verdict.OutOfMemory) ⊎ IsCheckedWithRows fields number most s log_rows read f → (form : ProofForm) → IsProof form f → ⊥
  check_proves_none read f (inl memory) form proof = subst (IsProof form) memory proof
  check_proves_none read f (inr checked) form proof = rows_prove_none fields number most s log_rows read f checked form proof

-- Nor is what is said of rows that are no trace of the AIR's.
pub unfit_proves_none : {Unfit : Type 0} (f : Finding) → (f ≡ finding.Verdict verdict.OutOfMemory) ⊎ (Unfit × (f ≡ finding.Verdict verdict.BadInput)) → (form : ProofForm) → IsProof form f → ⊥
unfit_proves_none f (inl memory) form proof = subst (IsProof form) memory proof
unfit_proves_none f (inr bad) form proof = subst (IsProof form) bad.1 proof

-- ---- under a task

-- To check and to prove unchecked is not to prove after a check.
pub check_is_no_proof : (asked : TraceTask) (form : ProofForm) → asked ≡ task.Check → asked ≡ task.Prove form → ⊥
check_is_no_proof asked form checks is = let clash : task.Check ≡ task.Prove form = sym checks ∙ is in cc

pub unchecked_is_other : (asked : TraceTask) (other form : ProofForm) → asked ≡ task.ProveUnchecked other → asked ≡ task.Prove form → ⊥
unchecked_is_other asked other form unchecked is = let clash : task.ProveUnchecked other ≡ task.Prove form = sym unchecked ∙ is in cc
