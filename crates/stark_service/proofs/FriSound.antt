-- What is accepted by FRI for a statement is sound, under the key by which it is accepted.
use Rattle.std.proofs.Common.{◌≡◌, ◌⊎◌, ◌∙◌, ap, inl, inr, refl, sym, subst, arith, ℕ, suc, ◌+◌, ◌/◌, ◌^◌, ◌<◌, ◌≤◌, Bool, true, false, nat_lt, List, [], ◌∷◌, length, Option, None, Some}
use Rattle.std.specs.List.{AllByRecursion}
use Rattle.std.proofs.Math.Nat.{mul-div_cancel}
use Rattle.std.proofs.lemmas.Bool.{cases_Bool}
use Rattle.stark_support.specs.Polynomial.{HasDegreeBelow}
use Rattle.stark_support.specs.Ring.{RingOps}
use Rattle.stark_support.specs.Scheme.{zk_bits}
use Rattle.stark_air.specs.Declaration.{IsDeclared, Trace, trace_width}
use Rattle.stark_merkle.specs.declared.root.Root.{Root}
use Rattle.stark_fri_proof.specs.Parts.{FriProofView}
use Rattle.stark_fri_proof.specs.declared.parameters.FriParameters.{FriParameters}
use Rattle.stark_fri.specs.Parts.{FriOps}
use Rattle.stark_fri.specs.Scheme.{IsRootOf}
use Rattle.stark_over_fri.specs.Tables.{FitAsPreprocessed, TablesAreSoundBesideOwn, coefficient_count}
use Rattle.stark_over_fri.proofs.AcceptedSteps.{IsByFri, accepted_are_shown, key_has_columns, key_has_height, within_field}
use Rattle.stark_over_fri.proofs.DeclaredSteps.{CommitsByFri, key_has_root, sound_beside_own}
use Rattle.stark_proof.specs.ProofView.{ProofView}
use Rattle.stark_protocol.specs.Acceptance.{Accepted}
use Rattle.stark_protocol.specs.Instance.{log_height}
use Rattle.stark_protocol.specs.Preprocessing.{HasHeight, has_columns}
use Rattle.stark_protocol.specs.declared.preprocessed.PreprocessedVerifierKey.{PreprocessedVerifierKey}
use Rattle.stark_verifier.specs.SoundAcceptance.{BreakingNeedsBadChallenges}
use Rattle.stark_verifier.proofs.SoundAcceptanceSteps.{accepted_is_sound}
use Rattle.stark_statement.specs.StatementView.{StatementView}
use Rattle.stark_answers.specs.SoundRun.{InterpolateDeclared}
use Rattle.stark_answers.specs.Verify.{IsKey, IsVerdict}
use Rattle.stark_answers.proofs.Soundly.{accepts_none}
use Rattle.stark_answers.specs.declared.verdict.Verdict.{Verdict}
use Rattle.stark_answers.specs.declared.verdict.Verdict.TheVariants as verdict
use Rattle.stark_service.specs.FriSoundness.{IsSoundByFri, IsSoundByFriOn, IsSoundByFriWithRows, TakeDeclared, judged_with}
use Rattle.stark_service.specs.Heights.{height_fault}
use Rattle.stark_service.specs.Service.{ServiceOps}
use Rattle.stark_service.specs.StatementAir.{declared_of}
use Rattle.stark_service.specs.Statements.{IsVerdictOn, IsVerdictWithRows, ReadsDeclared}
use Rattle.stark_service.proofs.StatementsSound.{accepted_at_height, bad_clash, memory_clash}

-- ---- declared columns

narrow : (width : ℕ) → nat_lt 0 width ≡ false → width ≡ 0
narrow width e = grind (arith, e)

empty : {A : Type 0} (xs : List A) → length xs ≡ 0 → xs ≡ []
empty [] e = refl
empty (x ∷ xs) e = absurd (omega (arith, e))

within : (l n m : ℕ) → l ≤ 2 ^ n → n ≡ m → l ≤ suc (2 ^ m)
within l n m h same = let bound : l ≤ 2 ^ m = subst (λ k. l ≤ 2 ^ k) same h in omega (arith, bound)

all_within : {A : Type 0} (n m : ℕ) (xs : List (List A)) → AllByRecursion (HasDegreeBelow (2 ^ n)) xs → n ≡ m → AllByRecursion (HasDegreeBelow (suc (2 ^ m))) xs
all_within n m [] h same = tt
all_within n m (x ∷ xs) h same = (within (length x) n m h.0 same, all_within n m xs h.1 same)

module _ {F : Type 0} (field : RingOps F) (root : ℕ → F) (log_rows : ℕ) where
  declared_number : (declared : Option (Trace F)) (known : List (List F)) → InterpolateDeclared field root log_rows declared known → length known ≡ trace_width declared
  declared_number None known takes = subst (λ cs. length cs ≡ 0) (sym takes) refl
  declared_number (Some trace) known takes = takes.0.count

  -- Where there are columns, the height is that of the declared rows; else there is nothing to fit.
  declared_degrees : (declared : Option (Trace F)) (known : List (List F)) (degree_bits : ℕ) → InterpolateDeclared field root log_rows declared known → (has_columns declared ≡ true → log_rows ≡ degree_bits)
      → AllByRecursion (HasDegreeBelow (suc (2 ^ degree_bits))) known
  declared_degrees None known degree_bits takes same = subst (AllByRecursion (HasDegreeBelow (suc (2 ^ degree_bits)))) (sym takes) tt
  declared_degrees (Some trace) known degree_bits takes same = elim (cases_Bool (nat_lt 0 trace.width)) [
    | inl wide ↦ all_within log_rows degree_bits known takes.1 (same wide)
    | inr none ↦ subst (AllByRecursion (HasDegreeBelow (suc (2 ^ degree_bits)))) (sym (empty known (takes.0.count ∙ narrow trace.width none))) tt
  ]

unmasked_height : (is_zk : Bool) (n m k : ℕ) → is_zk ≡ false → n ≡ m + zk_bits is_zk → n ≡ k → m ≡ k
unmasked_height true n m k plain is same = absurd (cc)
unmasked_height false n m k plain is same = omega (arith, is, same)

plain_height : (is_zk : Bool) (d a : ℕ) → is_zk ≡ false → log_height is_zk d ≤ a → d ≤ a
plain_height true d a plain within = absurd (cc)
plain_height false d a plain within = omega (arith, within)

positive : (n : ℕ) → nat_lt 0 n ≡ true → 0 < n
positive n e = grind (arith, e)

-- ---- acceptance by FRI

module _ {S F E C T P X Y : Type 0} (ops : ServiceOps S F E C Root T P X Y) (fri : FriOps C F E) (parameters_of : S → FriParameters) (proof_of : P → FriProofView F E) (by : IsByFri ops.protocol fri parameters_of proof_of)
    (commits : CommitsByFri ops.protocol fri parameters_of) (scheme : S) (first_state : C) (s : StatementView F) where
  module _ (reads : ReadsDeclared (declared_of s.air)) (log_rows : ℕ) (p : ProofView Root E P F) where
    -- The key is of the proof's height, and so are the declared rows.
    same_height : (key : Option (PreprocessedVerifierKey Root)) → IsKey ops.protocol log_rows scheme (declared_of s.air).preprocessed_trace key → Accepted ops.protocol (judged_with ops fri parameters_of proof_of scheme first_state s key) p
        → has_columns (declared_of s.air).preprocessed_trace ≡ true → log_rows ≡ p.degree_bits
    same_height None is accepted columns = absurd (let clash : true ≡ false = sym columns ∙ is in cc)
    same_height (Some key) is accepted columns =
        unmasked_height ops.protocol.opening.is_zk key.degree_bits log_rows p.degree_bits by.plain is.3.key_degree
        (key_has_height ops.protocol fri parameters_of proof_of (judged_with ops fri parameters_of proof_of scheme first_state s (Some key)) p by accepted key refl)

    fits : (key : Option (PreprocessedVerifierKey Root)) → IsKey ops.protocol log_rows scheme (declared_of s.air).preprocessed_trace key → Accepted ops.protocol (judged_with ops fri parameters_of proof_of scheme first_state s key) p
        → (known : List (List F)) → TakeDeclared ops fri parameters_of proof_of scheme first_state s log_rows known
        → FitAsPreprocessed ops.protocol fri parameters_of proof_of (judged_with ops fri parameters_of proof_of scheme first_state s key) p known
    fits key is accepted known takes =
        let fields = ops.protocol.opening.fields in
        let declared = (declared_of s.air).preprocessed_trace in
        record {
          number = declared_number fields.base fields.root log_rows declared known takes ∙ sym reads.counted.preprocessed_width;
          degrees = declared_degrees fields.base fields.root log_rows declared known p.degree_bits takes (same_height key is accepted);
        }

    -- A key of the declared rows is the root over the columns that take them.
    own_root : HasHeight log_rows (declared_of s.air).preprocessed_trace → (given : Option (PreprocessedVerifierKey Root)) → IsKey ops.protocol log_rows scheme (declared_of s.air).preprocessed_trace given
        → Accepted ops.protocol (judged_with ops fri parameters_of proof_of scheme first_state s given) p → (known : List (List F)) → TakeDeclared ops fri parameters_of proof_of scheme first_state s log_rows known
        → (key : PreprocessedVerifierKey Root) → given ≡ Some key → (log_rows ≡ p.degree_bits) × IsRootOf fri (log_rows + (parameters_of scheme).log_blowup) (known ∷ []) key.commitment
    own_root height given is accepted known takes key same =
        let judged = judged_with ops fri parameters_of proof_of scheme first_state s given in
        let fields = ops.protocol.opening.fields in
        let own : IsKey ops.protocol log_rows scheme (declared_of s.air).preprocessed_trace (Some key) = subst (IsKey ops.protocol log_rows scheme (declared_of s.air).preprocessed_trace) same is in
        let trace = own.0 in
        let set = own.3 in
        let degree : log_rows ≡ p.degree_bits = unmasked_height ops.protocol.opening.is_zk key.degree_bits log_rows p.degree_bits by.plain set.key_degree
        (key_has_height ops.protocol fri parameters_of proof_of judged p by accepted key same) in
        let wide : 0 < trace.width = subst (λ n. 0 < n) set.key_width (positive key.width (key_has_columns ops.protocol fri parameters_of proof_of judged p by accepted key same)) in
        let rows : length trace.values / trace.width ≡ 2 ^ log_rows = ap (λ n. n / trace.width) (height trace own.1 wide) ∙ mul-div_cancel (2 ^ log_rows) wide in
        let within : log_rows ≤ fri.fields.adicity = subst (λ n. n ≤ fri.fields.adicity) (sym degree)
        (subst (λ a. p.degree_bits ≤ a) commits.adicity (plain_height ops.protocol.opening.is_zk p.degree_bits fields.adicity by.plain (within_field ops.protocol fri parameters_of proof_of judged p by accepted))) in
        let declared : InterpolateDeclared fields.base fields.root log_rows (Some trace) known = subst (λ d. InterpolateDeclared fields.base fields.root log_rows d known) own.1 takes in
        (degree, key_has_root ops.protocol fri parameters_of by.fields commits by.plain scheme log_rows trace own.2 key set rows within known declared.0 declared.1)

    sound_beside_declared : HasHeight log_rows (declared_of s.air).preprocessed_trace → (given : Option (PreprocessedVerifierKey Root)) → IsKey ops.protocol log_rows scheme (declared_of s.air).preprocessed_trace given
        → Accepted ops.protocol (judged_with ops fri parameters_of proof_of scheme first_state s given) p → BreakingNeedsBadChallenges ops.protocol (judged_with ops fri parameters_of proof_of scheme first_state s given) p
        → trace_width (declared_of s.air).preprocessed_trace < 2 ^ 32 → (known : List (List F)) → TakeDeclared ops fri parameters_of proof_of scheme first_state s log_rows known
        → TablesAreSoundBesideOwn ops.protocol fri parameters_of proof_of (judged_with ops fri parameters_of proof_of scheme first_state s given) p known
    sound_beside_declared height given is accepted breaking few known takes =
        let judged = judged_with ops fri parameters_of proof_of scheme first_state s given in
        let fields = ops.protocol.opening.fields in
        let narrow : length known < 2 ^ 32 = subst (λ n. n < 2 ^ 32) (sym (declared_number fields.base fields.root log_rows (declared_of s.air).preprocessed_trace known takes)) few in
        let shown = accepted_are_shown ops.protocol fri parameters_of proof_of judged p by accepted breaking in
        sound_beside_own ops.protocol fri parameters_of proof_of judged p by commits accepted log_rows known narrow
        (λ key same. (own_root height given is accepted known takes key same).0) (λ key same. (own_root height given is accepted known takes key same).1)
        (shown.beside known (fits given is accepted known takes))

    sound_with_key : HasHeight log_rows (declared_of s.air).preprocessed_trace → IsVerdict ops.protocol log_rows scheme first_state (declared_of s.air) p s.public_values s.ood_bits s.alpha_bits verdict.Accepted → IsSoundByFri ops fri parameters_of proof_of scheme first_state s log_rows p
    unfolding IsVerdict
    sound_with_key height (inr misshapen) = absurd (accepts_none misshapen.2)
    sound_with_key height (inl said) =
        let judged = judged_with ops fri parameters_of proof_of scheme first_state s said.0 in
        let breaking = accepted_is_sound ops.protocol judged p by.laws reads.within (declared_of s.air).preprocessed_trace reads.counted said.2 in
        let shown = accepted_are_shown ops.protocol fri parameters_of proof_of judged p by said.2 breaking in
        record {
          key = said.0;
          is_key = said.1;
          accepted = said.2;
          tables = λ known takes. shown.beside known (fits said.0 said.1 said.2 known takes);
          own = sound_beside_declared height said.0 said.1 said.2 breaking;
          few = shown.few;
          taken = breaking;
        }

  sound_with_rows : ReadsDeclared (declared_of s.air) → (log_rows : ℕ) → HasHeight log_rows (declared_of s.air).preprocessed_trace → (o : Option (ProofView Root E P F)) → IsVerdictWithRows ops scheme first_state s log_rows o verdict.Accepted
      → IsSoundByFriWithRows ops fri parameters_of proof_of scheme first_state s log_rows o
  unfolding IsVerdictWithRows IsSoundByFriWithRows
  sound_with_rows reads log_rows height None said = bad_clash said
  sound_with_rows reads log_rows height (Some p) said = sound_with_key reads log_rows p height (accepted_at_height (height_fault s.log_height p.degree_bits) (λ u. IsVerdict ops.protocol log_rows scheme first_state (declared_of s.air) p s.public_values s.ood_bits s.alpha_bits u) said)

  sound_on : (read : Option (ProofView Root E P F)) → IsVerdictOn ops scheme first_state s read verdict.Accepted → IsSoundByFriOn ops fri parameters_of proof_of scheme first_state s read
  unfolding IsVerdictOn IsSoundByFriOn
  sound_on read (reads, inl said) = (said.0, said.1, sound_with_rows reads said.0 said.1.height read said.2)
  sound_on read (reads, inr other) = absurd (bad_clash other.1)

  pub sound_by_fri : (read : Option (ProofView Root E P F)) (v : Verdict) → (v ≡ verdict.OutOfMemory) ⊎ IsVerdictOn ops scheme first_state s read v → v ≡ verdict.Accepted
      → IsSoundByFriOn ops fri parameters_of proof_of scheme first_state s read
  sound_by_fri read v (inl memory) is = absurd (memory_clash v memory is)
  sound_by_fri read v (inr said) is = sound_on read (subst (λ w. IsVerdictOn ops scheme first_state s read w) is said)
