-- An accepted proof in the clear lists columns that break no constraint, unless alpha or zeta is bad.
use Rattle.std.proofs.Common.{◌≡◌, ◌⊎◌, ◌∙◌, ◌==◌, inl, inr, ap, refl, sym, subst, arith, ℕ, ◌^◌, ◌+◌, ◌-◌, ◌*◌, ◌≤◌, Bool, true, false, nat_le, nat_lt, List, [], ◌∷◌, drop, length, take, Option, None, Some}
use Rattle.std.proofs.lemmas.Bool.{eqb-true}
use Rattle.std.proofs.lemmas.List.FromFn.{length-map-range_with_len}
use Rattle.std.specs.List.{AllByRecursion}
use Rattle.stark_support.specs.OptionFacts.{first_none, later_none}
use Rattle.stark_support.specs.Ring.{RingOps, FieldLaws}
use Rattle.stark_support.specs.Claims.{RoundClaim}
use Rattle.stark_support.specs.Embedding.{IsEmbedding, embedded_two_adic}
use Rattle.stark_support.specs.TwoAdic.{TwoAdicLaws}
use Rattle.stark_support.specs.CosetFacts.{root_has_order}
use Rattle.stark_support.specs.Powers.{power}
use Rattle.stark_support.specs.Polynomial.{HasDegreeBelow}
use Rattle.stark_support.specs.Scheme.{CommittedMatrix, matrix_row, natural_coset, row_at, zk_bits}
use Rattle.stark_air.specs.Declaration.{IsDeclared, Trace}
use Rattle.stark_air.specs.Layout.{LeavesWithin}
use Rattle.stark_transcript.specs.Shape.{opens_next_row}
use Rattle.stark_proof.specs.ProofView.{PreprocessedView, ProofView}
use Rattle.stark_clear.specs.ClearClaims.{ClaimsAreTrue}
use Rattle.stark_columns.specs.Columns.{IsFull, columns_of}
use Rattle.stark_security.specs.ConstraintPolynomial.{AirInstance, Columns, height, next_point}
use Rattle.stark_security.specs.BadValues.{Satisfies}
use Rattle.stark_protocol.specs.Acceptance.{Accepted, domain_fault, height_fault, key_fault, log_parts, of_shape}
use Rattle.stark_protocol.specs.Instance.{Instance, ProtocolOps, log_height}
use Rattle.stark_protocol.specs.OpenedClaims.{claims_of}
use Rattle.stark_protocol.specs.Preprocessing.{has_columns}
use Rattle.stark_protocol.specs.ShapeFaults.{fault_if, key_degree_fault, key_width_fault, preprocessed_fault, preprocessed_rows_fault, quotient_fault, randomization_fault, width_in_force}
use Rattle.stark_verifier.specs.SoundAcceptance.{proved_air}
use Rattle.stark_verifier.specs.TakenValues.{embedded_polynomials}
use Rattle.stark_protocol.specs.declared.preprocessed.PreprocessedVerifierKey.{PreprocessedVerifierKey}
use Rattle.stark_protocol.specs.AcceptanceFacts.{not_found}
use Rattle.stark_verifier.proofs.ShapeSteps.{met}
use Rattle.stark_verifier.proofs.SoundAcceptanceSteps.{accepted_is_sound, shape_clear}
use Rattle.stark_verifier.proofs.TakenValueSteps.{embedded_fit}
use Rattle.stark_security.proofs.BadValueSteps.{first_broken}
use Rattle.stark_security.proofs.ErrorBoundSteps.{few_bad_draws}
use Rattle.stark_answers.specs.SoundRun.{ColumnsAreSound, InterpolateDeclared, Listed, chunk_count, committed_chunks, committed_columns, key_columns, only_matrix}
use Rattle.stark_answers.specs.Verify.{IsKey}
use Rattle.stark_answers.proofs.SameColumns.{same_rows}
use Rattle.stark_answers.proofs.TakenColumns.{all_below, commitments_fit, commitments_take, one_trace}

-- ---- a trace that may break its constraints

module _ {F E : Type 0} (i : AirInstance F E) (laws : FieldLaws i.ring i.inverse) (columns : Columns F E) where
  -- What follows of a broken trace is an alternative to a trace that isn't.
  satisfied_or : (A : Type 0) → ((Satisfies i columns → ⊥) → A) → Satisfies i columns ⊎ A
  satisfied_or A follows = elim (first_broken i laws columns (height i) (omega arith)) [ inl kept ↦ inl kept | inr obtained ↦ inr (follows (λ kept. obtained.1.broken (kept obtained.0 obtained.1.in_trace))) ]

-- ---- a shape without a fault

no_width : (width : ℕ) → nat_lt 0 width ≡ false → width ≡ 0
no_width width e = grind (arith, e)

not_none : (width : ℕ) → width ≡ 0 → (width == 0) ≡ false → ⊥
not_none width e clear = grind (arith, e, clear)

-- Without a key no preprocessed row is opened.
no_key_no_rows : {E K : Type 0} (width : ℕ) (reads_next : Bool) (degree_bits : ℕ) (key : Option (PreprocessedVerifierKey K)) (rows : Option (PreprocessedView E))
    → preprocessed_fault key width reads_next degree_bits rows ≡ None → key ≡ None → rows ≡ None
no_key_no_rows width reads_next degree_bits (Some key) rows clear none = absurd (cc)
no_key_no_rows width reads_next degree_bits None None clear none = refl
no_key_no_rows {K = K} width reads_next degree_bits None (Some rows) clear none =
    let tests = preprocessed_rows_fault width reads_next (Some rows) in
    let positive : (width == 0) ≡ false = not_found (width == 0) _ (first_none (fault_if (width == 0) _) _ (first_none tests _ clear)) in
    let none_wide : nat_lt 0 width ≡ false = not_found (nat_lt 0 width) _ (first_none (key_width_fault {K = K} None width) None (later_none tests _ clear)) in
    absurd (not_none width (no_width width none_wide) positive)

-- The quotient's domain lies in the field, so H does.
height_within : (log_chunks is_zk degree_bits adicity greatest : ℕ) → quotient_fault log_chunks is_zk degree_bits adicity greatest ≡ None → degree_bits - is_zk ≤ adicity
height_within log_chunks is_zk degree_bits adicity greatest clear =
    let last = later_none (fault_if (nat_le 64 (degree_bits + log_chunks)) _) _ (later_none (fault_if (nat_le 64 (log_chunks + is_zk)) _) _ clear) in
    let obtained : nat_lt adicity (degree_bits + log_chunks) ≡ false = not_found (nat_lt adicity (degree_bits + log_chunks)) _ last in
    grind (arith, obtained)

no_random : {K R X : Type 0} (is_zk : Bool) (commitment : Option K) (row : Option R) → is_zk ≡ false → randomization_fault {X = X} is_zk commitment row ≡ None → commitment ≡ None
no_random true commitment row plain clear = absurd (cc)
no_random false None row plain clear = refl
no_random false (Some commitment) row plain clear = absurd (cc)

-- Where nothing is masked, the committed height is the declared one.
unmasked : (is_zk : Bool) (n : ℕ) → is_zk ≡ false → n + zk_bits is_zk ≡ n
unmasked true n plain = absurd (cc)
unmasked false n plain = omega arith

no_lists : {A : Type 0} (xs : List A) → length xs ≡ 0 → xs ≡ []
no_lists [] e = refl
no_lists (x ∷ xs) e = absurd (omega (arith, e))

no_columns : {F : Type 0} (field : RingOps F) (root : ℕ → F) (log_size : ℕ) (declared : Option (Trace F)) (columns : List (List F)) → has_columns declared ≡ false
    → InterpolateDeclared field root log_size declared columns → columns ≡ []
no_columns field root log_size None columns none takes = takes
no_columns field root log_size (Some trace) columns none takes = no_lists columns (takes.0.count ∙ no_width trace.width none)

nothing_between : (start width : ℕ) → width ≡ 0 → start + width - start ≡ 0
nothing_between start width none = omega (arith, none)

no_row : {F : Type 0} (values : List F) (width r : ℕ) → width ≡ 0 → matrix_row values width r ≡ []
no_row values width r none = ap (λ n. take n (drop (r * width) values)) (nothing_between (r * width) width none)

-- no column interpolates nothing
none_interpolate : {F : Type 0} (field : RingOps F) (root : ℕ → F) (log_size : ℕ) (declared : Option (Trace F)) → has_columns declared ≡ false → InterpolateDeclared field root log_size declared []
none_interpolate field root log_size None none = refl
none_interpolate field root log_size (Some trace) none =
    let width = no_width trace.width none in
    (record { count = sym width; rows = λ r less. no_row trace.values trace.width r width }, tt)

-- ---- the operations of the scheme in the clear

-- A configuration's fields are lawful and have the group of 2 ^ log_rows points; its scheme masks nothing, accepts true claims alone, and a
-- commitment lists the columns that it stands for, each with as many coefficients as its domain has points.
pub record InTheClear {S F E C T P X Y : Type 0} (ops : ProtocolOps S F E C (Listed F) T P X Y) (log_rows : ℕ) : Type 0 where
  pub plain : ops.opening.is_zk ≡ false
  pub base_laws : FieldLaws ops.opening.fields.base ops.opening.fields.base_inverse
  pub laws : FieldLaws ops.opening.fields.ring ops.opening.fields.inverse
  pub embeds : IsEmbedding ops.opening.fields.base ops.opening.fields.ring ops.opening.fields.embed
  pub two_adic : TwoAdicLaws ops.opening.fields.base ops.opening.fields.adicity ops.opening.fields.root ops.opening.fields.generator
  pub has_group : log_rows ≤ ops.opening.fields.adicity
  pub accepts : (s : S) (claims : List (RoundClaim F E (Listed F))) (proof : P) (state : C) (index : Option ℕ) → ops.opening.scheme.Accepts s claims proof state index
      → ClaimsAreTrue ops.opening.fields.ring ops.opening.fields.embed claims
  pub stands : (s : S) (commitment : Listed F) (prover_data : T) (matrices : List (CommittedMatrix F)) → ops.opening.scheme.Stands s commitment prover_data matrices
      → (commitment ≡ columns_of matrices) × AllByRecursion IsFull matrices

module _ {S F E C T P X Y : Type 0} (ops : ProtocolOps S F E C (Listed F) T P X Y) (log_rows : ℕ) (clear : InTheClear ops log_rows) where
  -- A power of the generator of H that is one.
  group_closes : (k : ℕ) → k ≤ ops.opening.fields.adicity → power ops.opening.fields.ring (ops.opening.fields.embed (ops.opening.fields.root k)) (2 ^ k) ≡ ops.opening.fields.ring.one
  group_closes k within =
      let fields = ops.opening.fields in
      (root_has_order clear.laws fields.adicity (λ n. fields.embed (fields.root n)) (fields.embed fields.generator) (embedded_two_adic clear.embeds fields.adicity fields.root fields.generator clear.two_adic) k within).reaches

  -- Two interpolations of the declared rows have equal values everywhere.
  interpolations_agree : (declared : Option (Trace F)) (columns others : List (List F)) → InterpolateDeclared ops.opening.fields.base ops.opening.fields.root log_rows declared columns
      → InterpolateDeclared ops.opening.fields.base ops.opening.fields.root log_rows declared others
      → (x : E) → row_at ops.opening.fields.ring ops.opening.fields.embed columns x ≡ row_at ops.opening.fields.ring ops.opening.fields.embed others x
  interpolations_agree None columns others takes also x = ap (λ cs. row_at ops.opening.fields.ring ops.opening.fields.embed cs x) (takes ∙ sym also)
  interpolations_agree (Some trace) columns others takes also x =
      let fields = ops.opening.fields in
      same_rows fields.base fields.base_inverse fields.ring fields.inverse fields.embed fields.adicity fields.root fields.generator clear.base_laws clear.laws clear.embeds clear.two_adic log_rows clear.has_group
      columns others (takes.0.count ∙ sym also.0.count) takes.1 also.1 (λ r less. sym (takes.0.rows r less) ∙ also.0.rows r less) x

module _ {S F E C T P X Y : Type 0} (ops : ProtocolOps S F E C (Listed F) T P X Y) (log_rows : ℕ) (clear : InTheClear ops log_rows) (s : S) (declared : Option (Trace F)) where
  -- The key lists an interpolation of the declared rows.
  key_interpolates : (key : Option (PreprocessedVerifierKey (Listed F))) → IsKey ops log_rows s declared key → InterpolateDeclared ops.opening.fields.base ops.opening.fields.root log_rows declared (key_columns key)
  key_interpolates None is = none_interpolate ops.opening.fields.base ops.opening.fields.root log_rows declared is
  key_interpolates (Some key) is =
      let fields = ops.opening.fields in
      let made = is.3 in
      let made_columns = made.columns in
      let stands = clear.stands s is.2.commitment is.2.prover_data (record { domain = natural_coset fields.base (log_rows + zk_bits ops.opening.is_zk); columns = made_columns } ∷ []) made.stands in
      let listed : only_matrix key.commitment ≡ made_columns = ap only_matrix (made.same ∙ stands.0) in
      let below : AllByRecursion (HasDegreeBelow (2 ^ log_rows)) made_columns
      = subst (λ bits. AllByRecursion (HasDegreeBelow (2 ^ bits)) made_columns) (unmasked ops.opening.is_zk log_rows clear.plain) (all_below (2 ^ (log_rows + zk_bits ops.opening.is_zk)) made_columns stands.1.0) in
      subst (λ d. InterpolateDeclared fields.base fields.root log_rows d (only_matrix key.commitment)) (sym is.1)
      (subst (λ cs. InterpolateDeclared fields.base fields.root log_rows (Some is.0) cs) (sym listed) (made.takes, below))

  -- An interpolation's degrees are below the proof's height.
  declared_fit : (degree_bits : ℕ) (key : Option (PreprocessedVerifierKey (Listed F))) → IsKey ops log_rows s declared key → key_degree_fault key degree_bits ≡ None → (columns : List (List F))
      → InterpolateDeclared ops.opening.fields.base ops.opening.fields.root log_rows declared columns → AllByRecursion (HasDegreeBelow (2 ^ degree_bits)) (embedded_polynomials ops.opening.fields.embed columns)
  declared_fit degree_bits None is same columns takes =
      subst (λ cs. AllByRecursion (HasDegreeBelow (2 ^ degree_bits)) (embedded_polynomials ops.opening.fields.embed cs)) (sym (no_columns ops.opening.fields.base ops.opening.fields.root log_rows declared columns is takes)) tt
  declared_fit degree_bits (Some key) is same columns takes =
      let bits : degree_bits ≡ log_rows = sym (eqb-true key.degree_bits degree_bits (met (key.degree_bits == degree_bits) _ same)) ∙ is.3.key_degree ∙ unmasked ops.opening.is_zk log_rows clear.plain in
      let rows = subst (λ d. InterpolateDeclared ops.opening.fields.base ops.opening.fields.root log_rows d columns) is.1 takes in
      subst (λ n. AllByRecursion (HasDegreeBelow (2 ^ n)) (embedded_polynomials ops.opening.fields.embed columns)) (sym bits) (embedded_fit ops.opening.fields.embed (2 ^ log_rows) columns rows.1)

module _ {S F E C T P X Y : Type 0} (ops : ProtocolOps S F E C (Listed F) T P X Y) (log_rows : ℕ) (clear : InTheClear ops log_rows) (i : Instance S F C (Listed F)) (p : ProofView (Listed F) E P F) (declared : Option (Trace F)) where
  -- With the AIR's key, an accepted proof's columns are sound.
  pub accepted_columns_are_sound : LeavesWithin i.layout i.constraints → IsDeclared i.layout declared i.periodic_columns i.main_next_columns i.preprocessed_next_columns
      → IsKey ops log_rows i.scheme declared i.key → Accepted ops i p → ColumnsAreSound ops i p log_rows declared
  accepted_columns_are_sound within is_declared is_key accepted =
      let fields = ops.opening.fields in
      let zeta = accepted.zeta in
      let next = next_point (proved_air ops i p) fields.ring (λ c. c) zeta in
      let coset = natural_coset fields.base p.degree_bits in
      let past_height = later_none (of_shape (height_fault ops i p)) _ accepted.shape in
      let past_key = later_none (of_shape (key_fault ops i p)) _ past_height in
      let past_domain = later_none (of_shape (domain_fault ops i p)) _ past_key in
      let key_clear : key_fault ops i p ≡ None = shape_clear {X = X} _ (first_none (of_shape (key_fault ops i p)) _ past_height) in
      let degree_clear : key_degree_fault i.key p.degree_bits ≡ None = later_none (key_width_fault i.key i.layout.preprocessed) _
      (later_none (preprocessed_rows_fault (width_in_force i.key i.layout.preprocessed) (opens_next_row i.preprocessed_next_columns) p.opened_values.preprocessed) _ key_clear) in
      let domain_clear : domain_fault ops i p ≡ None = shape_clear {X = X} _ (first_none (of_shape (domain_fault ops i p)) _ past_key) in
      let within_field = height_within (log_parts ops i p) (zk_bits ops.opening.is_zk) p.degree_bits fields.adicity (ops.opening.scheme.log_max_trace_height i.scheme) domain_clear in
      let random : p.commitments.random ≡ None = no_random {X = X} ops.opening.is_zk p.commitments.random p.opened_values.random clear.plain
      (first_none (randomization_fault ops.opening.is_zk p.commitments.random p.opened_values.random) _ past_domain) in
      let true_claims : ClaimsAreTrue fields.ring fields.embed (claims_of coset zeta next i.key p.commitments.trace p.commitments.quotient_chunks None p.opened_values)
      = subst (λ commitment. ClaimsAreTrue fields.ring fields.embed (claims_of coset zeta next i.key p.commitments.trace p.commitments.quotient_chunks commitment p.opened_values)) random
      (clear.accepts i.scheme _ p.opening_proof _ _ accepted.run.opened.accepted) in
      let fit = commitments_fit coset zeta next i.key fields.embed p.commitments.trace p.commitments.quotient_chunks p.opened_values true_claims.0 in
      let interpolated = key_interpolates ops log_rows clear i.scheme declared i.key is_key in
      record {
        alpha = accepted.alpha;
        zeta = zeta;
        drawn = accepted.run.drawn;
        interpolated = interpolated;
        one_matrix = one_trace coset zeta next i.key fields.embed p.commitments.trace p.commitments.quotient_chunks p.opened_values true_claims.0;
        chunks_fit = fit.1;
        columns_fit = λ preprocessed takes. record { main = fit.0; preprocessed = declared_fit ops log_rows clear i.scheme declared p.degree_bits i.key is_key degree_clear preprocessed takes };
        sound = λ preprocessed takes.
            satisfied_or (proved_air ops i p) clear.laws (committed_columns ops i p preprocessed) _
            (accepted_is_sound ops i p clear.laws within declared is_declared accepted accepted.alpha zeta accepted.run.drawn (committed_columns ops i p preprocessed) (committed_chunks ops i p) refl
            (commitments_take (proved_air ops i p) coset zeta i.key p.commitments.trace p.commitments.quotient_chunks p.opened_values i.public_values preprocessed
            (interpolations_agree ops log_rows clear declared (key_columns i.key) preprocessed interpolated takes)
            (no_key_no_rows i.layout.preprocessed (opens_next_row i.preprocessed_next_columns) p.degree_bits i.key p.opened_values.preprocessed key_clear) true_claims.1));
        shifts_counted = length-map-range_with_len _ 0 (chunk_count ops i p);
        few = few_bad_draws (proved_air ops i p) clear.laws (group_closes ops log_rows clear (log_height ops.opening.is_zk p.degree_bits) within_field) (2 ^ p.degree_bits) (chunk_count ops i p);
      }
