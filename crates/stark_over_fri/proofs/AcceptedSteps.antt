-- An accepted proof by FRI is sound for all tables that lead to its roots.
use Rattle.std.proofs.Common.{◌≡◌, ◌⊎◌, ◌∙◌, ◌==◌, ap, refl, sym, subst, arith, inl, inr, ℕ, suc, ◌+◌, ◌-◌, ◌*◌, ◌^◌, ◌<◌, ◌≤◌, nat_le, nat_lt, List, length, map, Option, None, Some, Ok, Err, Result, OnOk, Bool, true, false}
use Rattle.std.specs.Prelude.{not, ◌&&◌}
use Rattle.std.specs.List.{AllByRecursion}
use Rattle.std.proofs.lemmas.Bool.{cases_Bool}
use Rattle.std.proofs.lemmas.List.FromFn.{length-map-range_with_len}
use Rattle.stark_support.specs.Claims.{RoundClaim}
use Rattle.stark_support.specs.Coset.{TwoAdicCoset}
use Rattle.stark_support.specs.CosetFacts.{root_has_order}
use Rattle.stark_support.specs.Embedding.{IsEmbedding, embedded_two_adic}
use Rattle.stark_support.specs.OptionFacts.{first_none, later_none}
use Rattle.stark_support.specs.Polynomial.{HasDegreeBelow}
use Rattle.stark_support.specs.Powers.{power}
use Rattle.stark_support.specs.Ring.{FieldLaws}
use Rattle.stark_support.specs.Scheme.{natural_coset, zk_bits}
use Rattle.stark_support.specs.TwoAdic.{TwoAdicLaws}
use Rattle.stark_merkle.specs.declared.root.Root.{Root}
use Rattle.stark_transcript.specs.Shape.{opens_next_row}
use Rattle.stark_proof.specs.ProofView.{PreprocessedView, ProofView}
use Rattle.stark_security.specs.BadValues.{Satisfies}
use Rattle.stark_security.specs.ConstraintPolynomial.{AirInstance, Columns, height, next_point}
use Rattle.stark_security.proofs.BadValueSteps.{first_broken}
use Rattle.stark_security.proofs.ErrorBoundSteps.{few_bad_draws}
use Rattle.stark_protocol.specs.Acceptance.{Accepted, challenges, domain_fault, height_fault, key_fault, log_parts, of_shape, preprocessed_local}
use Rattle.stark_protocol.specs.AcceptanceFacts.{not_found, same_drawn}
use Rattle.stark_protocol.specs.Instance.{Instance, ProtocolOps, log_height}
use Rattle.stark_protocol.specs.OpenedClaims.{claims, claims_of, preprocessed_place}
use Rattle.stark_protocol.specs.ShapeFaults.{expected_next, fault_if, key_degree_fault, key_width_fault, preprocessed_fault, preprocessed_rows_fault, quotient_fault, randomization_fault, width_in_force, width_of}
use Rattle.stark_protocol.specs.declared.preprocessed.PreprocessedVerifierKey.{PreprocessedVerifierKey}
use Rattle.stark_verifier.specs.SoundAcceptance.{BreakingNeedsBadChallenges, proved_air}
use Rattle.stark_verifier.specs.TakenValues.{embedded_polynomials}
use Rattle.stark_verifier.proofs.SoundAcceptanceSteps.{shape_clear}
use Rattle.stark_verifier.proofs.TakenValueSteps.{embedded_fit}
use Rattle.stark_fri_soundness.specs.Agreement.{ArePointsApart, count}
use Rattle.stark_fri_soundness.specs.Claims.{ColumnIndex}
use Rattle.stark_fri_soundness.specs.RunFacts.{points_apart}
use Rattle.stark_fri_proof.specs.declared.parameters.FriParameters.{FriParameters}
use Rattle.stark_fri_proof.specs.Parts.{FriProofView}
use Rattle.stark_fri.specs.Accept as fri_accept
use Rattle.stark_fri.specs.Accept.{bits_of, log_height_of}
use Rattle.stark_fri.specs.Claims.{HasWidths, height_of, round_read}
use Rattle.stark_fri.specs.Parts.{FriOps}
use Rattle.stark_fri.specs.Scheme.{claimed_of, extension_of}
use Rattle.stark_fri.specs.Soundness.{AreFields, BytesNameValues, ClaimsAreTrue, IsRadius, Shown, row_count, row_point}
use Rattle.stark_fri.specs.Transcript as transcript
use Rattle.stark_fri.specs.Words.{Words, claims_of as fri_claims_of, round_claims}
use Rattle.stark_fri.proofs.SoundSteps.{accepted_has_few, accepted_is_sound}
use Rattle.stark_over_fri.specs.Tables.{AreShown, AreSoundBesideKnown, FewBadDrawsOfTables, FitAsPreprocessed, ProverTables, SatisfiesUnlessBad, SatisfyNearTables, ShownOfTables, TablesAreSound, asked_at, chunk_count, chunks_of_round, coefficient_count, columns_beside, columns_of_rounds, opened_preprocessed, words_with}
use Rattle.stark_over_fri.proofs.BesideSteps.{beside, beside_true, first_columns, known_columns, second_matrices}
use Rattle.stark_over_fri.proofs.TableSteps.{ClaimIsTrue, chunks_fit, columns_fit, columns_take, height_is}

-- What follows of a broken trace is an alternative to one that satisfies the AIR.
satisfied_or : {F E : Type 0} (i : AirInstance F E) → FieldLaws i.ring i.inverse → (columns : Columns F E) (A : Type 0) → ((Satisfies i columns → ⊥) → A) → Satisfies i columns ⊎ A
satisfied_or i laws columns A follows =
    elim (first_broken i laws columns (height i) (omega arith)) [ inl kept ↦ inl kept | inr obtained ↦ inr (follows (λ kept. obtained.1.broken (kept obtained.0 obtained.1.in_trace))) ]

-- ---- a shape without a fault

none_wide : (width : ℕ) → nat_lt 0 width ≡ false → width ≡ 0
none_wide width e = grind (arith, e)

not_none : (width : ℕ) → width ≡ 0 → (width == 0) ≡ false → ⊥
not_none width e clear = grind (arith, e, clear)

-- Without a key no preprocessed row is opened.
pub no_key_no_rows : {E K : Type 0} (width : ℕ) (reads_next : Bool) (degree_bits : ℕ) (key : Option (PreprocessedVerifierKey K)) (rows : Option (PreprocessedView E))
    → preprocessed_fault key width reads_next degree_bits rows ≡ None → key ≡ None → rows ≡ None
no_key_no_rows width reads_next degree_bits (Some key) rows clear none = absurd (cc)
no_key_no_rows width reads_next degree_bits None None clear none = refl
no_key_no_rows {K = K} width reads_next degree_bits None (Some rows) clear none =
    let tests = preprocessed_rows_fault width reads_next (Some rows) in
    let positive : (width == 0) ≡ false = not_found (width == 0) _ (first_none (fault_if (width == 0) _) _ (first_none tests _ clear)) in
    let nothing : nat_lt 0 width ≡ false = not_found (nat_lt 0 width) _ (first_none (key_width_fault {K = K} None width) None (later_none tests _ clear)) in
    absurd (not_none width (none_wide width nothing) positive)

one_not_other : (a b : Bool) → not (a && b) ≡ false → (a ≡ true) × (b ≡ true)
one_not_other true true clear = (refl, refl)
one_not_other true false clear = absurd (cc)
one_not_other false b clear = absurd (cc)

equal_widths : (a b : ℕ) → (a == b) ≡ true → a ≡ b
equal_widths a b e = grind (arith, e)

of_height : (a b : ℕ) → not (a == b) ≡ false → a ≡ b
of_height a b e = elim (cases_Bool (a == b)) [
  | inl same ↦ equal_widths a b same
  | inr other ↦ absurd (let clash : not (a == b) ≡ true = ap not other in cc)
]

not_positive : (width : ℕ) → nat_lt 0 width ≡ true → width ≡ 0 → ⊥
not_positive width e none = grind (arith, e, none)

-- As many preprocessed values are opened as the AIR has preprocessed columns.
pub preprocessed_wide : {E K : Type 0} (width : ℕ) (reads_next : Bool) (degree_bits : ℕ) (key : Option (PreprocessedVerifierKey K)) (rows : Option (PreprocessedView E))
    → preprocessed_fault key width reads_next degree_bits rows ≡ None → length (preprocessed_local rows) ≡ width
preprocessed_wide {E = E} {K = K} width reads_next degree_bits None None clear = sym (none_wide width (not_found (nat_lt 0 width) _ (first_none (preprocessed_rows_fault {E = E} width reads_next None) _ clear)))
preprocessed_wide {E = E} {K = K} width reads_next degree_bits None (Some rows) clear =
    absurd (let clash : Some rows ≡ None = no_key_no_rows {E = E} {K = K} width reads_next degree_bits None (Some rows) clear refl in cc)
preprocessed_wide {E = E} {K = K} width reads_next degree_bits (Some key) None clear =
    let tests = preprocessed_rows_fault {E = E} key.width reads_next None in
    let nothing : nat_lt 0 key.width ≡ false = not_found (nat_lt 0 key.width) _ (first_none tests _ clear) in
    let both = one_not_other (nat_lt 0 key.width) (key.width == width) (not_found (not (nat_lt 0 key.width && key.width == width)) _ (first_none (key_width_fault (Some key) width) _ (later_none tests _ clear))) in
    absurd (not_positive key.width both.0 (none_wide key.width nothing))
preprocessed_wide {E = E} {K = K} width reads_next degree_bits (Some key) (Some rows) clear =
    let tests = preprocessed_rows_fault key.width reads_next (Some rows) in
    let both = one_not_other (nat_lt 0 key.width) (key.width == width) (not_found (not (nat_lt 0 key.width && key.width == width)) _ (first_none (key_width_fault (Some key) width) _ (later_none tests _ clear))) in
    let own = one_not_other (length rows.local == key.width) (width_of rows.next == expected_next reads_next key.width)
    (not_found (not (length rows.local == key.width && width_of rows.next == expected_next reads_next key.width)) _
    (first_none (fault_if (not (length rows.local == key.width && width_of rows.next == expected_next reads_next key.width)) _) _ (later_none (fault_if (key.width == 0) _) _ (first_none tests _ clear)))) in
    equal_widths (length rows.local) key.width own.0 ∙ equal_widths key.width width both.1

-- The quotient's domain lies in the field, so H does.
pub height_within : (log_chunks is_zk degree_bits adicity greatest : ℕ) → quotient_fault log_chunks is_zk degree_bits adicity greatest ≡ None → degree_bits - is_zk ≤ adicity
height_within log_chunks is_zk degree_bits adicity greatest clear =
    let last = later_none (fault_if (nat_le 64 (degree_bits + log_chunks)) _) _ (later_none (fault_if (nat_le 64 (log_chunks + is_zk)) _) _ clear) in
    let obtained : nat_lt adicity (degree_bits + log_chunks) ≡ false = not_found (nat_lt adicity (degree_bits + log_chunks)) _ last in
    grind (arith, obtained)

pub no_random : {K R X : Type 0} (is_zk : Bool) (commitment : Option K) (row : Option R) → is_zk ≡ false → randomization_fault {X = X} is_zk commitment row ≡ None → commitment ≡ None
no_random true commitment row plain clear = absurd (cc)
no_random false None row plain clear = refl
no_random false (Some commitment) row plain clear = absurd (cc)

-- ---- places

pub more_than_height : (e d n s : ℕ) → 2 * e + d < n → n ≤ s + e → suc d ≤ s
more_than_height e d n s h k = omega arith

pub points_are_apart : {C F E : Type 0} (fri : FriOps C F E) (are : AreFields fri.fields) (asked : transcript.Instance C F E) → bits_of fri asked ≤ fri.fields.adicity → ArePointsApart (row_count fri asked) (row_point fri asked)
points_are_apart fri are asked within =
    points_apart are.base fri.fields.adicity fri.fields.root fri.fields.generator are.two_adic (extension_of fri.fields.generator (bits_of fri asked)) (record { shift_nonzero = are.two_adic.generator_nonzero; within = within })

-- ---- the configuration's scheme is FRI

-- It masks nothing, computes in the same extension, and accepts what FRI does; fields and bytes keep their laws.
pub record IsByFri {S F E C T P X Y : Type 0} (ops : ProtocolOps S F E C Root T P X Y) (fri : FriOps C F E) (parameters_of : S → FriParameters) (proof_of : P → FriProofView F E) : Type 0 where
  pub plain : ops.opening.is_zk ≡ false
  pub ring : fri.fields.ring ≡ ops.opening.fields.ring
  pub embed : fri.fields.embed ≡ ops.opening.fields.embed
  pub accepts : (s : S) (asked : List (RoundClaim F E Root)) (proof : P) (state : C) (index : Option ℕ) → ops.opening.scheme.Accepts s asked proof state index
      → fri_accept.Accepted fri (claimed_of (parameters_of s) asked (proof_of proof) state)
  pub fields : AreFields fri.fields
  pub bytes : BytesNameValues fri.fields fri.hash
  pub laws : FieldLaws ops.opening.fields.ring ops.opening.fields.inverse
  pub embeds : IsEmbedding ops.opening.fields.base ops.opening.fields.ring ops.opening.fields.embed
  pub two_adic : TwoAdicLaws ops.opening.fields.base ops.opening.fields.adicity ops.opening.fields.root ops.opening.fields.generator

module _ {S F E C T P X Y : Type 0} (ops : ProtocolOps S F E C Root T P X Y) (fri : FriOps C F E) (parameters_of : S → FriParameters) (proof_of : P → FriProofView F E) (i : Instance S F C Root) (p : ProofView Root E P F)
    (by : IsByFri ops fri parameters_of proof_of) (accepted : Accepted ops i p) where
  key_clear : key_fault ops i p ≡ None
  key_clear = shape_clear {X = X} _ (first_none (of_shape (key_fault ops i p)) _ (later_none (of_shape (height_fault ops i p)) _ accepted.shape))

  -- A key is of the proof's height.
  pub key_has_height : (key : PreprocessedVerifierKey Root) → i.key ≡ Some key → key.degree_bits ≡ p.degree_bits
  key_has_height key is =
      let tests = preprocessed_rows_fault (width_in_force i.key i.layout.preprocessed) (opens_next_row i.preprocessed_next_columns) p.opened_values.preprocessed in
      let clear : key_degree_fault i.key p.degree_bits ≡ None = later_none (key_width_fault i.key i.layout.preprocessed) _ (later_none tests _ key_clear) in
      let own : key_degree_fault (Some key) p.degree_bits ≡ None = subst (λ k. key_degree_fault k p.degree_bits ≡ None) is clear in
      of_height key.degree_bits p.degree_bits (not_found (not (key.degree_bits == p.degree_bits)) _ own)

  -- A key is of some columns.
  pub key_has_columns : (key : PreprocessedVerifierKey Root) → i.key ≡ Some key → nat_lt 0 key.width ≡ true
  key_has_columns key is =
      let width = i.layout.preprocessed in
      let tests = preprocessed_rows_fault (width_in_force i.key width) (opens_next_row i.preprocessed_next_columns) p.opened_values.preprocessed in
      let clear : key_width_fault i.key width ≡ None = first_none (key_width_fault i.key width) _ (later_none tests _ key_clear) in
      let own : key_width_fault (Some key) width ≡ None = subst (λ k. key_width_fault k width ≡ None) is clear in
      (one_not_other (nat_lt 0 key.width) (key.width == width) (not_found (not (nat_lt 0 key.width && key.width == width)) _ own)).0

  pub random : p.commitments.random ≡ None
  random = no_random {X = X} ops.opening.is_zk p.commitments.random p.opened_values.random by.plain
      (first_none (randomization_fault ops.opening.is_zk p.commitments.random p.opened_values.random) _ (later_none (of_shape (domain_fault ops i p)) _ (later_none (of_shape (key_fault ops i p)) _ (later_none (of_shape (height_fault ops i p)) _ accepted.shape))))

  pub within_field : log_height ops.opening.is_zk p.degree_bits ≤ ops.opening.fields.adicity
  within_field = height_within (log_parts ops i p) (zk_bits ops.opening.is_zk) p.degree_bits ops.opening.fields.adicity (ops.opening.scheme.log_max_trace_height i.scheme)
      (shape_clear {X = X} _ (first_none (of_shape (domain_fault ops i p)) _ (later_none (of_shape (key_fault ops i p)) _ (later_none (of_shape (height_fault ops i p)) _ accepted.shape))))

  group_closes : power ops.opening.fields.ring (ops.opening.fields.embed (ops.opening.fields.root (log_height ops.opening.is_zk p.degree_bits))) (2 ^ log_height ops.opening.is_zk p.degree_bits) ≡ ops.opening.fields.ring.one
  group_closes =
      let fields = ops.opening.fields in
      (root_has_order by.laws fields.adicity (λ n. fields.embed (fields.root n)) (fields.embed fields.generator) (embedded_two_adic by.embeds fields.adicity fields.root fields.generator by.two_adic)
      (log_height ops.opening.is_zk p.degree_bits) within_field).reaches

  module _ (alpha zeta : E) (drawn : (challenges ops i p).answer ≡ Ok (alpha, zeta)) where
    fri_accepts : fri_accept.Accepted fri (asked_at ops fri parameters_of proof_of i p zeta)
    fri_accepts = subst (λ z. fri_accept.Accepted fri (asked_at ops fri parameters_of proof_of i p z)) (same_drawn (challenges ops i p).answer accepted.alpha accepted.zeta alpha zeta accepted.run.drawn drawn).1
        (by.accepts i.scheme (claims ops.opening i.key p accepted.zeta) p.opening_proof (challenges ops i p).state (preprocessed_place ops.opening.is_zk i.key) accepted.run.opened.accepted)

    abbrev coset : TwoAdicCoset F
    coset = natural_coset ops.opening.fields.base p.degree_bits

    abbrev next : E
    next = next_point (proved_air ops i p) ops.opening.fields.ring (λ c. c) zeta

    -- the claims, where there is a random commitment or none
    abbrev claims_with : Option Root → List (RoundClaim F E Root)
    claims_with commitment = claims_of coset zeta next i.key p.commitments.trace p.commitments.quotient_chunks commitment p.opened_values

    pub height_is_claimed : height_of (map round_read (claims_with p.commitments.random)) ≡ p.degree_bits
    height_is_claimed = ap (λ commitment. height_of (map round_read (claims_with commitment))) random ∙ height_is coset zeta next i.key p.commitments.trace p.commitments.quotient_chunks p.opened_values

    -- True claims, where there is no random commitment, are of polynomials that take the opened values.
    module _ (polynomials : ColumnIndex → List F) (true_of_proof : AllByRecursion (ClaimIsTrue polynomials fri.fields.ring fri.fields.embed) (fri_claims_of (map round_read (claims_with p.commitments.random)))) where
      widths : AllByRecursion HasWidths (map round_read (claims_with None))
      widths = subst (λ commitment. AllByRecursion HasWidths (map round_read (claims_with commitment))) random fri_accepts.shape.claims.widths

      are_true : AllByRecursion (ClaimIsTrue polynomials ops.opening.fields.ring ops.opening.fields.embed) (round_claims 0 (map round_read (claims_with None)))
      are_true =
          let fields = ops.opening.fields in
          subst (λ commitment. AllByRecursion (ClaimIsTrue polynomials fields.ring fields.embed) (round_claims 0 (map round_read (claims_with commitment)))) random
          (subst (λ embed. AllByRecursion (ClaimIsTrue polynomials fields.ring embed) (round_claims 0 (map round_read (claims_with p.commitments.random)))) by.embed
          (subst (λ ring. AllByRecursion (ClaimIsTrue polynomials ring fri.fields.embed) (round_claims 0 (map round_read (claims_with p.commitments.random)))) by.ring true_of_proof))

      abbrev own_columns : Columns F E
      own_columns = columns_of_rounds polynomials ops.opening.fields.embed p.opened_values i.public_values

      abbrev own_chunks : List (List (List E))
      own_chunks = chunks_of_round polynomials ops.opening.fields.embed p.opened_values

      satisfied : BreakingNeedsBadChallenges ops i p → SatisfiesUnlessBad ops fri parameters_of proof_of i p alpha zeta own_columns own_chunks
      satisfied breaking =
          satisfied_or (proved_air ops i p) by.laws own_columns _
          (breaking alpha zeta drawn own_columns own_chunks refl
          (columns_take (proved_air ops i p) polynomials coset zeta i.key p.commitments.trace p.commitments.quotient_chunks p.opened_values i.public_values
          (no_key_no_rows i.layout.preprocessed (opens_next_row i.preprocessed_next_columns) p.degree_bits i.key p.opened_values.preprocessed key_clear) widths are_true))

    abbrev asked : transcript.Instance C F E
    asked = asked_at ops fri parameters_of proof_of i p zeta

    abbrev opened_columns : (ColumnIndex → List F) → List (List F)
    opened_columns polynomials = opened_preprocessed polynomials p.opened_values

    module _ (words : Words F E) (e : ℕ) (near : ClaimsAreTrue fri asked words e) where
      abbrev polynomials : ColumnIndex → List F
      polynomials = near.hold.polynomials

      degrees : (column : ColumnIndex) → HasDegreeBelow (coefficient_count ops fri parameters_of proof_of i p) (polynomials column)
      degrees column = subst (λ bits. HasDegreeBelow (suc (2 ^ bits)) (polynomials column)) height_is_claimed (near.hold.degrees column)

      satisfy_near : BreakingNeedsBadChallenges ops i p → SatisfyNearTables ops fri parameters_of proof_of i p alpha zeta words e opened_columns
      satisfy_near breaking =
          let opened = p.opened_values in
          let embed = ops.opening.fields.embed in
          record {
            near = near;
            columns = own_columns polynomials near.hold.are_true;
            chunks = own_chunks polynomials near.hold.are_true;
            columns_are = refl;
            chunks_are = refl;
            columns_fit = columns_fit polynomials _ degrees embed opened i.public_values;
            chunks_fit = chunks_fit polynomials _ degrees embed opened;
            satisfy = satisfied polynomials near.hold.are_true breaking;
          }

    -- With known columns as those of the third round.
    module _ (known : List (List F)) (fit : FitAsPreprocessed ops fri parameters_of proof_of i p known) (tables : ProverTables F E) (e : ℕ) (radius : IsRadius fri asked e) where
      abbrev words_there : Words F E
      words_there = words_with ops fri parameters_of proof_of i p zeta known tables

      known_fit : AllByRecursion (HasDegreeBelow (suc (2 ^ log_height_of fri asked))) known
      known_fit = subst (λ bits. AllByRecursion (HasDegreeBelow (suc (2 ^ bits))) known) (sym height_is_claimed) fit.degrees

      satisfy_beside : ClaimsAreTrue fri asked words_there e → BreakingNeedsBadChallenges ops i p → SatisfyNearTables ops fri parameters_of proof_of i p alpha zeta words_there e (λ polynomials. known)
      satisfy_beside near breaking =
          let opened = p.opened_values in
          let embed = ops.opening.fields.embed in
          let public_values = i.public_values in
          let own = near.hold.polynomials in
          let bounds = degrees words_there e near in
          let enough = more_than_height e (2 ^ log_height_of fri asked) (row_count fri asked) (count (row_count fri asked) near.places) radius near.many in
          let true_beside = beside_true fri.fields by.fields.extension by.fields.embeds (row_point fri asked) (row_count fri asked) (suc (2 ^ log_height_of fri asked)) (points_are_apart fri by.fields asked fri_accepts.shape.claims.within)
          near.places enough known known_fit tables (fri_claims_of asked.rounds) near.hold in
          let same_known : opened_preprocessed (beside own known) opened ≡ known
          = known_columns own known (preprocessed_local opened.preprocessed) (preprocessed_wide i.layout.preprocessed (opens_next_row i.preprocessed_next_columns) p.degree_bits i.key p.opened_values.preprocessed key_clear ∙ sym fit.number) in
          let columns_same : columns_of_rounds (beside own known) embed opened public_values ≡ columns_beside own embed opened known public_values
          = ap (λ columns. record { main = embedded_polynomials embed columns; preprocessed = embedded_polynomials embed (opened_preprocessed (beside own known) opened); public_values = public_values }) (first_columns own known 0 opened.trace_local)
          ∙ ap (λ preprocessed. columns_beside own embed opened preprocessed public_values) same_known in
          let chunks_same : chunks_of_round (beside own known) embed opened ≡ chunks_of_round own embed opened = ap (map (embedded_polynomials embed)) (second_matrices own known 0 opened.quotient_chunks) in
          record {
            near = near;
            columns = columns_beside own embed opened known public_values;
            chunks = chunks_of_round own embed opened;
            columns_are = refl;
            chunks_are = refl;
            columns_fit = record { main = (columns_fit own _ bounds embed opened public_values).main; preprocessed = embedded_fit embed _ known fit.degrees };
            chunks_fit = chunks_fit own _ bounds embed opened;
            satisfy = subst (SatisfiesUnlessBad ops fri parameters_of proof_of i p alpha zeta (columns_beside own embed opened known public_values)) chunks_same
                (subst (λ columns. SatisfiesUnlessBad ops fri parameters_of proof_of i p alpha zeta columns (chunks_of_round (beside own known) embed opened)) columns_same (satisfied (beside own known) true_beside breaking));
          }

    shown_by : (words : Words F E) (e : ℕ) (preprocessed_of : (ColumnIndex → List F) → List (List F)) → (ClaimsAreTrue fri asked words e → SatisfyNearTables ops fri parameters_of proof_of i p alpha zeta words e preprocessed_of)
        → Shown fri asked words e → ShownOfTables ops fri parameters_of proof_of i p alpha zeta words e preprocessed_of
    shown_by words e preprocessed_of satisfy (Shown.claims_are_true near) = ShownOfTables.columns_satisfy (satisfy near)
    shown_by words e preprocessed_of satisfy (Shown.alpha_is_bad bad) = ShownOfTables.batch_is_bad bad
    shown_by words e preprocessed_of satisfy (Shown.beta_is_bad bad) = ShownOfTables.fold_is_bad bad
    shown_by words e preprocessed_of satisfy (Shown.few_places_pass few) = ShownOfTables.few_places_pass few
    shown_by words e preprocessed_of satisfy (Shown.digests_collide collision) = ShownOfTables.digests_collide collision

  tables_are_sound : BreakingNeedsBadChallenges ops i p → TablesAreSound ops fri parameters_of proof_of i p
  tables_are_sound breaking alpha zeta drawn words lead e radius =
      shown_by alpha zeta drawn words e _ (λ near. satisfy_near alpha zeta drawn words e near breaking)
      (accepted_is_sound fri by.fields (asked_at ops fri parameters_of proof_of i p zeta) by.bytes (fri_accepts alpha zeta drawn) words lead e radius)

  tables_are_sound_beside : BreakingNeedsBadChallenges ops i p → AreSoundBesideKnown ops fri parameters_of proof_of i p
  tables_are_sound_beside breaking known fit alpha zeta drawn tables lead e radius =
      shown_by alpha zeta drawn (words_with ops fri parameters_of proof_of i p zeta known tables) e _ (λ near. satisfy_beside alpha zeta drawn known fit tables e radius near breaking)
      (accepted_is_sound fri by.fields (asked_at ops fri parameters_of proof_of i p zeta) by.bytes (fri_accepts alpha zeta drawn) (words_with ops fri parameters_of proof_of i p zeta known tables) lead e radius)

  tables_have_few : FewBadDrawsOfTables ops fri parameters_of proof_of i p
  tables_have_few alpha zeta drawn words lead e radius = record {
    of_fri = accepted_has_few fri by.fields (asked_at ops fri parameters_of proof_of i p zeta) (fri_accepts alpha zeta drawn) words lead.folds e radius;
    of_stark = few_bad_draws (proved_air ops i p) by.laws group_closes (coefficient_count ops fri parameters_of proof_of i p) (chunk_count ops fri parameters_of proof_of i p);
    shifts = length-map-range_with_len _ 0 (chunk_count ops fri parameters_of proof_of i p);
  }

  pub accepted_are_shown : BreakingNeedsBadChallenges ops i p → AreShown ops fri parameters_of proof_of i p
  accepted_are_shown breaking = record { sound = tables_are_sound breaking; beside = tables_are_sound_beside breaking; few = tables_have_few }

-- ---- answers

-- What follows of two facts on an answer Ok.
pub both_on_ok : {A E : Type 0} (r : Result A E) (P Q R : Type 0) → (P → Q → R) → OnOk r P → OnOk r Q → OnOk r R
both_on_ok (Ok a) P Q R follows p q = follows p q
both_on_ok (Err e) P Q R follows p q = tt

pub of_shown : {A E : Type 0} (r : Result A E) (P Q : Type 0) → (P → Q) → OnOk r P → OnOk r Q
of_shown (Ok a) P Q follows p = follows p
of_shown (Err e) P Q follows p = tt
