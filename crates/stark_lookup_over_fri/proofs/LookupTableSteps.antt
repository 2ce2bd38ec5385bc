-- An accepted proof with lookups by FRI is sound for all tables that lead to its roots.
use Rattle.std.proofs.Common.{◌≡◌, ◌∙◌, ap, refl, sym, subst, arith, ℕ, suc, ◌+◌, ◌*◌, ◌-◌, ◌^◌, ◌≤◌, ◌==◌, Bool, false, List, [], ◌∷◌, ◌++◌, length, map, take, drop, Option, None, Some, option_map, Ok}
use Rattle.std.proofs.lemmas.Bool.{and_parts, eqb-true}
use Rattle.std.proofs.lemmas.List.{length-map, length-take-le, map-append}
use Rattle.std.proofs.lemmas.List.FromFn.{length-map-range_with_len}
use Rattle.std.specs.List.{AllByRecursion}
use Rattle.stark_support.specs.Claims.{RoundClaim}
use Rattle.stark_support.specs.Coset.{TwoAdicCoset}
use Rattle.stark_support.specs.CosetFacts.{root_has_order}
use Rattle.stark_support.specs.Embedding.{IsEmbedding, embedded_two_adic}
use Rattle.stark_support.specs.OptionFacts.{both_none, first_none, later_none}
use Rattle.stark_support.specs.Polynomial.{HasDegreeBelow}
use Rattle.stark_support.specs.Powers.{power}
use Rattle.stark_support.specs.Ring.{FieldLaws, RingOps}
use Rattle.stark_support.specs.Scheme.{natural_coset, zk_bits}
use Rattle.stark_support.specs.TwoAdic.{TwoAdicLaws}
use Rattle.stark_merkle.specs.declared.root.Root.{Root}
use Rattle.stark_parts.specs.declared.config.StarkConfig.{StarkConfig}
use Rattle.stark_transcript.specs.Shape.{opens_next_row}
use Rattle.stark_transcript.specs.declared.error.InvalidProofShapeError.TheVariants.{OpenedValuesDimensionMismatch}
use Rattle.stark_proof.specs.ProofView.{OpeningsView, ProofView}
use Rattle.stark_security.specs.BadValues.{ColumnsFit}
use Rattle.stark_security.specs.ConstraintPolynomial.{Columns, height, next_point}
use Rattle.stark_security.proofs.ErrorBoundSteps.{few_bad_draws}
use Rattle.stark_protocol.specs.Acceptance.{Accepted, challenges, domain_fault, height_fault, key_fault, log_parts, of_shape, preprocessed_local, values_fault}
use Rattle.stark_protocol.specs.AcceptanceFacts.{same_drawn}
use Rattle.stark_protocol.specs.Instance.{Instance, log_height}
use Rattle.stark_protocol.specs.OpenedClaims.{chunks_round, claims, claims_of, preprocessed_place, preprocessed_rounds}
use Rattle.stark_protocol.specs.ShapeFaults.{dimensions_fault, opened_fault, preprocessed_fault, public_values_fault, randomization_fault, trace_next_fault}
use Rattle.stark_protocol.specs.declared.preprocessed.PreprocessedVerifierKey.{PreprocessedVerifierKey}
use Rattle.stark_tree_air.specs.declared.air.TreeAir.{TreeAir}
use Rattle.stark_verifier.specs.TakenValues.{TakeOpenedValues, embedded_polynomials}
use Rattle.stark_verifier.proofs.ShapeSteps.{met}
use Rattle.stark_verifier.proofs.TakenValueSteps.{embedded_fit}
use Rattle.stark_verifier.proofs.SoundAcceptanceSteps.{shape_clear}
use Rattle.stark_fri_soundness.specs.Agreement.{count}
use Rattle.stark_fri_soundness.specs.Claims.{ColumnIndex}
use Rattle.stark_fri_proof.specs.declared.parameters.FriParameters.{FriParameters}
use Rattle.stark_fri_proof.specs.Parts.{FriProofView}
use Rattle.stark_fri.specs.Accept as fri_accept
use Rattle.stark_fri.specs.Accept.{log_height_of}
use Rattle.stark_fri.specs.Claims.{HasWidths, first_height, height_of, round_read}
use Rattle.stark_fri.specs.Parts.{FriOps}
use Rattle.stark_fri.specs.Scheme.{claimed_of}
use Rattle.stark_fri.specs.Soundness.{AreFields, BytesNameValues, ClaimsAreTrue, IsRadius, LeadToRoots, Shown, row_count, row_point}
use Rattle.stark_fri.specs.Transcript as transcript
use Rattle.stark_fri.specs.Words.{Words, claims_of as fri_claims_of, round_claims}
use Rattle.stark_fri.proofs.SoundSteps.{accepted_has_few, accepted_is_sound}
use Rattle.stark_over_fri.specs.Tables.{chunks_of_round, columns_for, columns_of_rounds, opened_preprocessed}
use Rattle.stark_over_fri.proofs.AcceptedSteps.{height_within, more_than_height, no_key_no_rows, no_random, points_are_apart, preprocessed_wide}
use Rattle.stark_over_fri.proofs.TableSteps.{ClaimIsTrue, chunks_fit, columns_fit, columns_take}
use Rattle.stark_two_part.specs.InParts.{parted_claims}
use Rattle.stark_two_part.specs.declared.in_parts.InParts.{InParts}
use Rattle.stark_two_part.specs.declared.in_parts.InParts.TheVariants.{Parts}
use Rattle.stark_two_part.specs.declared.pcs.TwoPartPcs.{TwoPartPcs}
use Rattle.stark_lookup.specs.LookupDraws.{after_both}
use Rattle.stark_lookup.specs.LookupSound.{FalseNeedsBadDraws, NeedsBadDraws, TakeValues, extended_rows, with_auxiliary}
use Rattle.stark_lookup.specs.LookupVerdict.{LookupAccepted, LookupGiven, LookupOps, extended_instance, extended_proof, in_parts_from, values_after, whole_key, worked_state}
use Rattle.stark_lookup.specs.OwnLookups.{IsExtended}
use Rattle.stark_lookup.specs.declared.air.LookupAir.{LookupAir}
use Rattle.stark_lookup.specs.declared.proof.LookupProof.{LookupProof}
use Rattle.stark_lookup_over_fri.specs.LookupTables.{BalanceNearTables, FewDrawsOfLookupTables, FitAsPreprocessed, LookupTablesAreSound, OfTables, ShownOfLookupTables, asked_at, auxiliary_columns, chunk_count, chunks_joined, claims_at, coefficient_count, commitments_at, joined_at, own_columns, own_width, preprocessed_joined, preprocessed_round, words_with}
use Rattle.stark_lookup_over_fri.specs.PlacesInParts.{in_parts_from as index_in_parts, joined_polynomials}
use Rattle.stark_lookup_over_fri.proofs.KnownSteps.{chunks_elsewhere, columns_of_others, first_elsewhere, known_joined, known_true, second_elsewhere, with_known}
use Rattle.stark_lookup_over_fri.proofs.PartSteps.{columns_in_parts, front_claim, front_claims, front_key, front_root, joined_true, joined_widths, none_before}

-- ---- the trace's width

trace_is_wide : {E : Type 0} (expected public_values : ℕ) (reads_next : Bool) (width count dimension : ℕ) (opened : OpeningsView E) (alpha_bits : ℕ) (alpha_is_zero : Bool) (bits : ℕ) (is_zero : Bool)
    → opened_fault expected public_values reads_next width count dimension opened alpha_bits alpha_is_zero bits is_zero ≡ None → length opened.trace_local ≡ width
trace_is_wide expected public_values reads_next width count dimension opened alpha_bits alpha_is_zero bits is_zero clear =
    let past_values = (both_none (public_values_fault expected public_values) _ clear).1 in
    let past_next = (both_none (trace_next_fault reads_next width opened.trace_next) _ past_values).1 in
    eqb-true (length opened.trace_local) width (and_parts (length opened.trace_local == width) _ (met _ OpenedValuesDimensionMismatch (both_none (dimensions_fault width count dimension opened.trace_local opened.quotient_chunks opened.random) _ past_next).0)).0

same_main : {K : Type 0} {t : InParts K} {k l m n : K} → t ≡ Parts k l → t ≡ Parts m n → k ≡ m
same_main e f = cc

unmapped : {A B : Type 0} (f : A → B) (o : Option A) → option_map f o ≡ None → o ≡ None
unmapped f None none = refl
unmapped f (Some x) none = absurd (cc)

module _ {F E : Type 0} (coset : TwoAdicCoset F) (zeta next : E) (key : Option (PreprocessedVerifierKey (InParts Root))) (main others : Root) (quotient_chunks : InParts Root) (opened : OpeningsView E) (first : ℕ) where
  pub parted_height : height_of (map round_read (parted_claims first (claims_of coset zeta next key (Parts main others) quotient_chunks None opened))) ≡ coset.log_size
  unfolding first_height
  parted_height = refl

-- as many columns as values
columns_counted : {F E : Type 0} (polynomials : ColumnIndex → List F) (round matrix number : ℕ) (row : List E) → length (columns_for polynomials round matrix number row) ≡ length row
columns_counted polynomials round matrix number [] = refl
columns_counted polynomials round matrix number (v ∷ row) = ap suc (columns_counted polynomials round matrix (suc number) row)

-- ---- the configuration's scheme is FRI

-- An instance has the configuration's scheme, this key and as many main columns as the AIR.
pub record InstanceHas {S F E C K : Type 0} (config : StarkConfig (TwoPartPcs S) E C) (air : TreeAir F) (key : Option (PreprocessedVerifierKey (InParts K))) (i : Instance (TwoPartPcs S) F C (InParts K)) : Type 0 where
  pub scheme : i.scheme ≡ config.pcs
  pub key_is : i.key ≡ key
  pub main : i.layout.main ≡ air.declaration.columns.width

-- It masks nothing, computes in the same extension, and accepts what FRI does of the claims on each part; fields and bytes keep their laws.
pub record AreByFri {S F E C T P X Y : Type 0} (ops : LookupOps S F E C Root T P X Y) (fri : FriOps C F E) (parameters_of : S → FriParameters) (proof_of : P → FriProofView F E) : Type 0 where
  pub plain : ops.inner.opening.is_zk ≡ false
  pub ring : fri.fields.ring ≡ ops.inner.opening.fields.ring
  pub embed : fri.fields.embed ≡ ops.inner.opening.fields.embed
  pub accepts : (s : TwoPartPcs S) (asked : List (RoundClaim F E (InParts Root))) (proof : P) (state : C) (index : Option ℕ) → ops.inner.opening.scheme.Accepts s asked proof state index
      → fri_accept.Accepted fri (claimed_of (parameters_of s.inner) (parted_claims s.first_width asked) (proof_of proof) state)
  pub fields : AreFields fri.fields
  pub bytes : BytesNameValues fri.fields fri.hash
  pub laws : FieldLaws ops.inner.opening.fields.ring ops.inner.opening.fields.inverse
  pub embeds : IsEmbedding ops.inner.opening.fields.base ops.inner.opening.fields.ring ops.inner.opening.fields.embed
  pub two_adic : TwoAdicLaws ops.inner.opening.fields.base ops.inner.opening.fields.adicity ops.inner.opening.fields.root ops.inner.opening.fields.generator
  pub instance_has : (config : StarkConfig (TwoPartPcs S) E C) (air : TreeAir F) (values : List F) (key : Option (PreprocessedVerifierKey (InParts Root))) → InstanceHas config air key (ops.instance config air values key)

module _ {S F E C T P X Y : Type 0} (ops : LookupOps S F E C Root T P X Y) (fri : FriOps C F E) (parameters_of : S → FriParameters) (proof_of : P → FriProofView F E) (given : LookupGiven S F E C Root) (p : LookupProof Root E P F)
    (by : AreByFri ops fri parameters_of proof_of) (wider : own_width given ≤ given.air.extended.declaration.columns.width) (main others : Root) (parted : p.inner.commitments.trace ≡ Parts main others)
    (accepted : Accepted ops.inner (extended_instance ops given p main) (extended_proof ops given p)) where
  abbrev i : Instance (TwoPartPcs S) F C (InParts Root)
  i = extended_instance ops given p main

  abbrev view : ProofView (InParts Root) E P F
  view = extended_proof ops given p

  abbrev opened : OpeningsView E
  opened = view.opened_values

  abbrev embed : F → E
  embed = ops.inner.opening.fields.embed

  abbrev config : StarkConfig (TwoPartPcs S) E C
  config = in_parts_from given.config (own_width given) (after_both ops.sponge.after_draw (worked_state ops given p main))

  has : InstanceHas config given.air.extended (option_map whole_key given.key) i
  has = by.instance_has config given.air.extended (values_after ops given p main) (option_map whole_key given.key)

  key_clear : key_fault ops.inner i view ≡ None
  key_clear = shape_clear {X = X} _ (first_none (of_shape (key_fault ops.inner i view)) _ (later_none (of_shape (height_fault ops.inner i view)) _ accepted.shape))

  domain_clear : domain_fault ops.inner i view ≡ None
  domain_clear = shape_clear {X = X} _ (first_none (of_shape (domain_fault ops.inner i view)) _ (later_none (of_shape (key_fault ops.inner i view)) _ (later_none (of_shape (height_fault ops.inner i view)) _ accepted.shape)))

  values_clear : values_fault ops.inner i view ≡ None
  values_clear =
      shape_clear {X = X} _ (later_none (randomization_fault ops.inner.opening.is_zk view.commitments.random view.opened_values.random) _ (later_none (of_shape (domain_fault ops.inner i view)) _
      (later_none (of_shape (key_fault ops.inner i view)) _ (later_none (of_shape (height_fault ops.inner i view)) _ accepted.shape))))

  random : view.commitments.random ≡ None
  random = no_random {X = X} ops.inner.opening.is_zk view.commitments.random opened.random by.plain
      (first_none (randomization_fault ops.inner.opening.is_zk view.commitments.random opened.random) _ (later_none (of_shape (domain_fault ops.inner i view)) _
      (later_none (of_shape (key_fault ops.inner i view)) _ (later_none (of_shape (height_fault ops.inner i view)) _ accepted.shape))))

  -- the row has the columns of both parts
  at_least_own : own_width given ≤ length opened.trace_local
  at_least_own =
      let wide : length opened.trace_local ≡ i.layout.main = trace_is_wide i.layout.public_values (length i.public_values) (opens_next_row i.main_next_columns) i.layout.main _ _ opened i.constraint_bits
      (ops.inner.opening.fields.same view.alpha_pow_witness ops.inner.opening.fields.base.zero) i.ood_bits (ops.inner.opening.fields.same view.ood_pow_witness ops.inner.opening.fields.base.zero) values_clear in
      let same = wide ∙ has.main in
      omega (arith, same, wider)

  group_closes : power ops.inner.opening.fields.ring (embed (ops.inner.opening.fields.root (log_height ops.inner.opening.is_zk view.degree_bits))) (2 ^ log_height ops.inner.opening.is_zk view.degree_bits) ≡ ops.inner.opening.fields.ring.one
  group_closes =
      let fields = ops.inner.opening.fields in
      (root_has_order by.laws fields.adicity (λ n. fields.embed (fields.root n)) (fields.embed fields.generator) (embedded_two_adic by.embeds fields.adicity fields.root fields.generator by.two_adic)
      (log_height ops.inner.opening.is_zk view.degree_bits)
      (height_within (log_parts ops.inner i view) (zk_bits ops.inner.opening.is_zk) view.degree_bits fields.adicity (ops.inner.opening.scheme.log_max_trace_height i.scheme) domain_clear)).reaches

  module _ (alpha zeta : E) (drawn : (challenges ops.inner i view).answer ≡ Ok (alpha, zeta)) where
    abbrev asked : transcript.Instance C F E
    asked = asked_at ops fri parameters_of proof_of given p main zeta

    abbrev coset : TwoAdicCoset F
    coset = natural_coset ops.inner.opening.fields.base view.degree_bits

    abbrev next : E
    next = next_point (extended_rows ops given p main) ops.inner.opening.fields.ring (λ c. c) zeta

    abbrev key : Option (PreprocessedVerifierKey (InParts Root))
    key = option_map whole_key given.key

    -- The claims of a trace and a random commitment.
    abbrev claims_with : InParts Root → Option (InParts Root) → List (RoundClaim F E (InParts Root))
    claims_with trace commitment = claims_of coset zeta next key trace view.commitments.quotient_chunks commitment opened

    claims_are : claims_at ops given p zeta ≡ claims_with (Parts main others) None
    claims_are = ap (λ commitment. claims_with view.commitments.trace commitment) random ∙ ap (λ trace. claims_with trace None) parted

    fri_accepts : fri_accept.Accepted fri asked
    fri_accepts =
        let width = own_width given in
        let state = (challenges ops.inner i view).state in
        let place = preprocessed_place ops.inner.opening.is_zk i.key in
        let same = (same_drawn (challenges ops.inner i view).answer accepted.alpha accepted.zeta alpha zeta accepted.run.drawn drawn).1 in
        let accepts : ops.inner.opening.scheme.Accepts i.scheme (claims ops.inner.opening i.key view zeta) view.opening_proof state place
        = subst (λ z. ops.inner.opening.scheme.Accepts i.scheme (claims ops.inner.opening i.key view z) view.opening_proof state place) same accepted.run.opened.accepted in
        subst (λ k. fri_accept.Accepted fri (claimed_of (parameters_of given.config.pcs) (parted_claims width (claims ops.inner.opening k view zeta)) (proof_of view.opening_proof) state)) has.key_is
        (subst (λ (s : TwoPartPcs S). fri_accept.Accepted fri (claimed_of (parameters_of s.inner) (parted_claims s.first_width (claims ops.inner.opening i.key view zeta)) (proof_of view.opening_proof) state)) has.scheme
        (by.accepts i.scheme (claims ops.inner.opening i.key view zeta) view.opening_proof state place accepts))

    -- the first commitment is the trace's
    abbrev later_commitments : List (InParts Root)
    later_commitments = map (λ claim. claim.0) (chunks_round view.commitments.quotient_chunks coset zeta opened.quotient_chunks ∷ preprocessed_rounds coset zeta next key opened.preprocessed)

    abbrev later_keys : List (InParts Root)
    later_keys = map (λ claim. claim.0) (preprocessed_rounds coset zeta next key opened.preprocessed)

    commitments_are : commitments_at ops given p zeta ≡ Parts main others ∷ later_commitments
    commitments_are = ap (map (λ claim. claim.0)) claims_are

    height_is_claimed : height_of asked.rounds ≡ view.degree_bits
    height_is_claimed = rw claims_are (parted_height coset zeta next key main others view.commitments.quotient_chunks opened (own_width given))

    module _ (polynomials : ColumnIndex → List F) (true_of_proof : AllByRecursion (ClaimIsTrue polynomials fri.fields.ring fri.fields.embed) (fri_claims_of asked.rounds)) where
      abbrev width : ℕ
      width = own_width given

      abbrev joined : ColumnIndex → List F
      joined = joined_at ops given p zeta polynomials

      abbrev own : Columns F E
      own = own_columns ops given p polynomials (preprocessed_joined ops given p zeta polynomials)

      abbrev more : List (List E)
      more = auxiliary_columns ops given p polynomials

      abbrev chunks : List (List (List E))
      chunks = chunks_joined ops given p zeta polynomials

      -- the columns of the trace, in two parts
      parted_columns : columns_for joined 0 0 0 opened.trace_local ≡ columns_for polynomials 0 0 0 (take width opened.trace_local) ++ columns_for polynomials 1 0 0 (drop width opened.trace_local)
      parted_columns =
          ap (λ ks. columns_for (joined_polynomials width ks polynomials) 0 0 0 opened.trace_local) commitments_are
          ∙ columns_in_parts width main others later_commitments polynomials 0 width opened.trace_local (none_before width)

      columns_same : (public_values : List F) → columns_of_rounds joined embed opened public_values ≡ record { main = own.main ++ more; preprocessed = own.preprocessed; public_values = public_values }
      columns_same public_values =
          ap (λ cs. record { main = cs; preprocessed = own.preprocessed; public_values = public_values })
          (ap (embedded_polynomials embed) parted_columns ∙ map-append (map embed) (columns_for polynomials 0 0 0 (take width opened.trace_local)) (columns_for polynomials 1 0 0 (drop width opened.trace_local)))

      claims_true : AllByRecursion (ClaimIsTrue joined ops.inner.opening.fields.ring embed) (round_claims 0 (map round_read (map front_claim (claims_with (Parts main others) None))))
      claims_true =
          let fields = ops.inner.opening.fields in
          let there = joined_true fri.fields.ring fri.fields.embed width polynomials (claims_at ops given p zeta) true_of_proof in
          subst (λ cs. AllByRecursion (ClaimIsTrue joined fields.ring fields.embed) (round_claims 0 (map round_read (map front_claim cs)))) claims_are
          (subst (λ embed. AllByRecursion (ClaimIsTrue joined fields.ring embed) (round_claims 0 (map round_read (map front_claim (claims_at ops given p zeta))))) by.embed
          (subst (λ ring. AllByRecursion (ClaimIsTrue joined ring fri.fields.embed) (round_claims 0 (map round_read (map front_claim (claims_at ops given p zeta))))) by.ring there))

      widths : AllByRecursion HasWidths (map round_read (map front_claim (claims_with (Parts main others) None)))
      widths = subst (λ cs. AllByRecursion HasWidths (map round_read (map front_claim cs))) claims_are (joined_widths width (claims_at ops given p zeta) fri_accepts.shape.claims.widths)

      no_rows : option_map front_key key ≡ None → opened.preprocessed ≡ None
      no_rows none =
          no_key_no_rows i.layout.preprocessed (opens_next_row i.preprocessed_next_columns) view.degree_bits i.key opened.preprocessed key_clear (has.key_is ∙ unmapped front_key key none)

      takes : (public_values : List F) → TakeOpenedValues (extended_rows ops given p main) (columns_of_rounds joined embed opened public_values) chunks zeta opened
      takes public_values =
          let fronts = front_claims coset zeta next key (Parts main others) view.commitments.quotient_chunks opened in
          columns_take (extended_rows ops given p main) joined coset zeta (option_map front_key key) main (front_root view.commitments.quotient_chunks) opened public_values no_rows
          (subst (λ cs. AllByRecursion HasWidths (map round_read cs)) fronts widths)
          (subst (λ cs. AllByRecursion (ClaimIsTrue joined ops.inner.opening.fields.ring embed) (round_claims 0 (map round_read cs))) fronts claims_true)

      pub take_values : TakeValues ops given p main own more chunks zeta
      take_values =
          record {
            width = length-map (columns_for polynomials 0 0 0 (take width opened.trace_local)) (map embed) ∙ columns_counted polynomials 0 0 0 (take width opened.trace_local) ∙ length-take-le width opened.trace_local at_least_own;
            values = refl;
            opened = subst (λ columns. TakeOpenedValues (extended_rows ops given p main) columns chunks zeta opened) (columns_same (with_auxiliary ops given p main own more).public_values) (takes (with_auxiliary ops given p main own more).public_values);
          }

    module _ (words : Words F E) (e : ℕ) (near : ClaimsAreTrue fri asked words e) where
      degrees : (column : ColumnIndex) → HasDegreeBelow (coefficient_count ops given p) (near.hold.polynomials column)
      degrees column = subst (λ bits. HasDegreeBelow (suc (2 ^ bits)) (near.hold.polynomials column)) height_is_claimed (near.hold.degrees column)

      balance_near : FalseNeedsBadDraws ops given p → BalanceNearTables ops fri parameters_of proof_of given p main alpha zeta words e (preprocessed_joined ops given p zeta)
      balance_near needs =
          let polynomials = near.hold.polynomials in
          let bounds = λ (column : ColumnIndex). degrees (index_in_parts (own_width given) 0 (commitments_at ops given p zeta) column.round column.matrix column.number) in
          let extended = with_auxiliary ops given p main (own polynomials near.hold.are_true) (more polynomials near.hold.are_true) in
          record {
            near = near;
            own = own polynomials near.hold.are_true;
            more = more polynomials near.hold.are_true;
            chunks = chunks polynomials near.hold.are_true;
            own_are = refl;
            more_are = refl;
            chunks_are = refl;
            columns_fit = subst (ColumnsFit (coefficient_count ops given p)) (columns_same polynomials near.hold.are_true extended.public_values)
                (columns_fit (joined polynomials near.hold.are_true) _ bounds embed opened extended.public_values);
            chunks_fit = chunks_fit (joined polynomials near.hold.are_true) _ bounds embed opened;
            needs = needs main others alpha zeta parted drawn (own polynomials near.hold.are_true) (more polynomials near.hold.are_true) (chunks polynomials near.hold.are_true) (take_values polynomials near.hold.are_true);
          }

    -- With known columns as the preprocessed ones.
    module _ (known : List (List F)) (fit : FitAsPreprocessed ops fri parameters_of proof_of given p main known) (tables : Words F E) (e : ℕ) (radius : IsRadius fri asked e)
        (near : ClaimsAreTrue fri asked (words_with ops fri parameters_of proof_of given p main zeta known tables) e) where
      abbrev last : ℕ
      last = preprocessed_round view.commitments.quotient_chunks

      abbrev polynomials_near : ColumnIndex → List F
      polynomials_near = near.hold.polynomials

      abbrev beside : ColumnIndex → List F
      beside = with_known last polynomials_near known

      known_fit : AllByRecursion (HasDegreeBelow (suc (2 ^ log_height_of fri asked))) known
      known_fit = subst (λ bits. AllByRecursion (HasDegreeBelow (suc (2 ^ bits))) known) (sym height_is_claimed) fit.degrees

      true_beside : AllByRecursion (ClaimIsTrue beside fri.fields.ring fri.fields.embed) (fri_claims_of asked.rounds)
      true_beside =
          let enough = more_than_height e (2 ^ log_height_of fri asked) (row_count fri asked) (count (row_count fri asked) near.places) radius near.many in
          known_true fri.fields by.fields.extension by.fields.embeds (row_point fri asked) (row_count fri asked) (suc (2 ^ log_height_of fri asked)) (points_are_apart fri by.fields asked fri_accepts.shape.claims.within)
          near.places enough last known known_fit tables (fri_claims_of asked.rounds) near.hold

      wide : length (preprocessed_local opened.preprocessed) ≡ length known
      wide = preprocessed_wide i.layout.preprocessed (opens_next_row i.preprocessed_next_columns) view.degree_bits i.key opened.preprocessed key_clear ∙ sym fit.number

      known_same : preprocessed_joined ops given p zeta beside ≡ known
      known_same =
          ap (λ ks. columns_for (joined_polynomials (own_width given) ks beside) 2 0 0 (preprocessed_local opened.preprocessed)) commitments_are
          ∙ known_joined (own_width given) main others view.commitments.quotient_chunks coset zeta next given.key opened.preprocessed polynomials_near known (preprocessed_local opened.preprocessed) wide

      own_same : own_columns ops given p beside (preprocessed_joined ops given p zeta beside) ≡ own_columns ops given p polynomials_near known
      own_same =
          ap (own_columns ops given p beside) known_same
          ∙ ap (λ cs. record { main = embedded_polynomials embed cs; preprocessed = embedded_polynomials embed known; public_values = given.public_values })
          (columns_of_others last polynomials_near known 0 0 0 (take (own_width given) opened.trace_local) (first_elsewhere view.commitments.quotient_chunks))

      more_same : auxiliary_columns ops given p beside ≡ auxiliary_columns ops given p polynomials_near
      more_same = ap (embedded_polynomials embed) (columns_of_others last polynomials_near known 1 0 0 (drop (own_width given) opened.trace_local) (second_elsewhere view.commitments.quotient_chunks))

      chunks_same : chunks_joined ops given p zeta beside ≡ chunks_joined ops given p zeta polynomials_near
      chunks_same = ap (map (embedded_polynomials embed)) (rw commitments_are (chunks_elsewhere (own_width given) main others view.commitments.quotient_chunks later_keys polynomials_near known 0 opened.quotient_chunks))

      needs_beside : FalseNeedsBadDraws ops given p → NeedsBadDraws ops given p main (own_columns ops given p polynomials_near known) (auxiliary_columns ops given p polynomials_near) (chunks_joined ops given p zeta polynomials_near) alpha zeta
      needs_beside needs =
          subst (λ cs. NeedsBadDraws ops given p main (own_columns ops given p polynomials_near known) (auxiliary_columns ops given p polynomials_near) cs alpha zeta) chunks_same
          (subst (λ more. NeedsBadDraws ops given p main (own_columns ops given p polynomials_near known) more (chunks_joined ops given p zeta beside) alpha zeta) more_same
          (subst (λ own. NeedsBadDraws ops given p main own (auxiliary_columns ops given p beside) (chunks_joined ops given p zeta beside) alpha zeta) own_same
          (needs main others alpha zeta parted drawn (own_columns ops given p beside (preprocessed_joined ops given p zeta beside)) (auxiliary_columns ops given p beside) (chunks_joined ops given p zeta beside)
          (take_values beside true_beside))))

      balance_beside : FalseNeedsBadDraws ops given p → BalanceNearTables ops fri parameters_of proof_of given p main alpha zeta (words_with ops fri parameters_of proof_of given p main zeta known tables) e (λ polynomials. known)
      unfolding balance_near
      balance_beside needs =
          let by_near = balance_near (words_with ops fri parameters_of proof_of given p main zeta known tables) e near needs in
          record {
            near = near;
            own = own_columns ops given p polynomials_near known;
            more = auxiliary_columns ops given p polynomials_near;
            chunks = chunks_joined ops given p zeta polynomials_near;
            own_are = refl;
            more_are = refl;
            chunks_are = refl;
            columns_fit = record { main = by_near.columns_fit.main; preprocessed = embedded_fit embed _ known fit.degrees };
            chunks_fit = by_near.chunks_fit;
            needs = needs_beside needs;
          }

    shown_by : (words : Words F E) (e : ℕ) (preprocessed_of : (ColumnIndex → List F) → List (List F)) → (ClaimsAreTrue fri asked words e → BalanceNearTables ops fri parameters_of proof_of given p main alpha zeta words e preprocessed_of)
        → Shown fri asked words e → ShownOfLookupTables ops fri parameters_of proof_of given p main alpha zeta words e preprocessed_of
    shown_by words e preprocessed_of balance (Shown.claims_are_true near) = ShownOfLookupTables.columns_balance (balance near)
    shown_by words e preprocessed_of balance (Shown.alpha_is_bad bad) = ShownOfLookupTables.batch_is_bad bad
    shown_by words e preprocessed_of balance (Shown.beta_is_bad bad) = ShownOfLookupTables.fold_is_bad bad
    shown_by words e preprocessed_of balance (Shown.few_places_pass few) = ShownOfLookupTables.few_places_pass few
    shown_by words e preprocessed_of balance (Shown.digests_collide collision) = ShownOfLookupTables.digests_collide collision

    pub shown_of_tables : FalseNeedsBadDraws ops given p → (words : Words F E) → LeadToRoots fri asked words → (e : ℕ) → IsRadius fri asked e
        → ShownOfLookupTables ops fri parameters_of proof_of given p main alpha zeta words e (preprocessed_joined ops given p zeta)
    shown_of_tables needs words lead e radius = shown_by words e _ (λ near. balance_near words e near needs) (accepted_is_sound fri by.fields asked by.bytes fri_accepts words lead e radius)

    pub shown_beside : FalseNeedsBadDraws ops given p → (known : List (List F)) → FitAsPreprocessed ops fri parameters_of proof_of given p main known → (tables : Words F E)
        → LeadToRoots fri asked (words_with ops fri parameters_of proof_of given p main zeta known tables) → (e : ℕ) → IsRadius fri asked e
        → ShownOfLookupTables ops fri parameters_of proof_of given p main alpha zeta (words_with ops fri parameters_of proof_of given p main zeta known tables) e (λ polynomials. known)
    shown_beside needs known fit tables lead e radius =
        let words = words_with ops fri parameters_of proof_of given p main zeta known tables in
        shown_by words e _ (λ near. balance_beside known fit tables e radius near needs) (accepted_is_sound fri by.fields asked by.bytes fri_accepts words lead e radius)

    pub few_of_tables : (words : Words F E) → LeadToRoots fri asked words → (e : ℕ) → IsRadius fri asked e → FewDrawsOfLookupTables ops fri parameters_of proof_of given p main zeta words e
    few_of_tables words lead e radius = record {
      of_fri = accepted_has_few fri by.fields asked fri_accepts words lead.folds e radius;
      of_stark = few_bad_draws (extended_rows ops given p main) by.laws group_closes (coefficient_count ops given p) (chunk_count ops fri parameters_of proof_of given p main);
      shifts = length-map-range_with_len _ 0 (chunk_count ops fri parameters_of proof_of given p main);
    }

-- An AIR with lookups has at least its own columns.
pub wider_with_lookups : {F E : Type 0} (dimension : ℕ) (ring : RingOps E) (basis : List E) (coordinates : E → List F) (base : RingOps F) (air : LookupAir F) → IsExtended dimension ring basis coordinates base air
    → air.own.declaration.columns.width ≤ air.extended.declaration.columns.width
wider_with_lookups dimension ring basis coordinates base air extended = let columns = extended.room.columns in omega (arith, columns)

module _ {S F E C T P X Y : Type 0} (ops : LookupOps S F E C Root T P X Y) (fri : FriOps C F E) (parameters_of : S → FriParameters) (proof_of : P → FriProofView F E) (given : LookupGiven S F E C Root) (p : LookupProof Root E P F)
    (by : AreByFri ops fri parameters_of proof_of) (wider : given.air.own.declaration.columns.width ≤ given.air.extended.declaration.columns.width) (accepted : LookupAccepted ops given p) (needs : FalseNeedsBadDraws ops given p) where
  accepted_with : (main others : Root) → p.inner.commitments.trace ≡ Parts main others → Accepted ops.inner (extended_instance ops given p main) (extended_proof ops given p)
  accepted_with main others parted = subst (λ k. Accepted ops.inner (extended_instance ops given p k) (extended_proof ops given p)) (same_main accepted.parted parted) accepted.extended

  pub tables_are_sound : LookupTablesAreSound ops fri parameters_of proof_of given p
  tables_are_sound = record {
    sound = λ main others alpha zeta parted drawn words lead e radius.
        shown_of_tables ops fri parameters_of proof_of given p by wider main others parted (accepted_with main others parted) alpha zeta drawn needs words lead e radius;
    beside = λ main others alpha zeta parted drawn known fit tables lead e radius.
        shown_beside ops fri parameters_of proof_of given p by wider main others parted (accepted_with main others parted) alpha zeta drawn needs known fit tables lead e radius;
    few = λ main others alpha zeta parted drawn words lead e radius.
        few_of_tables ops fri parameters_of proof_of given p by wider main others parted (accepted_with main others parted) alpha zeta drawn words lead e radius;
  }
