-- An accepted proof with lookups is sound: what the proof of the extended AIR says, said of the author's own AIR and its lookups.
use Rattle.std.proofs.Common.{◌≡◌, ◌⊎◌, ◌∙◌, ap, refl, sym, subst, arith, inl, inr, ℕ, suc, ◌+◌, ◌-◌, ◌*◌, ◌<◌, ◌≤◌, ◌++◌, max, nat_le, nat_lt, slice_index_or, zero, Bool, true, false, List, [], ◌∷◌, length, map, Option, None, Some, Ok, if◌then◌else◌}
use Rattle.std.proofs.lemmas.List.{length-append}
use Rattle.std.specs.List.{AllByRecursion}
use Rattle.stark_support.specs.CosetFacts.{root_has_order}
use Rattle.stark_support.specs.Embedding.{IsEmbedding, embedded_two_adic}
use Rattle.stark_support.specs.Extension.{IsBasis}
use Rattle.stark_support.specs.OptionFacts.{both_none, first_none, later_none}
use Rattle.stark_support.specs.Polynomial.{HoldsOfAtMost, value, value_over}
use Rattle.stark_support.specs.Powers.{power}
use Rattle.stark_support.specs.Ring.{FieldLaws, RingOps}
use Rattle.stark_support.specs.Scheme.{zk_bits}
use Rattle.stark_support.specs.TwoAdic.{TwoAdicLaws}
use Rattle.stark_air.specs.Layout.{Layout, LeavesWithin}
use Rattle.stark_logup.specs.Coordinates.{element, own_table}
use Rattle.stark_logup.specs.CoordinateFacts.{has_own_table}
use Rattle.stark_logup.specs.Counts.{all_map, fewer_hold}
use Rattle.stark_logup.specs.Fractions.{Decides, Entry}
use Rattle.stark_logup.specs.Lookups.{CanPass, Collides, IsBadBeta, listed}
use Rattle.stark_logup.specs.RowConstraints.{ArePowers}
use Rattle.stark_logup.specs.TupleFacts.{false_lookups_fail}
use Rattle.stark_lookup_air.specs.LookupConstraints.{Lookups, light_trees}
use Rattle.stark_lookup_air.specs.LookupFacts.{light_trees_are_worth, satisfying_passes}
use Rattle.stark_lookup_air.specs.LookupSoundness.{AreConstants, LookupsFit, ShowDraws, extended_columns, worth_in_row}
use Rattle.stark_proof.specs.ProofView.{ProofView}
use Rattle.stark_protocol.specs.Acceptance.{Accepted, challenges, domain_fault, height_fault, key_fault, log_parts, of_shape, values_fault}
use Rattle.stark_protocol.specs.AcceptanceFacts.{not_found}
use Rattle.stark_protocol.specs.Instance.{Instance, log_height}
use Rattle.stark_protocol.specs.ShapeFaults.{fault_if, quotient_fault, randomization_fault}
use Rattle.stark_protocol.specs.declared.preprocessed.PreprocessedVerifierKey.{PreprocessedVerifierKey}
use Rattle.stark_parts.specs.declared.config.StarkConfig.{StarkConfig}
use Rattle.stark_security.specs.BadValues.{Satisfies, point}
use Rattle.stark_security.specs.ConstraintPolynomial.{AirInstance, Columns, environment_at, height, next_point}
use Rattle.stark_security.specs.SameLeaves.{AgreeWithin, same_constraints}
use Rattle.stark_security.proofs.BadValueSteps.{first_broken}
use Rattle.stark_tree_air.specs.FaultFacts.{tree_air_within}
use Rattle.stark_tree_air.specs.Faults.{reads_main_next, tree_layout}
use Rattle.stark_tree_air.specs.Writing.{spelled_in}
use Rattle.stark_tree_air.specs.declared.air.TreeAir.{TreeAir}
use Rattle.stark_two_part.specs.declared.in_parts.InParts.{InParts}
use Rattle.stark_two_part.specs.declared.pcs.TwoPartPcs.{TwoPartPcs}
use Rattle.stark_verifier.specs.SoundAcceptance.{BreakingNeedsBadChallenges}
use Rattle.stark_verifier.proofs.ShapeSteps.{public_values_are}
use Rattle.stark_verifier.proofs.SoundAcceptanceSteps.{shape_clear}
use Rattle.stark_lookup_extension.specs.ExtendedSizes.{values_with}
use Rattle.stark_lookup_extension.specs.ExtensionFaults.{lookups_fault}
use Rattle.stark_lookup_extension.specs.declared.error.ExtensionError.TheVariants.{NoMainColumns}
use Rattle.stark_lookup_trace.specs.declared.columns.LookupDraws.{LookupDraws}
use Rattle.stark_lookup.specs.LookupDraws.{drawn_values, powers_from}
use Rattle.stark_lookup.specs.LookupSound.{FewBadDraws, NeedsBadDraws, TakeValues, AlphaOrZetaIsBad, bad_gammas, entries_number, extended_rows, own_rows, rows_entries, with_auxiliary}
use Rattle.stark_lookup.specs.LookupVerdict.{LookupGiven, LookupOps, draws_after, extended_instance, extended_proof, lookups_given, values_after}
use Rattle.stark_lookup.specs.OwnLookups.{IsExtended, with_own_lookups}
use Rattle.stark_lookup.specs.declared.proof.LookupProof.{LookupProof}
use Rattle.stark_lookup.proofs.CountSteps.{entries_counted, entries_width, under_condition}
use Rattle.stark_lookup.proofs.DrawSteps.{first_there, flat_length, others_there, powers_are, powers_number}
use Rattle.stark_lookup.proofs.FitSteps.{Fits, fitting, fitting_widths, fitting_within}

-- ---- what is decided

-- Columns satisfy an AIR, or what follows of those that don't.
satisfied_or : {F E : Type 0} (i : AirInstance F E) → FieldLaws i.ring i.inverse → (columns : Columns F E) (A : Type 0) → ((Satisfies i columns → ⊥) → A) → Satisfies i columns ⊎ A
satisfied_or i laws columns A follows =
    elim (first_broken i laws columns (height i) (omega arith)) [ inl kept ↦ inl kept | inr obtained ↦ inr (follows (λ kept. obtained.1.broken (kept obtained.0 obtained.1.in_trace))) ]

-- Whether beta hides a tuple.
hides_or_not : {K : Type 0} (ring : RingOps K) → Decides K → Decides (List K) → (beta : K) (t : List K) (es : List (Entry (List K) K)) → Collides ring beta t es ⊎ (Collides ring beta t es → ⊥)
hides_or_not ring decides same beta t [] = inr (λ none. none)
hides_or_not ring decides same beta t (e ∷ es) = elim (hides_or_not ring decides same beta t es) [
  | inl there ↦ inl (inr there)
  | inr nowhere ↦ elim (same t e.key) [
    | inl here ↦ inr (elim [ inl both ↦ both.0 here | inr there ↦ nowhere there ])
    | inr other ↦ elim (decides (value ring t beta) (value ring e.key beta)) [
      | inl alike ↦ inl (inl (other, alike))
      | inr apart ↦ inr (elim [ inl both ↦ apart both.1 | inr there ↦ nowhere there ])
    ]
  ]
]

-- ---- an AIR's own columns

found_first : {A : Type 0} (xs ys : List A) (k : ℕ) (d : A) → k < length xs → slice_index_or (xs ++ ys) k d ≡ slice_index_or xs k d
found_first [] ys k d h = absurd (omega arith)
found_first (x ∷ xs) ys zero d h = refl
found_first (x ∷ xs) ys (suc k) d h = found_first xs ys k d (omega arith)

below_both : (m n k : ℕ) → k < m → m ≤ n → k < n
below_both m n k h j = omega arith

module _ {F E : Type 0} (i : AirInstance F E) (layout : Layout) (l : Lookups F) (own : Columns F E) (more : List (List E)) (draws : List F) (fit : LookupsFit own layout l) (within : LeavesWithin layout i.constraints) where
  abbrev all : Columns F E
  all = extended_columns own more draws

  own_leaves : (x : E) → AgreeWithin layout (environment_at i i.ring (λ y. y) all x) (environment_at i i.ring (λ y. y) own x)
  own_leaves x = record {
    main_current = λ c h. ap (λ p. value_over i.ring (λ y. y) p x) (found_first own.main more c [] (below_both _ _ c h fit.main));
    main_next = λ c h. ap (λ p. value_over i.ring (λ y. y) p (next_point i i.ring (λ y. y) x)) (found_first own.main more c [] (below_both _ _ c h fit.main_next));
    preprocessed_current = λ c h. refl;
    preprocessed_next = λ c h. refl;
    public_value = λ k h. ap i.embed (found_first own.public_values draws k i.base.zero (below_both _ _ k h fit.public_values));
    periodic_value = λ c h. refl;
    first_row = refl;
    last_row = refl;
    transition = refl;
  }

  -- Auxiliary columns don't count.
  own_satisfy : Satisfies i all → Satisfies i own
  own_satisfy satisfies k below =
      subst (AllByRecursion (λ c. c ≡ i.ring.zero))
      (same_constraints i.ring i.embed layout (environment_at i i.ring (λ y. y) all (point i k)) (environment_at i i.ring (λ y. y) own (point i k)) (own_leaves (point i k)) i.constraints within) (satisfies k below)

-- ---- numbers

height_within : (log_chunks is_zk degree_bits adicity greatest_height : ℕ) → quotient_fault log_chunks is_zk degree_bits adicity greatest_height ≡ None → degree_bits - is_zk ≤ adicity
height_within log_chunks is_zk degree_bits adicity greatest_height clear =
    let last = later_none (fault_if (nat_le 64 (degree_bits + log_chunks)) _) _ (later_none (fault_if (nat_le 64 (log_chunks + is_zk)) _) _ clear) in
    let obtained : nat_lt adicity (degree_bits + log_chunks) ≡ false = not_found (nat_lt adicity (degree_bits + log_chunks)) _ last in
    grind (arith, obtained)

counted_values : (own others dimension first width : ℕ) → others ≡ suc (width - 1) * dimension → own + others ≡ values_with dimension first width → own ≡ first
counted_values own others dimension first width many whole =
    let some : max width 1 ≡ suc (width - 1) = omega arith in
    let same : max width 1 * dimension ≡ suc (width - 1) * dimension = ap (λ n. n * dimension) some in
    omega (arith, many, whole, same)

next_width : (b : Bool) (width count : ℕ) → count ≡ width → (if b then width else 0) ≤ count
next_width true width count is = omega arith
next_width false width count is = omega arith

-- ---- the laws that are required

-- An instance has what the AIR spells, and these values.
pub record InstanceReads {S F C K : Type 0} (air : TreeAir F) (values : List F) (i : Instance S F C K) : Type 0 where
  pub constraints : i.constraints ≡ spelled_in air.list
  pub periodic : i.periodic_columns ≡ map (λ c. c.items) air.declaration.columns.periodic_columns.items
  pub public_values : i.public_values ≡ values
  pub number : i.layout.public_values ≡ air.declaration.columns.num_public_values

pub record AreLawful {S F E C K T P X Y : Type 0} (ops : LookupOps S F E C K T P X Y) : Type 0 where
  pub laws : FieldLaws ops.inner.opening.fields.ring ops.inner.opening.fields.inverse
  pub same : Decides F
  pub embeds : IsEmbedding ops.inner.opening.fields.base ops.inner.opening.fields.ring ops.inner.opening.fields.embed
  pub two_adic : TwoAdicLaws ops.inner.opening.fields.base ops.inner.opening.fields.adicity ops.inner.opening.fields.root ops.inner.opening.fields.generator
  pub is_basis : IsBasis ops.inner.opening.fields.ring ops.inner.opening.fields.embed ops.inner.opening.fields.dimension ops.inner.opening.fields.basis ops.coordinates
  pub instance_reads : (config : StarkConfig (TwoPartPcs S) E C) (air : TreeAir F) (values : List F) (key : Option (PreprocessedVerifierKey (InParts K))) → InstanceReads air values (ops.instance config air values key)

module _ {S F E C K T P X Y : Type 0} (ops : LookupOps S F E C K T P X Y) (given : LookupGiven S F E C K) (p : LookupProof K E P F) (main : K) (lawful : AreLawful ops)
    (is_extended : IsExtended ops.inner.opening.fields.dimension ops.inner.opening.fields.ring ops.inner.opening.fields.basis ops.coordinates ops.inner.opening.fields.base given.air)
    (accepted : Accepted ops.inner (extended_instance ops given p main) (extended_proof ops given p)) where
  abbrev instance : Instance (TwoPartPcs S) F C (InParts K)
  instance = extended_instance ops given p main

  abbrev view : ProofView (InParts K) E P F
  view = extended_proof ops given p

  abbrev l : Lookups F
  l = lookups_given ops given p

  abbrev layout : Layout
  layout = tree_layout given.air.own.declaration.columns given.air.own.list.nodes.items

  abbrev own_air : AirInstance F E
  own_air = own_rows ops given p main

  abbrev draws : LookupDraws E
  draws = draws_after ops given p main

  abbrev drawn : List F
  drawn = drawn_values ops.inner.opening.fields.ring ops.coordinates l.width draws

  reads : InstanceReads given.air.extended (values_after ops given p main) instance
  reads = lawful.instance_reads _ _ _ _

  domain_clear : domain_fault ops.inner instance view ≡ None
  domain_clear = shape_clear {X = X} _ (first_none (of_shape (domain_fault ops.inner instance view)) _ (later_none (of_shape (key_fault ops.inner instance view)) _ (later_none (of_shape (height_fault ops.inner instance view)) _ accepted.shape)))

  values_clear : values_fault ops.inner instance view ≡ None
  values_clear =
      shape_clear {X = X} _ (later_none (randomization_fault ops.inner.opening.is_zk view.commitments.random view.opened_values.random) _ (later_none (of_shape (domain_fault ops.inner instance view)) _
      (later_none (of_shape (key_fault ops.inner instance view)) _ (later_none (of_shape (height_fault ops.inner instance view)) _ accepted.shape))))

  group_closes : power own_air.ring (own_air.embed own_air.generator) (height own_air) ≡ own_air.ring.one
  group_closes =
      let fields = ops.inner.opening.fields in
      (root_has_order lawful.laws fields.adicity (λ n. fields.embed (fields.root n)) (fields.embed fields.generator) (embedded_two_adic lawful.embeds fields.adicity fields.root fields.generator lawful.two_adic)
      (log_height ops.inner.opening.is_zk view.degree_bits)
      (height_within (log_parts ops.inner instance view) (zk_bits ops.inner.opening.is_zk) view.degree_bits fields.adicity (ops.inner.opening.scheme.log_max_trace_height instance.scheme) domain_clear)).reaches

  -- as many public values as the AIR has
  drawn_number : length drawn ≡ suc (l.width - 1) * ops.inner.opening.fields.dimension
  drawn_number =
      let ring = ops.inner.opening.fields.ring in
      let dimension = ops.inner.opening.fields.dimension in
      let later = powers_from ring draws.beta draws.beta (l.width - 1) in
      flat_length (λ x. x) ops.inner.opening.fields.base.zero ops.coordinates dimension lawful.is_basis.count (draws.gamma ∷ later) ∙ ap (λ n. suc n * dimension) (powers_number ring draws.beta draws.beta (l.width - 1))

  own_values : length given.public_values ≡ l.public_values
  own_values =
      let counted : length instance.public_values ≡ instance.layout.public_values = public_values_are instance.layout.public_values (length instance.public_values) _ _ _ _ view.opened_values
      instance.constraint_bits (ops.inner.opening.fields.same view.alpha_pow_witness ops.inner.opening.fields.base.zero) instance.ood_bits (ops.inner.opening.fields.same view.ood_pow_witness ops.inner.opening.fields.base.zero) values_clear in
      counted_values (length given.public_values) (length drawn) ops.inner.opening.fields.dimension l.public_values l.width drawn_number
      (sym (length-append given.public_values drawn) ∙ sym (ap length reads.public_values) ∙ counted ∙ reads.number ∙ is_extended.room.values)

  -- ---- the AIR with its lookups

  fits : AllByRecursion (λ g. AllByRecursion (Fits layout l.width) g) l.groups
  fits =
      let air = given.air.own in
      let base = ops.inner.opening.fields.base in
      let some : Option _ = (if nat_lt 0 air.declaration.columns.width then None else Some NoMainColumns) in
      let found = lookups_fault (record { nodes = length air.list.nodes.items; width = given.air.lookups.width }) 0 given.air.lookups.lookups.items in
      fitting base ops.inner.opening.fields.dimension given.air.lookups air air.without_fault (both_none found _ (both_none some _ is_extended.without_fault).1).0

  is_with_lookups : extended_rows ops given p main ≡ with_own_lookups ops.inner.opening.fields.dimension ops.coordinates l lawful.same own_air
  is_with_lookups =
      let constraints = reads.constraints ∙ is_extended.constraints lawful.same in
      let periodic = reads.periodic ∙ is_extended.room.periodic in
      (cc)

  module _ (own : Columns F E) (more : List (List E)) (chunks : List (List (List E))) (alpha zeta : E) (take : TakeValues ops given p main own more chunks zeta) where
    abbrev columns : Columns F E
    columns = with_auxiliary ops given p main own more

    number : length own.public_values ≡ l.public_values
    number = ap length take.values ∙ own_values

    fit : LookupsFit own layout l
    fit = record {
      within = fitting_within layout l.width l.groups fits;
      main = omega (arith, take.width);
      main_next = next_width (reads_main_next given.air.own.list.nodes.items) given.air.own.declaration.columns.width (length own.main) take.width;
      public_values = omega (arith, number);
      main_number = take.width;
      values_number = number;
      widths = fitting_widths layout l.width l.groups fits;
    }

    shown : ShowDraws own_air columns l ops.inner.opening.fields.dimension draws.beta draws.gamma
    shown =
        let fields = ops.inner.opening.fields in
        let later = powers_from fields.ring draws.beta draws.beta (l.width - 1) in
        let first = first_there fields.embed fields.base.zero ops.coordinates fields.dimension lawful.is_basis.count own.public_values draws.gamma later l.public_values number in
        let others = others_there fields.embed fields.base.zero ops.coordinates fields.dimension lawful.is_basis.count own.public_values draws.gamma later l.public_values (l.width - 1) number (powers_number fields.ring draws.beta draws.beta (l.width - 1)) in
        record {
          gamma_shown = ap (element fields.ring fields.basis) first ∙ sym (lawful.is_basis.sum draws.gamma);
          powers_shown = subst (ArePowers fields.ring fields.basis draws.beta draws.beta) (sym others) (powers_are lawful.is_basis draws.beta draws.beta (l.width - 1));
        }

    constants : AreConstants own_air (ops.coordinates own_air.ring.one) (own_table own_air.ring own_air.basis ops.coordinates)
    constants = record { one_is = sym (lawful.is_basis.sum own_air.ring.one); products_are = (has_own_table lawful.is_basis).products }

    -- Columns that satisfy the extended AIR satisfy the author's own, and the draws let the tuples pass.
    satisfying : Satisfies (extended_rows ops given p main) columns → Satisfies own_air own × CanPass own_air.ring (rows_entries own_air l own) (height own_air) draws.beta draws.gamma
    satisfying satisfies =
        let same = lawful.same in
        let both = satisfying_passes own_air lawful.laws.of_ring group_closes (light_trees same own_air.base) ops.inner.opening.fields.dimension (ops.coordinates own_air.ring.one) (own_table own_air.ring own_air.basis ops.coordinates)
        l layout own more drawn draws.beta draws.gamma (light_trees_are_worth same lawful.laws.of_ring lawful.embeds.keeps) constants fit shown (subst (λ i. Satisfies i columns) is_with_lookups satisfies) in
        let air = given.air.own in
        (own_satisfy own_air layout l own more drawn fit (tree_air_within air.declaration.columns air.list.constants.items air.list.nodes.items air.list.constraints.items air.without_fault) both.0, both.1)

    few : FewBadDraws own_air l own
    few =
        let f = worth_in_row own_air own in
        let groups = rows_entries own_air l own in
        let rows = height own_air in
        let wide = entries_width f l.width l.groups rows (all_map (λ g h. all_map (λ e k. k.length_is) g h) l.groups fits) in
        let draws_few = false_lookups_fail lawful.laws groups rows l.width wide in
        let counted : length (listed groups rows) ≡ entries_number own_air.log_size l = entries_counted f l.groups rows in
        record {
          betas = λ same t unbalanced. subst (λ n. HoldsOfAtMost ((n - 1) * (l.width - 1)) (IsBadBeta own_air.ring groups rows t)) counted (draws_few.betas same t unbalanced);
          gammas = λ same t unbalanced beta. under_condition (bad_gammas own_air.log_size l) (IsBadBeta own_air.ring groups rows t beta → ⊥) (λ x bad. bad.shows)
              (λ good. fewer_hold (bad_gammas own_air.log_size l) (λ x bad. bad.passes) (subst (λ n. HoldsOfAtMost (2 * n - 1) (CanPass own_air.ring groups rows beta)) counted (draws_few.gammas same t unbalanced beta good)));
        }

    pub needs_bad_draws : (challenges ops.inner instance view).answer ≡ Ok (alpha, zeta) → BreakingNeedsBadChallenges ops.inner instance view → NeedsBadDraws ops given p main own more chunks alpha zeta
    needs_bad_draws answered breaking =
        let values : columns.public_values ≡ instance.public_values = ap (λ vs. vs ++ drawn) take.values ∙ sym reads.public_values in
        let broken = breaking alpha zeta answered columns chunks values take.opened in
        record {
          breaking = λ breaks. broken (λ satisfies. breaks (satisfying satisfies).0);
          unbalanced = λ same t unbalanced. elim (satisfied_or (extended_rows ops given p main) lawful.laws columns (AlphaOrZetaIsBad ops given p main own more chunks alpha zeta) broken) [
            | inl satisfies ↦ elim (hides_or_not own_air.ring lawful.laws.decides same draws.beta t (listed (rows_entries own_air l own) (height own_air))) [
              | inl hides ↦ inl hides
              | inr shows ↦ inr (inl (record { shows = shows; passes = (satisfying satisfies).1 }))
            ]
            | inr bad ↦ inr (inr bad)
          ];
          few = few;
        }
