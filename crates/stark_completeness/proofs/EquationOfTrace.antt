-- The chunks of a satisfying trace's quotient, opened truly, keep the verifier's equation at each point.
use Rattle.std.proofs.Common.{◌≡◌, ◌≢◌, ◌∙◌, ap, sym, arith, refl, subst, ℕ, ◌+◌, ◌-◌, ◌^◌, ◌<◌, ◌≤◌, Bool, true, false, List, map, length, Option}
use Rattle.std.specs.List.{AllByRecursion, flat_map}
use Rattle.std.proofs.lemmas.List.{length-map}
use Rattle.stark_support.specs.RingFacts.{one_mul}
use Rattle.stark_support.specs.FieldFacts.{quotient_is}
use Rattle.stark_support.specs.Embedding.{embedded_two_adic}
use Rattle.stark_support.specs.JoinedRows.{row_of_joined}
use Rattle.stark_support.specs.KeepsRing.{kept_difference, kept_power}
use Rattle.stark_support.specs.TwoAdic.{HasOrder}
use Rattle.stark_support.specs.Coset.{TwoAdicCoset, IsTwoAdicCoset, coset_point, coset_size, subgroup_vanishing}
use Rattle.stark_support.specs.CosetFacts.{root_has_order, shifted_is_disjoint}
use Rattle.stark_support.specs.CosetValueFacts.{apart_outside}
use Rattle.stark_support.specs.Subgroup.{subgroup_of}
use Rattle.stark_support.specs.SubgroupFacts.{embedded_nonzero}
use Rattle.stark_support.specs.PointFacts.{all_both, all_mapped}
use Rattle.stark_support.specs.Polynomial.{value, HasDegreeBelow}
use Rattle.stark_support.specs.Recomposition.{recomposition}
use Rattle.stark_support.specs.Scheme.{QuotientChunk, matrix_row, natural_coset, row_at, zk_bits}
use Rattle.stark_air.specs.Declaration.{Trace, IsDeclared}
use Rattle.stark_air.specs.Layout.{Layout, LeavesWithin}
use Rattle.stark_air.specs.Tree.{Constraint}
use Rattle.stark_parts.specs.Folded.{folded}
use Rattle.stark_proof.specs.ProofView.{OpeningsView}
use Rattle.stark_protocol.specs.Acceptance.{periodic_values, quotient_value, rows_of}
use Rattle.stark_protocol.specs.Equation.{EquationHolds, opened_environment}
use Rattle.stark_support.specs.FieldPair.{FieldsOps}
use Rattle.stark_protocol.specs.Instance.{log_height, trace_coset}
use Rattle.stark_protocol.specs.Sizes.{chunk_shifts, quotient_coset}
use Rattle.stark_security.specs.ConstraintPolynomial.{AirInstance, Columns, environment_at, folded_at, group, height}
use Rattle.stark_security.specs.BadValues.{ColumnsFit, Satisfies}
use Rattle.stark_quotient.specs.PointwiseQuotient.{RowsOnCoset, pointwise_quotient}
use Rattle.stark_quotient.specs.QuotientOfColumns.{AreValuesOfColumns, embedded_rows, quotient_of_columns}
use Rattle.stark_security.specs.SameLeaves.{same_constraints}
use Rattle.stark_completeness.specs.CommittedQuotient.{AreLawful, AreRowsOfColumns, AreProofSizes, FitCommitted, AreChunksOfQuotient}
use Rattle.stark_parts.specs.SizingLaw.{HasSmallBound}
use Rattle.stark_completeness.specs.TrueOpenings.{AreTrueOpenings, air_over, columns_above}
use Rattle.stark_completeness.proofs.ChunkPolynomials.{committed_recomposes}
use Rattle.stark_completeness.proofs.FoldedQuotient.{folded_divides, folded_quotient, quotient_degree}
use Rattle.stark_completeness.proofs.OpenedColumns.{opened_leaves}

-- Embedding keeps degrees.
embedded_fit : {F E : Type 0} (embed : F → E) (m : ℕ) (polynomials : List (List F)) → AllByRecursion (HasDegreeBelow m) polynomials → AllByRecursion (HasDegreeBelow m) (map (map embed) polynomials)
embedded_fit embed m polynomials fit =
    all_mapped (map embed) (HasDegreeBelow m) polynomials
    (all_both (HasDegreeBelow m) (HasDegreeBelow m) (λ p. HasDegreeBelow m (map embed p)) (λ p degree _. let same = length-map p embed in omega (arith, same, degree)) polynomials fit fit)

-- The parts of the quotient's domain are as large as the trace.
part_size : (is_zk : Bool) (height degree_bits log_parts : ℕ) → degree_bits ≡ height + zk_bits is_zk → degree_bits + log_parts - (log_parts + zk_bits is_zk) ≡ height
part_size true height degree_bits log_parts is = omega arith
part_size false height degree_bits log_parts is = omega arith

chunks_fit : (is_zk : Bool) (height degree_bits log_parts : ℕ) → degree_bits ≡ height + zk_bits is_zk → log_parts + zk_bits is_zk ≤ degree_bits + log_parts
chunks_fit true height degree_bits log_parts is = omega arith
chunks_fit false height degree_bits log_parts is = omega arith

pub own_height : (is_zk : Bool) (height degree_bits : ℕ) → degree_bits ≡ height + zk_bits is_zk → height ≡ log_height is_zk degree_bits
own_height true height degree_bits is = omega arith
own_height false height degree_bits is = omega arith

module _ {F E : Type 0} (fields : FieldsOps F E) (coordinates : E → List F) (lawful : AreLawful fields coordinates)
    (constraints : List (Constraint F)) (periodic : List (List F)) (l : Layout) (leaves : LeavesWithin l constraints)
    (is_zk : Bool) (log_size degree_bits log_parts : ℕ) (sizes : AreProofSizes fields.adicity is_zk log_size degree_bits log_parts)
    (main preprocessed : List (List F)) (public_values : List F) (fit : FitCommitted degree_bits main preprocessed)
    (satisfied : Satisfies (air_over fields constraints periodic log_size) (columns_above fields.embed main preprocessed public_values))
    (small : HasSmallBound constraints log_size degree_bits log_parts)
    (rows : RowsOnCoset F) (are_rows : AreRowsOfColumns fields (quotient_coset fields.base fields.generator (natural_coset fields.base degree_bits) log_parts) main preprocessed public_values rows)
    (alpha : E) (chunks : List (QuotientChunk F)) (committed : AreChunksOfQuotient fields coordinates (air_over fields constraints periodic log_size) is_zk degree_bits log_parts rows alpha chunks) where
  abbrev air : AirInstance F E
  air = air_over fields constraints periodic log_size

  abbrev columns : Columns F E
  columns = columns_above fields.embed main preprocessed public_values

  abbrev domain : TwoAdicCoset F
  domain = quotient_coset fields.base fields.generator (natural_coset fields.base degree_bits) log_parts

  shift_is : domain.shift ≡ fields.generator
  shift_is = one_mul lawful.base.of_ring fields.generator

  domain_valid : IsTwoAdicCoset fields.base fields.adicity domain
  domain_valid = record { shift_nonzero = λ e. lawful.two_adic.generator_nonzero (sym shift_is ∙ e); within = sizes.within }

  -- H is a group of the base field, no larger than the quotient's domain.
  height_within : log_size ≤ degree_bits + log_parts
  height_within = let c = sizes.committed in omega (arith, c)

  height_in_group : log_size ≤ fields.adicity
  height_in_group = let w = sizes.within in let h = height_within in omega (arith, w, h)

  pub order : HasOrder fields.ring (fields.embed (fields.root log_size)) (2 ^ log_size)
  order = root_has_order lawful.extension fields.adicity (λ k. fields.embed (fields.root k)) (fields.embed fields.generator) (embedded_two_adic lawful.embeds fields.adicity fields.root fields.generator lawful.two_adic) log_size height_in_group

  -- Z_H isn't zero on the quotient's domain.
  outside : (k : ℕ) → subgroup_vanishing fields.ring (2 ^ log_size) (fields.embed (coset_point fields.base fields.root domain k)) ≢ fields.ring.zero
  outside k e =
      let x = coset_point fields.base fields.root domain k in
      let trace : TwoAdicCoset F = natural_coset fields.base log_size in
      let valid : IsTwoAdicCoset fields.base fields.adicity trace = record { shift_nonzero = lawful.base.one_not_zero; within = height_in_group } in
      embedded_nonzero lawful.extension lawful.embeds fields.adicity fields.root fields.generator lawful.two_adic (subgroup_vanishing fields.base (2 ^ log_size) x)
      (apart_outside lawful.base fields.adicity fields.root fields.generator lawful.two_adic trace valid refl domain
      (shifted_is_disjoint lawful.base fields.adicity fields.root fields.generator lawful.two_adic trace domain valid domain_valid refl) k x refl)
      (kept_difference lawful.embeds.keeps _ _ _ _ (kept_power lawful.embeds.keeps x (fields.embed x) (2 ^ log_size) refl) lawful.embeds.keeps.one ∙ e)

  columns_fit : ColumnsFit (2 ^ degree_bits) columns
  columns_fit = record { main = embedded_fit fields.embed (2 ^ degree_bits) main fit.main_degrees; preprocessed = embedded_fit fields.embed (2 ^ degree_bits) preprocessed fit.preprocessed_degrees }

  -- the quotient of the folded constraint
  abbrev quotient : List E
  quotient = (folded_quotient air lawful.extension order columns satisfied alpha).quotient

  quotient_short : HasDegreeBelow (coset_size domain) quotient
  quotient_short = quotient_degree air lawful.extension order columns satisfied alpha (2 ^ degree_bits) (coset_size domain) columns_fit small

  values_of_columns : AreValuesOfColumns air rows columns
  values_of_columns = record {
    main = λ k below.
        embedded_rows lawful.embeds fields.root domain (length main) rows.main main are_rows.main_rows k (subst (λ n. k < n) are_rows.size below)
        ∙ ap (λ x. row_at fields.ring (λ c. c) columns.main (fields.embed x)) (sym (are_rows.point k));
    preprocessed = λ k below.
        embedded_rows lawful.embeds fields.root domain (length preprocessed) rows.preprocessed preprocessed are_rows.preprocessed_rows k (subst (λ n. k < n) are_rows.size below)
        ∙ ap (λ x. row_at fields.ring (λ c. c) columns.preprocessed (fields.embed x)) (sym (are_rows.point k));
    public_values = are_rows.same_public_values;
  }

  -- The pointwise quotient is the quotient's value.
  pointwise_value : (k : ℕ) → k < coset_size domain → pointwise_quotient air rows alpha k ≡ value fields.ring quotient (fields.embed (coset_point fields.base fields.root domain k))
  pointwise_value k below =
      let x = fields.embed (coset_point fields.base fields.root domain k) in
      quotient_of_columns air lawful.base lawful.embeds fields.adicity fields.root fields.generator lawful.two_adic refl domain sizes.within height_within rows are_rows.size are_rows.point columns values_of_columns l k
      (subst (λ n. k < n) (sym are_rows.size) below) leaves alpha ∙
      ap (λ y. fields.ring.mul (folded_at air columns alpha (fields.embed y)) (fields.inverse (subgroup_vanishing fields.ring (2 ^ log_size) (fields.embed y)))) (are_rows.point k) ∙
      quotient_is lawful.extension (folded_at air columns alpha x) (subgroup_vanishing fields.ring (2 ^ log_size) x) (value fields.ring quotient x) (outside k)
      (sym (folded_divides air lawful.extension order columns satisfied alpha x))

  -- The rows that are cut in chunks are the coordinates of the quotient's values.
  flat_rows : (k : ℕ) → k < coset_size domain → matrix_row (flat_map coordinates committed.values) fields.dimension k ≡ coordinates (value fields.ring quotient (fields.embed (coset_point fields.base fields.root domain k)))
  flat_rows k below =
      row_of_joined coordinates fields.dimension lawful.is_basis.count committed.values k (pointwise_quotient air rows alpha k) (committed.pointwise.at_point k (subst (λ n. k < n) (sym are_rows.size) below))
      ∙ ap coordinates (pointwise_value k below)

  -- The committed chunks recompose to the quotient.
  pub recomposed : (zeta : E) → recomposition fields.ring fields.ring (λ c. c) fields.inverse (2 ^ log_size) fields.basis (chunk_shifts fields.base fields.root fields.embed domain (log_parts + zk_bits is_zk))
      (map (λ chunk. row_at fields.ring fields.embed (map (λ m. m.column) chunk.columns) zeta) chunks) zeta ≡ value fields.ring quotient zeta
  recomposed zeta =
      ap (λ (n : ℕ). recomposition fields.ring fields.ring (λ c. c) fields.inverse (2 ^ n) fields.basis (chunk_shifts fields.base fields.root fields.embed domain (log_parts + zk_bits is_zk))
      (map (λ chunk. row_at fields.ring fields.embed (map (λ m. m.column) chunk.columns) zeta) chunks) zeta) (sym (part_size is_zk log_size degree_bits log_parts sizes.committed)) ∙
      committed_recomposes lawful.base lawful.extension lawful.embeds fields.adicity fields.root fields.generator lawful.two_adic domain domain_valid (log_parts + zk_bits is_zk)
      (chunks_fit is_zk log_size degree_bits log_parts sizes.committed) fields.dimension fields.basis coordinates lawful.is_basis quotient
      (matrix_row (flat_map coordinates committed.values) fields.dimension) flat_rows is_zk chunks committed.chunked quotient_short zeta

  module _ (declared_preprocessed : Option (Trace F)) (main_next preprocessed_next : List ℕ) (declared : IsDeclared l declared_preprocessed periodic main_next preprocessed_next) (zeta : E) (opened : OpeningsView E)
      (true_values : AreTrueOpenings fields is_zk main_next preprocessed_next main preprocessed chunks zeta (fields.ring.mul (fields.embed (fields.root log_size)) zeta) opened) where
    over_height : EquationHolds fields.base fields.ring fields.embed (group air) constraints
        (rows_of fields.ring.zero l.main l.preprocessed opened (periodic_values fields periodic log_size zeta) public_values) zeta alpha
        (recomposition fields.ring fields.ring (λ c. c) fields.inverse (2 ^ log_size) fields.basis (chunk_shifts fields.base fields.root fields.embed domain (log_parts + zk_bits is_zk)) opened.quotient_chunks zeta)
    over_height =
        let over = λ (values : List (List E)). recomposition fields.ring fields.ring (λ c. c) fields.inverse (2 ^ log_size) fields.basis
        (chunk_shifts fields.base fields.root fields.embed domain (log_parts + zk_bits is_zk)) values zeta in
        ap (folded fields.ring alpha)
        (same_constraints fields.ring fields.embed l
        (opened_environment fields.base fields.ring fields.embed (group air) (rows_of fields.ring.zero l.main l.preprocessed opened (periodic_values fields periodic log_size zeta) public_values) zeta)
        (environment_at air fields.ring (λ c. c) columns zeta)
        (opened_leaves fields constraints periodic log_size l declared_preprocessed main_next preprocessed_next declared is_zk main preprocessed chunks public_values zeta opened true_values) constraints leaves) ∙
        folded_divides air lawful.extension order columns satisfied alpha zeta ∙
        ap (fields.ring.mul (subgroup_vanishing fields.ring (2 ^ log_size) zeta)) (sym (ap over true_values.quotient ∙ recomposed zeta))

    -- The verifier's equation holds, at each zeta.
    pub equation_of_trace : EquationHolds fields.base fields.ring fields.embed (subgroup_of fields.inverse fields.embed fields.root (trace_coset fields.base is_zk degree_bits)) constraints
        (rows_of fields.ring.zero l.main l.preprocessed opened (periodic_values fields periodic (log_height is_zk degree_bits) zeta) public_values) zeta alpha
        (quotient_value fields degree_bits log_parts is_zk opened.quotient_chunks zeta)
    equation_of_trace =
        subst (λ (k : ℕ). EquationHolds fields.base fields.ring fields.embed (subgroup_of fields.inverse fields.embed fields.root (natural_coset fields.base k)) constraints
        (rows_of fields.ring.zero l.main l.preprocessed opened (periodic_values fields periodic k zeta) public_values) zeta alpha
        (recomposition fields.ring fields.ring (λ c. c) fields.inverse (2 ^ k) fields.basis (chunk_shifts fields.base fields.root fields.embed domain (log_parts + zk_bits is_zk)) opened.quotient_chunks zeta))
        (own_height is_zk log_size degree_bits sizes.committed) over_height
