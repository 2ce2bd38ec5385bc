-- The quotient over matrices' rows is that over the columns whose values these are.
use Rattle.std.specs.Prelude.{◌≡◌, ◌⊎◌, codes, ℕ, Bool, ◌+◌, ◌*◌, ◌/◌, ◌%◌, ◌^◌, ◌<◌, ◌≤◌, List, [], ◌∷◌, map, length}
use Rattle.std.specs.List.{flat_map}
use Rattle.std.proofs.Common.{sym, ◌∙◌, ap, arith, All, Some, length-append, suc-mul, Option, None, option_map, subst, inl, inr}
use Rattle.std.proofs.Math.Pow.{pow_mono}
use Rattle.std.proofs.lemmas.Nat.{pow-add}
use Rattle.std.specs.Borrow.{Bor}
use Rattle.std.specs.Option.{option_copied}
use Rattle.std.proofs.lemmas.List.Concat.{flat_map-cons}
use Rattle.std.proofs.Math.Nat.{mod-lt}
use Rattle.stark_support.specs.Ring.{FieldLaws, RingOps}
use Rattle.stark_support.specs.TwoAdic.{TwoAdicLaws}
use Rattle.stark_support.specs.CosetFacts.{shifted_is_disjoint}
use Rattle.stark_support.specs.Operations.{ring_operations}
use Rattle.stark_support.specs.Coset.{AreDisjoint, IsTwoAdicCoset, TwoAdicCoset, coset_point, coset_size, subgroup_vanishing}
use Rattle.stark_support.specs.Periodic.{ColumnFits, first_fault}
use Rattle.stark_support.specs.PeriodicFacts.{all_fit}
use Rattle.stark_support.specs.Scheme.{AreQuotientChunks, HasRows, QuotientChunk, SchemeOps, committed_chunk, matrix_row, zk_bits}
use Rattle.stark_transcript.specs.declared.error.ProvingError.{ProvingError}
use Rattle.stark_support.specs.Selectors.{first_row_selector, last_row_selector, transition_selector}
use Rattle.stark_air.specs.Declaration.{Trace}
use Rattle.stark_air.specs.Rows.{environment_of}
use Rattle.stark_air.specs.Value.{constraint_values}
use Rattle.stark_parts.specs.Folded.{folded}
use Rattle.stark_security.specs.ConstraintPolynomial.{AirInstance, group, height}
use Rattle.stark_protocol.specs.Instance.{Instance, ProtocolOps, log_height, trace_coset}
use Rattle.stark_protocol.specs.declared.preprocessed.PreprocessedProverData.{PreprocessedProverData}
use Rattle.stark_quotient.specs.PointwiseQuotient.{ArePointwiseQuotients, RowsOnCoset, periodic_row, pointwise_quotient, rows_of_matrices}
use Rattle.stark_prover.specs.CommittedColumns.{IsQuotientCommitment, IsQuotientRefusal, rows_of_columns}
use Rattle.stark_prover.specs.ProofOfTrace.{air_of, quotient_domain, quotient_rows}
use Rattle.stark_prover.specs.ProverFault.{IsReady, log_chunks_of}
use Rattle.stark_prover.specs.SchemeFaults.{IsSchemeFault}
use Rattle.stark_prover.specs.Sizes.{AreDomains}

module _ {F E : Type 0} (i : AirInstance F E) (base : RingOps F) (root : ℕ → F) (coset : TwoAdicCoset F) (main preprocessed : Trace F) (columns preprocessed_columns : List (List F)) (public_values : List F) (alpha : E)
    (taken : HasRows base root coset columns main.values main.width) (preprocessed_taken : HasRows base root coset preprocessed_columns preprocessed.values preprocessed.width) where
  rows : RowsOnCoset F
  rows = rows_of_columns base root coset columns preprocessed_columns public_values

  same_quotient : (k : ℕ) → k < coset_size coset → pointwise_quotient i (rows_of_matrices base root coset main preprocessed public_values) alpha k ≡ pointwise_quotient i rows alpha k
  unfolding rows
  same_quotient k below =
      let next = (k + coset_size coset / height i) % coset_size coset in
      let next_below : next < coset_size coset = mod-lt (k + coset_size coset / height i) (omega arith) in
      let x = i.embed (coset_point base root coset k) in
      let over = λ (r s t u : List F). i.ring.mul (folded i.ring alpha (constraint_values (ring_operations i.ring i.embed) (environment_of (ring_operations i.ring i.embed) i.base.zero i.ring.zero (map i.embed r) (map i.embed s) (map i.embed t) (map i.embed u)
      public_values (periodic_row i rows x) (first_row_selector i.ring (λ c. c) (group i) x) (last_row_selector i.ring (λ c. c) (group i) x) (transition_selector i.ring (λ c. c) (group i) x)) i.constraints)) (i.inverse (subgroup_vanishing i.ring (height i) x)) in
      let m = matrix_row main.values main.width in
      let f = matrix_row preprocessed.values preprocessed.width in
      ap (λ r. over r (m next) (f k) (f next)) (taken.takes.rows k below) ∙ ap (λ s. over (rows.main k) s (f k) (f next)) (taken.takes.rows next next_below) ∙
      ap (λ t. over (rows.main k) (rows.main next) t (f next)) (preprocessed_taken.takes.rows k below) ∙ ap (λ u. over (rows.main k) (rows.main next) (rows.preprocessed k) u) (preprocessed_taken.takes.rows next next_below)

  pub over_columns : (values : List E) → ArePointwiseQuotients i (rows_of_matrices base root coset main preprocessed public_values) alpha values → ArePointwiseQuotients i (rows_of_columns base root coset columns preprocessed_columns public_values) alpha values
  unfolding rows
  over_columns values are = record { number = are.number; at_point = λ k below. are.at_point k below ∙ ap (λ v. Some v) (same_quotient k below) }

-- As many values as coordinates of the elements.
pub flattened : {F E : Type 0} (coordinates : E → List F) (dimension : ℕ) → ((x : E) → length (coordinates x) ≡ dimension) → (values : List E) → length (flat_map coordinates values) ≡ length values * dimension
flattened coordinates dimension each [] = let none : 0 ≡ 0 * dimension = omega arith in none
flattened coordinates dimension each (x ∷ values) =
    ap length (flat_map-cons coordinates x values) ∙ length-append (coordinates x) (flat_map coordinates values) ∙ ap (λ n. n + length (flat_map coordinates values)) (each x) ∙
    ap (λ n. dimension + n) (flattened coordinates dimension each values) ∙
    (let turned : dimension + length values * dimension ≡ length values * dimension + dimension = omega arith in turned) ∙ sym (suc-mul (length values) dimension)

-- The quotient's domain has no point of the trace's.
pub domains_apart : {K : Type 0} {ring : RingOps K} {inverse : K → K} (laws : FieldLaws ring inverse) (adicity : ℕ) (root : ℕ → K) (generator : K) → TwoAdicLaws ring adicity root generator
    → (is_zk : Bool) (degree_bits log_parts log_chunks : ℕ) (trace committed quotient : TwoAdicCoset K) → AreDomains ring generator is_zk degree_bits log_parts log_chunks trace committed quotient
    → IsTwoAdicCoset ring adicity trace → IsTwoAdicCoset ring adicity quotient → AreDisjoint ring root trace quotient
domains_apart {ring = ring} laws adicity root generator two_adic is_zk degree_bits log_parts log_chunks trace committed quotient domains valid valid_quotient =
    shifted_is_disjoint laws adicity root generator two_adic trace quotient valid valid_quotient
    (ap (λ (c : TwoAdicCoset _). c.shift) domains.of_quotient ∙ ap (λ (c : TwoAdicCoset _). ring.mul c.shift generator) (sym domains.of_trace))

-- What is computed behind references.
pub behind_references : {M N : Type 0} (f : M → N) (r : Option (Bor M)) (o : Option M) → option_copied r ≡ o → option_map (λ m. f m.now) r ≡ option_map f o
behind_references f None o e = ap (option_map f) e
behind_references f (Some m) o e = ap (option_map f) e

-- There is a chunk for each so many points, and a chunk's committed height is within the scheme's.
pub chunks_fit : {F : Type 0} (base : RingOps F) (generator : F) (is_zk : Bool) (degree_bits log_parts log_chunks greatest : ℕ) (trace committed quotient : TwoAdicCoset F) → AreDomains base generator is_zk degree_bits log_parts log_chunks trace committed quotient
    → degree_bits ≤ greatest → (2 ^ log_chunks ≤ coset_size quotient) × (coset_size quotient * 2 ^ zk_bits is_zk ≤ 2 ^ log_chunks * 2 ^ greatest)
chunks_fit base generator is_zk degree_bits log_parts log_chunks greatest trace committed quotient domains within =
    let size : quotient.log_size ≡ degree_bits + log_parts = ap (λ (c : TwoAdicCoset _). c.log_size) domains.of_quotient in
    let chunks = domains.chunks in
    let extended = domains.extended in
    let parts : log_chunks ≤ quotient.log_size = omega (arith, size, chunks, extended) in
    let heights : quotient.log_size + zk_bits is_zk ≤ log_chunks + greatest = omega (arith, size, chunks, within) in (
      pow_mono parts,
      subst (λ n. n ≤ 2 ^ log_chunks * 2 ^ greatest) (pow-add 2 quotient.log_size (zk_bits is_zk))
          (subst (λ n. 2 ^ (quotient.log_size + zk_bits is_zk) ≤ n) (pow-add 2 log_chunks greatest) (pow_mono heights)),
    )

-- The flattened values have as many rows as there are points.
pub flat_height : {F E : Type 0} (coordinates : E → List F) (dimension : ℕ) (each : (x : E) → length (coordinates x) ≡ dimension) (values : List E) (flat : List F) (width size : ℕ)
    → flat ≡ flat_map coordinates values → width ≡ dimension → length values ≡ size → length flat ≡ size * width
flat_height coordinates dimension each values flat width size is_flat is_width number =
    ap length is_flat ∙ flattened coordinates dimension each values ∙ ap (λ n. n * dimension) number ∙ ap (λ n. size * n) (sym is_width)

module _ {S F E C K T P X Y : Type 0} (scheme : SchemeOps S F E C K T P X Y) (s : S) (air : AirInstance F E) (root : ℕ → F) (coordinates : E → List F) (dimension : ℕ) (coset : TwoAdicCoset F) (log_chunks : ℕ)
    (rows : RowsOnCoset F) (alpha : E) (values : List E) (flat : List F) (width : ℕ) (is_flat : flat ≡ flat_map coordinates values) (is_width : width ≡ dimension) (pointwise : ArePointwiseQuotients air rows alpha values) where
  pub quotient_committed : (is_zk : Bool) (commitment : K) (prover_data : T) → ((chunks : List (QuotientChunk F)) × scheme.Stands s commitment prover_data (map (committed_chunk air.base is_zk) chunks)
      × AreQuotientChunks air.base root air.ring air.inverse air.embed is_zk coset log_chunks width (matrix_row flat width) chunks
      × scheme.calls.CommitsQuotient s coset flat width (2 ^ log_chunks) (commitment, prover_data))
      → (chunks : List (QuotientChunk F)) × IsQuotientCommitment scheme s air root coordinates dimension is_zk coset log_chunks rows alpha chunks commitment prover_data
  quotient_committed is_zk commitment prover_data made = (
    made.0,
    record {
      values = values;
      pointwise = pointwise;
      chunked = subst (λ w. AreQuotientChunks air.base root air.ring air.inverse air.embed is_zk coset log_chunks w (matrix_row (flat_map coordinates values) w) made.0) is_width
          (subst (λ f. AreQuotientChunks air.base root air.ring air.inverse air.embed is_zk coset log_chunks width (matrix_row f width) made.0) is_flat made.2);
      made = subst (λ w. scheme.calls.CommitsQuotient s coset (flat_map coordinates values) w (2 ^ log_chunks) (commitment, prover_data)) is_width
          (subst (λ f. scheme.calls.CommitsQuotient s coset f width (2 ^ log_chunks) (commitment, prover_data)) is_flat made.3);
      stands = made.1;
    },
  )

  pub quotient_refused : (error : ProvingError Y) → (error ≡ ProvingError.OutOfMemory) ⊎ IsSchemeFault (codes "quotient commitment") (scheme.RefusesQuotient s coset flat width (2 ^ log_chunks)) error
      → (error ≡ ProvingError.OutOfMemory) ⊎ IsQuotientRefusal scheme s air coordinates dimension coset log_chunks rows alpha error
  quotient_refused error (inl memory) = inl memory
  quotient_refused error (inr fault) = inr (record {
    values = values;
    pointwise = pointwise;
    refused = subst (λ w. IsSchemeFault (codes "quotient commitment") (scheme.RefusesQuotient s coset (flat_map coordinates values) w (2 ^ log_chunks)) error) is_width
        (subst (λ f. IsSchemeFault (codes "quotient commitment") (scheme.RefusesQuotient s coset f width (2 ^ log_chunks)) error) is_flat fault);
  })

-- One column of elements, flattened.
pub one_column : (width columns dimension : ℕ) → width ≡ columns * dimension → columns ≡ 1 → width ≡ dimension
one_column width columns dimension is_width one = is_width ∙ ap (λ n. n * dimension) one ∙ (let once : 1 * dimension ≡ dimension = omega arith in once)

-- Periodic columns without a fault fit the trace's domain.
pub periodic_fit : {F : Type 0} (base : RingOps F) (is_zk : Bool) (degree_bits : ℕ) (columns : List (List F)) (domain : TwoAdicCoset F) → domain ≡ trace_coset base is_zk degree_bits
    → first_fault (2 ^ log_height is_zk degree_bits) 0 (map (λ column. length column) columns) ≡ None → All (λ column. ColumnFits (coset_size domain) (length column)) columns
periodic_fit base is_zk degree_bits columns domain natural fitting =
    subst (λ (d : TwoAdicCoset _). All (λ column. ColumnFits (coset_size d) (length column)) columns) (sym natural) (all_fit (λ column. length column) _ 0 columns fitting)

-- The quotient over the columns, with the domain's names of its sizes.
module _ {S F E C K T P X Y : Type 0} {ops : ProtocolOps S F E C K T P X Y} {i : Instance S F C K} {coordinates : E → List F} {preprocessed_data : Option (PreprocessedProverData K T)} {log_rows degree_bits : ℕ} {trace : Trace F} {columns preprocessed : List (List F)} {commitment : K} {prover_data : T}
    (ready : IsReady ops i coordinates preprocessed_data log_rows degree_bits trace columns preprocessed commitment prover_data) {alpha : E} {n l : ℕ} {coset : TwoAdicCoset F} (is_height : n ≡ log_rows) (is_coset : coset ≡ quotient_domain ops i degree_bits) (is_count : l ≡ log_chunks_of ops i degree_bits) where
  pub quotient_at : {quotient : K} {quotient_data : T} → ((chunks : List (QuotientChunk F)) × IsQuotientCommitment ops.opening.scheme i.scheme (air_of ops i n) ops.opening.fields.root coordinates ops.opening.fields.dimension ops.opening.is_zk coset l
      (rows_of_columns ops.opening.fields.base ops.opening.fields.root coset columns preprocessed i.public_values) alpha chunks quotient quotient_data)
      → (chunks : List (QuotientChunk F)) × IsQuotientCommitment ops.opening.scheme i.scheme (air_of ops i log_rows) ops.opening.fields.root coordinates ops.opening.fields.dimension ops.opening.is_zk (quotient_domain ops i degree_bits) (log_chunks_of ops i degree_bits)
      (quotient_rows ops i degree_bits columns preprocessed) alpha chunks quotient quotient_data
  quotient_at {quotient = quotient} {quotient_data = quotient_data} made =
      let holds = λ (m : ℕ) (c : TwoAdicCoset F) (k : ℕ). IsQuotientCommitment ops.opening.scheme i.scheme (air_of ops i m) ops.opening.fields.root coordinates ops.opening.fields.dimension ops.opening.is_zk c k
      (rows_of_columns ops.opening.fields.base ops.opening.fields.root c columns preprocessed i.public_values) alpha made.0 quotient quotient_data in
      (made.0, subst (λ m. holds m (quotient_domain ops i degree_bits) (log_chunks_of ops i degree_bits)) is_height (subst (λ c. holds n c (log_chunks_of ops i degree_bits)) is_coset (subst (λ k. holds n coset k) is_count made.1)))

  pub refusal_at : {error : ProvingError Y} → (error ≡ ProvingError.OutOfMemory)
      ⊎ IsQuotientRefusal ops.opening.scheme i.scheme (air_of ops i n) coordinates ops.opening.fields.dimension coset l (rows_of_columns ops.opening.fields.base ops.opening.fields.root coset columns preprocessed i.public_values) alpha error
      → (error ≡ ProvingError.OutOfMemory)
      ⊎ IsQuotientRefusal ops.opening.scheme i.scheme (air_of ops i log_rows) coordinates ops.opening.fields.dimension (quotient_domain ops i degree_bits) (log_chunks_of ops i degree_bits) (quotient_rows ops i degree_bits columns preprocessed) alpha error
  refusal_at (inl memory) = inl memory
  refusal_at {error = error} (inr refusal) =
      let holds = λ (m : ℕ) (c : TwoAdicCoset F) (k : ℕ). IsQuotientRefusal ops.opening.scheme i.scheme (air_of ops i m) coordinates ops.opening.fields.dimension c k (rows_of_columns ops.opening.fields.base ops.opening.fields.root c columns preprocessed i.public_values) alpha error in
      inr (subst (λ m. holds m (quotient_domain ops i degree_bits) (log_chunks_of ops i degree_bits)) is_height (subst (λ c. holds n c (log_chunks_of ops i degree_bits)) is_coset (subst (λ k. holds n coset k) is_count refusal)))
