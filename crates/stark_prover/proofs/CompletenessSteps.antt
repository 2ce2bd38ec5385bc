-- A proof of a satisfying trace is balanced.
use Rattle.std.proofs.Common.{◌≡◌, ◌∙◌, ap, sym, refl, arith, subst, ℕ, ◌+◌, ◌^◌, ◌≤◌, List, [], ◌∷◌, map, length, All, Option, None, Some, option_map, IfSome, nat_le, nat_lt}
use Rattle.std.specs.List.{AllByRecursion}
use Rattle.std.proofs.lemmas.List.Elements.{recursion_from_All}
use Rattle.std.proofs.lemmas.Bool.{ltb-false}
use Rattle.std.proofs.lemmas.Option.{same_Some}
use Rattle.stark_support.specs.Ring.{RingOps}
use Rattle.stark_support.specs.Polynomial.{HasDegreeBelow}
use Rattle.stark_support.specs.Scheme.{CommittedMatrix, SchemeLaws, SchemeOps, TakesRows, matrix_row, natural_coset, zk_bits}
use Rattle.stark_support.specs.OptionFacts.{later_none}
use Rattle.stark_support.specs.Periodic.{ColumnFits, first_fault}
use Rattle.stark_support.specs.PeriodicFacts.{all_fit}
use Rattle.stark_air.specs.Declaration.{Trace, IsDeclared}
use Rattle.stark_air.specs.Layout.{LeavesWithin}
use Rattle.stark_proof.specs.ProofView.{ProofView}
use Rattle.stark_protocol.specs.Acceptance.{Accepted, IsBalanced, IsPointOfH, challenges, log_parts}
use Rattle.stark_protocol.specs.Instance.{Instance, ProtocolOps, log_height}
use Rattle.stark_protocol.specs.ShapeFaults.{fault_if, quotient_fault}
use Rattle.stark_protocol.specs.OpenedClaims.{next_point}
use Rattle.stark_protocol.specs.declared.preprocessed.PreprocessedProverData.{PreprocessedProverData}
use Rattle.stark_protocol.specs.declared.preprocessed.PreprocessedVerifierKey.{PreprocessedVerifierKey}
use Rattle.stark_protocol.specs.AcceptanceFacts.{not_found, same_drawn}
use Rattle.stark_security.specs.BadValues.{Satisfies}
use Rattle.stark_completeness.specs.CommittedQuotient.{AreLawful}
use Rattle.stark_completeness.specs.RowSatisfaction.{HoldsInEachRow, TraceRows}
use Rattle.stark_parts.specs.SizingLaw.{HasSmallBound}
use Rattle.stark_completeness.specs.TrueOpenings.{AreTrueOpenings, columns_above}
use Rattle.stark_completeness.proofs.BalanceOfTrace.{trace_is_balanced, satisfied_by_trace}
use Rattle.stark_completeness.proofs.EquationOfTrace.{own_height}
use Rattle.stark_prover.specs.Acceptable.{IsAcceptable, accepted_outside}
use Rattle.stark_prover.specs.CommittedColumns.{IsPreprocessedCommitment, StandsForColumns}
use Rattle.stark_prover.specs.ProofOfTrace.{IsProofOfTrace, air_of, key_of, quotient_rows, row_if, true_openings, values_at}

-- Columns that a commitment stands for have degrees below its domain's size.
stood_for : {S F E C K T P X Y : Type 0} {scheme : SchemeOps S F E C K T P X Y} (laws : SchemeLaws scheme) (s : S) (base : RingOps F) (bits : ℕ) (columns : List (List F)) (commitment : K) (prover_data : T)
    → StandsForColumns scheme s base bits columns commitment prover_data → AllByRecursion (HasDegreeBelow (2 ^ bits)) columns
stood_for {F = F} laws s base bits columns commitment prover_data stands =
    let matrix : CommittedMatrix F = record { domain = natural_coset base bits; columns = columns } in
    recursion_from_All (HasDegreeBelow (2 ^ bits)) columns (laws.degrees s commitment prover_data (matrix ∷ []) stands 0 matrix (omega arith))

none_fit : {F : Type 0} (m : ℕ) (columns : List (List F)) → columns ≡ [] → AllByRecursion (HasDegreeBelow m) columns
none_fit m columns none = subst (AllByRecursion (HasDegreeBelow m)) (sym none) tt

module _ {S F E C K T P X Y : Type 0} {scheme : SchemeOps S F E C K T P X Y} (laws : SchemeLaws scheme) (s : S) (base : RingOps F) (bits : ℕ) (preprocessed : List (List F)) where
  preprocessed_fit : (preprocessed_data : Option (PreprocessedProverData K T)) → IsPreprocessedCommitment scheme s base preprocessed preprocessed_data → IfSome preprocessed_data (λ h. h.degree_bits ≡ bits) → AllByRecursion (HasDegreeBelow (2 ^ bits)) preprocessed
  preprocessed_fit None none same = none_fit (2 ^ bits) preprocessed none
  preprocessed_fit (Some h) stands same = subst (λ (b : ℕ). AllByRecursion (HasDegreeBelow (2 ^ b)) preprocessed) same (stood_for laws s base h.degree_bits preprocessed h.commitment h.prover_data stands.0)

-- Without data there are no preprocessed columns.
no_data : {S F E C K T P X Y A : Type 0} (scheme : SchemeOps S F E C K T P X Y) (s : S) (base : RingOps F) (preprocessed : List (List F)) (f : PreprocessedVerifierKey K → A) (key : Option (PreprocessedVerifierKey K))
    (preprocessed_data : Option (PreprocessedProverData K T)) → IsPreprocessedCommitment scheme s base preprocessed preprocessed_data → key ≡ option_map key_of preprocessed_data → option_map f key ≡ None → preprocessed ≡ []
no_data scheme s base preprocessed f key None none same e = none
no_data {A = A} scheme s base preprocessed f key (Some h) stands same e = absurd (let there : ◌≡◌ {A = Option A} (Some (f (key_of h))) None = sym (ap (option_map f) same) ∙ e in cc)

-- What is made of a key is there where the key is.
made_of_key : {A B : Type 0} (f : A → B) (key : Option A) (rows : B) → option_map f key ≡ Some rows → (k : A) × (rows ≡ f k)
made_of_key f None rows e = absurd (cc)
made_of_key f (Some k) rows e = (k, sym (same_Some (f k) rows e))

-- The quotient's domain has no fault of size: the field has its roots of one.
in_group : (log_parts is_zk degree_bits adicity greatest : ℕ) → quotient_fault log_parts is_zk degree_bits adicity greatest ≡ None → degree_bits + log_parts ≤ adicity
in_group log_parts is_zk degree_bits adicity greatest clear =
    let past = later_none (fault_if (nat_le 64 (log_parts + is_zk)) _) _ clear in
    let last = later_none (fault_if (nat_le 64 (degree_bits + log_parts)) _) _ past in
    ltb-false adicity (degree_bits + log_parts) (not_found (nat_lt adicity (degree_bits + log_parts)) _ last)

module _ {S F E C K T P X Y : Type 0} (ops : ProtocolOps S F E C K T P X Y) (i : Instance S F C K) (coordinates : E → List F) (preprocessed_data : Option (PreprocessedProverData K T)) (height : ℕ) (trace : Trace F) (preprocessed : List (List F)) (p : ProofView K E P F)
    (made : IsProofOfTrace ops i coordinates preprocessed_data height trace preprocessed p) where
  opened_truly : AreTrueOpenings ops.opening.fields ops.opening.is_zk i.main_next_columns i.preprocessed_next_columns made.columns preprocessed made.chunks made.zeta (next_point ops.opening p.degree_bits made.zeta) p.opened_values
  opened_truly =
      let next_zeta = next_point ops.opening p.degree_bits made.zeta in
      let opened : p.opened_values ≡ true_openings ops i made.columns preprocessed made.chunks made.random made.zeta next_zeta = made.opened in
      let preprocessed_is = ap (λ o. o.preprocessed) opened in
      record {
        local = ap (λ o. o.trace_local) opened;
        next = λ e. ap (λ o. o.trace_next) opened ∙ ap (λ b. row_if b (values_at ops i made.columns next_zeta)) e;
        preprocessed_local = λ rows e. ap (λ r. r.local) (made_of_key _ i.key rows (sym preprocessed_is ∙ e)).1;
        preprocessed_next = λ rows e reads. ap (λ r. r.next) (made_of_key _ i.key rows (sym preprocessed_is ∙ e)).1 ∙ ap (λ b. row_if b (values_at ops i preprocessed next_zeta)) reads;
        no_preprocessed = λ e. no_data ops.opening.scheme i.scheme ops.opening.fields.base preprocessed _ i.key preprocessed_data made.preprocessed made.key (sym preprocessed_is ∙ e);
        quotient = ap (λ o. o.quotient_chunks) opened;
      }

  -- The field has a domain of as many points as the trace has rows.
  pub within_field : height ≤ ops.opening.fields.adicity
  within_field = let within = in_group (log_parts ops i p) (zk_bits ops.opening.is_zk) p.degree_bits ops.opening.fields.adicity _ made.sized in let bits = made.degree_bits in omega (arith, within, bits)

  -- The proof is balanced at its own challenges, where the columns satisfy the AIR.
  pub proof_of_trace_is_balanced : AreLawful ops.opening.fields coordinates → SchemeLaws ops.opening.scheme → LeavesWithin i.layout i.constraints
      → (declared_preprocessed : Option (Trace F)) → IsDeclared i.layout declared_preprocessed i.periodic_columns i.main_next_columns i.preprocessed_next_columns
      → IfSome preprocessed_data (λ h. h.degree_bits ≡ p.degree_bits)
      → Satisfies (air_of ops i height) (columns_above ops.opening.fields.embed made.columns preprocessed i.public_values) → HasSmallBound i.constraints height p.degree_bits (log_parts ops i p)
      → IsBalanced ops i p made.alpha made.zeta
  proof_of_trace_is_balanced lawful laws leaves declared_preprocessed declared same_height satisfied small =
      let fields = ops.opening.fields in
      trace_is_balanced ops i p coordinates lawful leaves declared_preprocessed declared height (record { committed = made.degree_bits; within = in_group (log_parts ops i p) (zk_bits ops.opening.is_zk) p.degree_bits fields.adicity _ made.sized }) made.columns preprocessed
      (record {
        main_degrees = stood_for laws i.scheme fields.base p.degree_bits made.columns p.commitments.trace made.trace_data made.committed.stands;
        preprocessed_degrees = preprocessed_fit laws i.scheme fields.base p.degree_bits preprocessed preprocessed_data made.preprocessed same_height;
      })
      satisfied small (quotient_rows ops i p.degree_bits made.columns preprocessed)
      (record {
        size = refl;
        point = λ k. refl;
        main_rows = record { count = refl; rows = λ r below. refl };
        preprocessed_rows = record { count = refl; rows = λ r below. refl };
        same_public_values = refl;
      })
      made.alpha made.chunks (record { values = made.quotient.values; pointwise = made.quotient.pointwise; chunked = made.quotient.chunked }) made.zeta opened_truly

  abbrev pub rows_of_trace : (ℕ → List F) → TraceRows F
  rows_of_trace preprocessed_rows = record { main = matrix_row trace.values trace.width; preprocessed = preprocessed_rows; public_values = i.public_values }

  -- The columns satisfy the AIR where the trace does in each row, beside rows that the preprocessed columns take.
  pub satisfied_in_each_row : AreLawful ops.opening.fields coordinates → LeavesWithin i.layout i.constraints
      → (preprocessed_width : ℕ) (preprocessed_rows : ℕ → List F) → TakesRows ops.opening.fields.base ops.opening.fields.root (natural_coset ops.opening.fields.base height) preprocessed_width preprocessed_rows preprocessed
      → HoldsInEachRow (air_of ops i height) (rows_of_trace preprocessed_rows) → Satisfies (air_of ops i height) (columns_above ops.opening.fields.embed made.columns preprocessed i.public_values)
  satisfied_in_each_row lawful leaves preprocessed_width preprocessed_rows takes holds =
      let fields = ops.opening.fields in
      let same : height ≡ log_height ops.opening.is_zk p.degree_bits = own_height ops.opening.is_zk height p.degree_bits made.degree_bits in
      let fits : All (λ column. ColumnFits (2 ^ height) (length column)) i.periodic_columns =
      all_fit (λ column. length column) (2 ^ height) 0 i.periodic_columns (ap (λ (k : ℕ). first_fault (2 ^ k) 0 (map (λ column. length column) i.periodic_columns)) same ∙ made.fitting) in
      satisfied_by_trace fields coordinates lawful i.constraints i.periodic_columns height (rows_of_trace preprocessed_rows) trace.width preprocessed_width made.columns preprocessed made.committed.takes takes i.layout leaves
      within_field fits holds

  -- It is accepted where the rest of acceptance holds, and zeta lies outside H.
  pub accepted_of_balanced : (acceptable : IsAcceptable ops i p) → (IsPointOfH ops.opening.fields (log_height ops.opening.is_zk p.degree_bits) made.zeta → ⊥) → IsBalanced ops i p made.alpha made.zeta → Accepted ops i p
  accepted_of_balanced acceptable outside balanced =
      let same = same_drawn (challenges ops i p).answer made.alpha made.zeta acceptable.alpha acceptable.zeta made.drawn acceptable.drawn in
      accepted_outside ops i p acceptable (subst (λ z. IsPointOfH ops.opening.fields (log_height ops.opening.is_zk p.degree_bits) z → ⊥) same.1 outside)
      (subst (λ a. IsBalanced ops i p a acceptable.zeta) same.0 (subst (λ z. IsBalanced ops i p made.alpha z) same.1 balanced))
