-- A proof whose quotient is that of a satisfying trace and whose opened values are true is balanced; and what a trace's rows say
-- of the columns that take them.
use Rattle.std.proofs.Common.{◌∙◌, ap, sym, refl, subst, ℕ, ◌^◌, ◌≤◌, List, map, length, All, Option}
use Rattle.stark_support.specs.RingFacts.{one_mul}
use Rattle.stark_support.specs.Powers.{power}
use Rattle.stark_support.specs.Periodic.{ColumnFits}
use Rattle.stark_support.specs.Scheme.{QuotientChunk, TakesRows, natural_coset, row_at}
use Rattle.stark_air.specs.Declaration.{Trace, IsDeclared}
use Rattle.stark_air.specs.Layout.{Layout, LeavesWithin}
use Rattle.stark_air.specs.Tree.{Constraint}
use Rattle.stark_proof.specs.ProofView.{ProofView}
use Rattle.stark_protocol.specs.Acceptance.{IsBalanced, log_parts}
use Rattle.stark_support.specs.FieldPair.{FieldsOps}
use Rattle.stark_protocol.specs.Instance.{Instance, ProtocolOps}
use Rattle.stark_protocol.specs.OpenedClaims.{next_point}
use Rattle.stark_protocol.specs.Sizes.{quotient_coset}
use Rattle.stark_security.specs.BadValues.{Satisfies}
use Rattle.stark_quotient.specs.PointwiseQuotient.{RowsOnCoset}
use Rattle.stark_quotient.specs.QuotientOfColumns.{AreValuesOfColumns, embedded_rows}
use Rattle.stark_completeness.specs.CommittedQuotient.{AreLawful, AreRowsOfColumns, AreProofSizes, FitCommitted, AreChunksOfQuotient}
use Rattle.stark_completeness.specs.RowSatisfaction.{TraceRows, HoldsInEachRow, IsSatisfiedByRows, rows_on_group}
use Rattle.stark_parts.specs.SizingLaw.{HasSmallBound}
use Rattle.stark_completeness.specs.TrueOpenings.{AreTrueOpenings, air_over, columns_above}
use Rattle.stark_completeness.proofs.EquationOfTrace.{equation_of_trace, own_height}
use Rattle.stark_completeness.proofs.RowSatisfactionSteps.{satisfied_by_rows, rows_of_satisfied}

-- ---- satisfaction

module _ {F E : Type 0} (fields : FieldsOps F E) (coordinates : E → List F) (lawful : AreLawful fields coordinates) (constraints : List (Constraint F)) (periodic : List (List F)) (log_size : ℕ)
    (rows : TraceRows F) (main_width preprocessed_width : ℕ) (main preprocessed : List (List F))
    (main_takes : TakesRows fields.base fields.root (natural_coset fields.base log_size) main_width rows.main main)
    (preprocessed_takes : TakesRows fields.base fields.root (natural_coset fields.base log_size) preprocessed_width rows.preprocessed preprocessed) where
  values_on_group : AreValuesOfColumns (air_over fields constraints periodic log_size) (rows_on_group (air_over fields constraints periodic log_size) rows) (columns_above fields.embed main preprocessed rows.public_values)
  values_on_group =
      let group = natural_coset fields.base log_size in
      let at = λ (columns : List (List F)) (k : ℕ). ap (λ x. row_at fields.ring (λ c. c) (map (map fields.embed) columns) (fields.embed x)) (one_mul lawful.base.of_ring (power fields.base (fields.root log_size) k)) in
      record {
        main = λ k below. embedded_rows lawful.embeds fields.root group main_width rows.main main main_takes k below ∙ at main k;
        preprocessed = λ k below. embedded_rows lawful.embeds fields.root group preprocessed_width rows.preprocessed preprocessed preprocessed_takes k below ∙ at preprocessed k;
        public_values = refl;
      }

  module _ (l : Layout) (leaves : LeavesWithin l constraints) (within : log_size ≤ fields.adicity) (fitting : All (λ column. ColumnFits (2 ^ log_size) (length column)) periodic) where
    -- Columns that take a trace's rows satisfy an AIR where the trace does in each row,
    pub satisfied_by_trace : HoldsInEachRow (air_over fields constraints periodic log_size) rows → Satisfies (air_over fields constraints periodic log_size) (columns_above fields.embed main preprocessed rows.public_values)
    satisfied_by_trace =
        satisfied_by_rows (air_over fields constraints periodic log_size) lawful.base lawful.extension lawful.embeds fields.adicity fields.root fields.generator lawful.two_adic refl within l leaves fitting rows
        (columns_above fields.embed main preprocessed rows.public_values) values_on_group

    -- and only there.
    pub trace_of_satisfied : Satisfies (air_over fields constraints periodic log_size) (columns_above fields.embed main preprocessed rows.public_values) → HoldsInEachRow (air_over fields constraints periodic log_size) rows
    trace_of_satisfied =
        rows_of_satisfied (air_over fields constraints periodic log_size) lawful.base lawful.extension lawful.embeds fields.adicity fields.root fields.generator lawful.two_adic refl within l leaves fitting rows
        (columns_above fields.embed main preprocessed rows.public_values) values_on_group

-- Both at once, of all rows and columns.
pub row_by_row : {F E : Type 0} (fields : FieldsOps F E) (coordinates : E → List F) → AreLawful fields coordinates → (constraints : List (Constraint F)) (periodic : List (List F)) (log_size : ℕ) (l : Layout)
    → LeavesWithin l constraints → log_size ≤ fields.adicity → All (λ column. ColumnFits (2 ^ log_size) (length column)) periodic → IsSatisfiedByRows fields constraints periodic log_size
row_by_row fields coordinates lawful constraints periodic log_size l leaves within fitting = λ rows main_width preprocessed_width main preprocessed main_takes preprocessed_takes. (
  satisfied_by_trace fields coordinates lawful constraints periodic log_size rows main_width preprocessed_width main preprocessed main_takes preprocessed_takes l leaves within fitting,
  trace_of_satisfied fields coordinates lawful constraints periodic log_size rows main_width preprocessed_width main preprocessed main_takes preprocessed_takes l leaves within fitting,
)

-- ---- the verifier's equation

-- The equation holds at each zeta at which the opened values are true.
pub trace_is_balanced : {S F E C K T P X Y : Type 0} (ops : ProtocolOps S F E C K T P X Y) (i : Instance S F C K) (p : ProofView K E P F) (coordinates : E → List F) → AreLawful ops.opening.fields coordinates
    → LeavesWithin i.layout i.constraints → (declared_preprocessed : Option (Trace F)) → IsDeclared i.layout declared_preprocessed i.periodic_columns i.main_next_columns i.preprocessed_next_columns
    → (height : ℕ) → AreProofSizes ops.opening.fields.adicity ops.opening.is_zk height p.degree_bits (log_parts ops i p)
    → (main preprocessed : List (List F)) → FitCommitted p.degree_bits main preprocessed
    → Satisfies (air_over ops.opening.fields i.constraints i.periodic_columns height) (columns_above ops.opening.fields.embed main preprocessed i.public_values)
    → HasSmallBound i.constraints height p.degree_bits (log_parts ops i p)
    → (rows : RowsOnCoset F)
    → AreRowsOfColumns ops.opening.fields (quotient_coset ops.opening.fields.base ops.opening.fields.generator (natural_coset ops.opening.fields.base p.degree_bits) (log_parts ops i p)) main preprocessed i.public_values rows
    → (alpha : E) (chunks : List (QuotientChunk F))
    → AreChunksOfQuotient ops.opening.fields coordinates (air_over ops.opening.fields i.constraints i.periodic_columns height) ops.opening.is_zk p.degree_bits (log_parts ops i p) rows alpha chunks
    → (zeta : E) → AreTrueOpenings ops.opening.fields ops.opening.is_zk i.main_next_columns i.preprocessed_next_columns main preprocessed chunks zeta (next_point ops.opening p.degree_bits zeta) p.opened_values
    → IsBalanced ops i p alpha zeta
trace_is_balanced ops i p coordinates lawful leaves declared_preprocessed declared height sizes main preprocessed fit satisfied small rows are_rows alpha chunks committed zeta opened =
    let fields = ops.opening.fields in
    let is_zk = ops.opening.is_zk in
    record {
      equation = equation_of_trace fields coordinates lawful i.constraints i.periodic_columns i.layout leaves is_zk height p.degree_bits (log_parts ops i p) sizes main preprocessed i.public_values fit satisfied small rows are_rows alpha chunks committed
          declared_preprocessed i.main_next_columns i.preprocessed_next_columns declared zeta p.opened_values
          (subst (λ k. AreTrueOpenings fields is_zk i.main_next_columns i.preprocessed_next_columns main preprocessed chunks zeta (fields.ring.mul (fields.embed (fields.root k)) zeta) p.opened_values)
          (sym (own_height is_zk height p.degree_bits sizes.committed)) opened);
    }
