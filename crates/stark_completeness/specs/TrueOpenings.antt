-- What a prover opens: the values of the columns that it committed to.
use Rattle.std.specs.Prelude.{◌≡◌, ℕ, Bool, true, List, [], map, None, Some}
use Rattle.stark_support.specs.Scheme.{QuotientChunk, committed_chunk, row_at}
use Rattle.stark_air.specs.Tree.{Constraint}
use Rattle.stark_transcript.specs.Shape.{opens_next_row}
use Rattle.stark_proof.specs.ProofView.{OpeningsView, PreprocessedView}
use Rattle.stark_support.specs.FieldPair.{FieldsOps}
use Rattle.stark_security.specs.ConstraintPolynomial.{AirInstance, Columns}

-- An AIR of these constraints and periodic columns over 2 ^ log_size rows.
abbrev pub air_over : {F E : Type 0} → FieldsOps F E → List (Constraint F) → List (List F) → ℕ → AirInstance F E
air_over fields constraints periodic log_size = record {
  base = fields.base;
  base_inverse = fields.base_inverse;
  ring = fields.ring;
  inverse = fields.inverse;
  embed = fields.embed;
  basis = fields.basis;
  generator = fields.root log_size;
  log_size = log_size;
  constraints = constraints;
  periodic = periodic;
}

-- Columns over the base field, seen in the extension.
abbrev pub columns_above : {F E : Type 0} → (F → E) → List (List F) → List (List F) → List F → Columns F E
columns_above embed main preprocessed public_values = record { main = map (map embed) main; preprocessed = map (map embed) preprocessed; public_values = public_values }

-- The opened rows are the columns' values at zeta and, where the AIR declares columns of the next row, at the next point; the
-- chunks are the values of their committed columns. Without preprocessed rows there are no preprocessed columns.
pub record AreTrueOpenings {F E : Type 0} (fields : FieldsOps F E) (is_zk : Bool) (main_next preprocessed_next_columns : List ℕ) (main preprocessed : List (List F)) (chunks : List (QuotientChunk F)) (zeta next_zeta : E) (opened : OpeningsView E) : Type 0 where
  pub local : opened.trace_local ≡ row_at fields.ring fields.embed main zeta
  pub next : opens_next_row main_next ≡ true → opened.trace_next ≡ Some (row_at fields.ring fields.embed main next_zeta)
  pub preprocessed_local : (rows : PreprocessedView E) → opened.preprocessed ≡ Some rows → rows.local ≡ row_at fields.ring fields.embed preprocessed zeta
  pub preprocessed_next : (rows : PreprocessedView E) → opened.preprocessed ≡ Some rows → opens_next_row preprocessed_next_columns ≡ true → rows.next ≡ Some (row_at fields.ring fields.embed preprocessed next_zeta)
  pub no_preprocessed : opened.preprocessed ≡ None → preprocessed ≡ []
  pub quotient : opened.quotient_chunks ≡ map (λ chunk. row_at fields.ring fields.embed (committed_chunk fields.base is_zk chunk).columns zeta) chunks
