-- What a prover commits to of a trace's quotient.
use Rattle.std.specs.Prelude.{◌≡◌, ℕ, ◌+◌, ◌^◌, ◌≤◌, Bool, List, length}
use Rattle.std.specs.List.{AllByRecursion, flat_map}
use Rattle.stark_support.specs.Ring.{FieldLaws}
use Rattle.stark_support.specs.Embedding.{IsEmbedding}
use Rattle.stark_support.specs.Extension.{IsBasis}
use Rattle.stark_support.specs.TwoAdic.{TwoAdicLaws}
use Rattle.stark_support.specs.Coset.{TwoAdicCoset, coset_point, coset_size}
use Rattle.stark_support.specs.Polynomial.{HasDegreeBelow}
use Rattle.stark_support.specs.Scheme.{AreQuotientChunks, QuotientChunk, TakesRows, matrix_row, natural_coset, zk_bits}
use Rattle.stark_support.specs.FieldPair.{FieldsOps}
use Rattle.stark_protocol.specs.Sizes.{quotient_coset}
use Rattle.stark_security.specs.ConstraintPolynomial.{AirInstance}
use Rattle.stark_quotient.specs.PointwiseQuotient.{ArePointwiseQuotients, RowsOnCoset}

-- The base field and the extension are fields, the one inside the other with its basis, and the base has its roots of one.
pub record AreLawful {F E : Type 0} (fields : FieldsOps F E) (coordinates : E → List F) : Type 0 where
  pub base : FieldLaws fields.base fields.base_inverse
  pub extension : FieldLaws fields.ring fields.inverse
  pub embeds : IsEmbedding fields.base fields.ring fields.embed
  pub two_adic : TwoAdicLaws fields.base fields.adicity fields.root fields.generator
  pub is_basis : IsBasis fields.ring fields.embed fields.dimension fields.basis coordinates

-- The rows on a coset are those of columns, by the number of the point.
pub record AreRowsOfColumns {F E : Type 0} (fields : FieldsOps F E) (coset : TwoAdicCoset F) (main preprocessed : List (List F)) (public_values : List F) (rows : RowsOnCoset F) : Type 0 where
  pub size : rows.size ≡ coset_size coset
  pub point : (k : ℕ) → rows.point k ≡ coset_point fields.base fields.root coset k
  pub main_rows : TakesRows fields.base fields.root coset (length main) rows.main main
  pub preprocessed_rows : TakesRows fields.base fields.root coset (length preprocessed) rows.preprocessed preprocessed
  pub same_public_values : rows.public_values ≡ public_values

-- A trace of 2 ^ height rows is committed at 2 ^ degree_bits, twice as many in zero knowledge, and the field has the roots of
-- one of its quotient's domain.
pub record AreProofSizes (adicity : ℕ) (is_zk : Bool) (height degree_bits log_parts : ℕ) : Type 0 where
  pub committed : degree_bits ≡ height + zk_bits is_zk
  pub within : degree_bits + log_parts ≤ adicity

-- The degrees of all columns are below the committed height.
pub record FitCommitted {F : Type 0} (degree_bits : ℕ) (main preprocessed : List (List F)) : Type 0 where
  pub main_degrees : AllByRecursion (HasDegreeBelow (2 ^ degree_bits)) main
  pub preprocessed_degrees : AllByRecursion (HasDegreeBelow (2 ^ degree_bits)) preprocessed

-- The chunks are those of the pointwise quotient at alpha over rows on the quotient's domain, flattened in coordinates.
pub record AreChunksOfQuotient {F E : Type 0} (fields : FieldsOps F E) (coordinates : E → List F) (air : AirInstance F E) (is_zk : Bool) (degree_bits log_parts : ℕ)
    (rows : RowsOnCoset F) (alpha : E) (chunks : List (QuotientChunk F)) : Type 0 where
  pub values : List E
  pub pointwise : ArePointwiseQuotients air rows alpha values
  pub chunked : AreQuotientChunks fields.base fields.root fields.ring fields.inverse fields.embed is_zk (quotient_coset fields.base fields.generator (natural_coset fields.base degree_bits) log_parts) (log_parts + zk_bits is_zk)
      fields.dimension (matrix_row (flat_map coordinates values) fields.dimension) chunks
