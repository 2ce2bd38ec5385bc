-- What a proof has whose shape has no fault.
use Rattle.std.proofs.Common.{◌≡◌, ◌∙◌, ◌+◌, ◌^◌, ap, sym, ℕ, All, Bool, List, Option, length}
use Rattle.stark_support.specs.Coset.{TwoAdicCoset}
use Rattle.stark_support.specs.Scheme.{zk_bits}
use Rattle.stark_air.specs.Layout.{Covers}
use Rattle.stark_air.specs.Declaration.{IsDeclared, Trace}
use Rattle.stark_transcript.specs.Shape.{opens_next_row}
use Rattle.stark_proof.specs.ProofView.{ProofView}
use Rattle.stark_protocol.specs.Acceptance.{log_parts, rows_of}
use Rattle.stark_protocol.specs.Equation.{OpenedRows, opened_layout}
use Rattle.stark_protocol.specs.Instance.{Instance, ProtocolOps}
use Rattle.stark_verifier.specs.Checks.{IsShaped}
use Rattle.stark_verifier.specs.declared.shape.ProofDomains.{ProofDomains}
use Rattle.stark_verifier.proofs.ShapeSteps.{chunks_counted, chunks_long, one_width, public_values_are, rows_cover}

module _ {S F E C K T P X Y D : Type 0} {ops : ProtocolOps S F E C K T P X Y} {coset_of : D → TwoAdicCoset F} {i : Instance S F C K} {p : ProofView K E P F} {domains : ProofDomains D} (shaped : IsShaped ops coset_of i p domains) where
  abbrev alpha_is_zero : Bool
  alpha_is_zero = ops.opening.fields.same p.alpha_pow_witness ops.opening.fields.base.zero

  abbrev ood_is_zero : Bool
  ood_is_zero = ops.opening.fields.same p.ood_pow_witness ops.opening.fields.base.zero

  abbrev num_chunks : ℕ
  num_chunks = 2 ^ (log_parts ops i p + zk_bits ops.opening.is_zk)

  -- the rows of the equation
  abbrev rows : List E → OpenedRows F E
  rows periodic = rows_of ops.opening.fields.ring.zero i.layout.main i.layout.preprocessed p.opened_values periodic i.public_values

  pub shaped_public_values : length i.public_values ≡ i.layout.public_values
  shaped_public_values =
      public_values_are i.layout.public_values (length i.public_values) (opens_next_row i.main_next_columns) i.layout.main num_chunks ops.opening.fields.dimension p.opened_values i.constraint_bits alpha_is_zero i.ood_bits ood_is_zero shaped.opened

  pub shaped_widths : (periodic : List E) → length (rows periodic).preprocessed_local ≡ length (rows periodic).preprocessed_next
  shaped_widths periodic =
      one_width ops.opening.fields.ring.zero i.key i.layout i.main_next_columns i.preprocessed_next_columns p.degree_bits p.opened_values i.public_values num_chunks ops.opening.fields.dimension i.constraint_bits alpha_is_zero i.ood_bits ood_is_zero shaped.rows shaped.opened

  pub shaped_number : length p.opened_values.quotient_chunks ≡ 2 ^ domains.log_chunks
  shaped_number =
      chunks_counted ops.opening.fields.ring.zero i.key i.layout i.main_next_columns i.preprocessed_next_columns p.degree_bits p.opened_values i.public_values num_chunks ops.opening.fields.dimension i.constraint_bits alpha_is_zero i.ood_bits ood_is_zero shaped.rows shaped.opened
      ∙ sym (ap (λ (n : ℕ). 2 ^ n) shaped.quotient.is_count)

  pub shaped_dimension : All (λ chunk. length chunk ≡ ops.opening.fields.dimension) p.opened_values.quotient_chunks
  shaped_dimension =
      chunks_long ops.opening.fields.ring.zero i.key i.layout i.main_next_columns i.preprocessed_next_columns p.degree_bits p.opened_values i.public_values num_chunks ops.opening.fields.dimension i.constraint_bits alpha_is_zero i.ood_bits ood_is_zero shaped.rows shaped.opened

  pub shaped_covered : (periodic : List E) (preprocessed : Option (Trace F)) → IsDeclared i.layout preprocessed i.periodic_columns i.main_next_columns i.preprocessed_next_columns → length periodic ≡ length i.periodic_columns
      → Covers (opened_layout (rows periodic)) i.layout
  shaped_covered periodic preprocessed declared counted =
      rows_cover ops.opening.fields.ring.zero i.key i.layout i.main_next_columns i.preprocessed_next_columns p.degree_bits p.opened_values i.public_values num_chunks ops.opening.fields.dimension i.constraint_bits alpha_is_zero i.ood_bits ood_is_zero shaped.rows shaped.opened
      periodic preprocessed i.periodic_columns declared counted
