-- The parts of a proof: what is bound, and that its transcript lacks no commitment.
use Rattle.std.proofs.Common.{◌≡◌, ◌∙◌, ap, refl, sym, subst, ℕ, Bool, true, false, List, Option, None, Some, option_map}
use Rattle.std.specs.Borrow.{Bor}
use Rattle.std.specs.Option.{option_copied}
use Rattle.std.specs.Prelude.{IfSome, is_some, ltb}
use Rattle.stark_support.specs.Scheme.{QuotientChunk}
use Rattle.stark_air.specs.Declaration.{Trace}
use Rattle.stark_transcript.specs.Replay.{optional_fault, preprocessed_fault, random_fault}
use Rattle.stark_transcript.specs.declared.shape.StarkShape.{StarkShape}
use Rattle.stark_transcript.specs.declared.shape.StarkTranscriptFailure.{StarkTranscriptFailure}
use Rattle.stark_proof.specs.ProofView.{ProofView}
use Rattle.stark_protocol.specs.Instance.{Instance, ProtocolOps}
use Rattle.stark_protocol.specs.ShapeFaults.{width_in_force}
use Rattle.stark_protocol.specs.declared.preprocessed.PreprocessedProverData.{PreprocessedProverData}
use Rattle.stark_prover.specs.BoundProof.{IsBoundProof}
use Rattle.stark_prover.specs.CommittedColumns.{IsRandomCommitment}
use Rattle.stark_prover.specs.ProofOfTrace.{IsProofOfTrace, IsRandomization, key_of, with_masks, without_masks}
use Rattle.stark_prover.specs.ProverFault.{HasQuotient}
use Rattle.stark_prover.specs.declared.commit.Committed.{Committed}

none_where_same : (described_there is_there : Bool) (missing unexpected : StarkTranscriptFailure) → is_there ≡ described_there → optional_fault described_there is_there missing unexpected ≡ None
none_where_same true true missing unexpected same = refl
none_where_same true false missing unexpected same = ap (λ b. optional_fault true b missing unexpected) same
none_where_same false true missing unexpected same = ap (λ b. optional_fault false b missing unexpected) same
none_where_same false false missing unexpected same = refl

-- A random commitment lacks nowhere.
pub random_clear : (shape other : StarkShape) {there : Bool} → shape ≡ other → there ≡ other.has_randomization → random_fault shape there ≡ None
random_clear shape other {there = there} is_shape same = none_where_same _ there _ _ (same ∙ sym (ap (λ (s : StarkShape). s.has_randomization) is_shape))

-- The data are there exactly where a shape of its width, or of the AIR's, has preprocessed columns.
pub data_clear : {K T : Type 0} (shape other : StarkShape) (preprocessed_data : Option (Bor (PreprocessedProverData K T))) (width : ℕ) → shape ≡ other → other.preprocessed_width ≡ width_in_force (option_map key_of (option_copied preprocessed_data)) width
    → is_some preprocessed_data ≡ ltb 0 width → IfSome (option_copied preprocessed_data) (λ h. h.width ≡ width) → preprocessed_fault shape (is_some preprocessed_data) ≡ None
data_clear shape other None width is_shape in_force there same = none_where_same _ false _ _ (there ∙ sym (ap (λ n. ltb 0 n) (ap (λ (s : StarkShape). s.preprocessed_width) is_shape ∙ in_force)))
data_clear shape other (Some preprocessed_data) width is_shape in_force there same = none_where_same _ true _ _ (there ∙ sym (ap (λ n. ltb 0 n) (ap (λ (s : StarkShape). s.preprocessed_width) is_shape ∙ in_force ∙ same)))

module _ {S F E C K T P X Y : Type 0} {ops : ProtocolOps S F E C K T P X Y} {i : Instance S F C K} where
  -- What a proof is, is said of what it carries.
  pub proof_by_view : {coordinates : E → List F} {preprocessed_data : Option (PreprocessedProverData K T)} {height : ℕ} {trace : Trace F} {preprocessed : List (List F)} {proof carried : ProofView K E P F} → proof ≡ carried → IsProofOfTrace ops i coordinates preprocessed_data height trace preprocessed carried → IsProofOfTrace ops i coordinates preprocessed_data height trace preprocessed proof
  proof_by_view {coordinates = coordinates} {preprocessed_data = preprocessed_data} {height = height} {trace = trace} {preprocessed = preprocessed} same made = subst (λ p. IsProofOfTrace ops i coordinates preprocessed_data height trace preprocessed p) (sym same) made

  -- What is committed to for randomization.
  pub randomization_of : {degree_bits : ℕ} (random : Option (Committed K T)) → is_some random ≡ ops.opening.is_zk
      → IfSome random (λ made. (columns : List (List F)) × IsRandomCommitment ops.opening.scheme i.scheme ops.opening.fields.base degree_bits ops.opening.fields.dimension columns made.commitment made.prover_data)
      → (columns : Option (List (List F))) × IsRandomization ops i degree_bits (option_map (λ made. made.commitment) random) (option_map (λ made. made.prover_data) random) columns
  randomization_of None there made = (None, without_masks (sym there))
  randomization_of (Some random) there made = (Some made.0, with_masks (sym there) made.1)

  -- It is there exactly in zero knowledge.
  pub random_where_masked : {degree_bits : ℕ} {random_data : Option T} {columns : Option (List (List F))} (random : Option (Committed K T)) → IsRandomization ops i degree_bits (option_map (λ made. made.commitment) random) random_data columns → is_some random ≡ ops.opening.is_zk
  random_where_masked None (without_masks plain) = sym plain
  random_where_masked (Some random) (with_masks masked stands) = sym masked

  pub bound_made : {degree_bits : ℕ} {coordinates : E → List F} {preprocessed_data : Option (PreprocessedProverData K T)} {height : ℕ} {trace : Trace F} {columns preprocessed : List (List F)} {commitment : K} {prover_data : T} {alpha : E} {alpha_witness : F} {state : C} {quotient : K} {quotient_data : T} {random : Option K} {random_data : Option T}
      → ((chunks : List (QuotientChunk F)) × HasQuotient ops i coordinates preprocessed_data height degree_bits trace columns preprocessed commitment prover_data alpha alpha_witness state chunks quotient quotient_data)
      → ((random_columns : Option (List (List F))) × IsRandomization ops i degree_bits random random_data random_columns) → IsBoundProof ops i coordinates preprocessed_data height degree_bits trace preprocessed commitment prover_data alpha alpha_witness state quotient quotient_data random random_data
  bound_made {columns = columns} made randomized = record { columns = columns; chunks = made.0; random_columns = randomized.0; made = made.1; randomization = randomized.1 }
