-- What stands before the point of a proof is drawn.
use Rattle.std.proofs.Common.{◌≡◌, ◌∙◌, ◌⊎◌, ap, inl, inr, sym, subst, ℕ, List, Option, Ok, option_map}
use Rattle.std.specs.Prelude.{codes, true}
use Rattle.stark_support.specs.Scheme.{QuotientChunk, natural_coset}
use Rattle.stark_air.specs.Declaration.{Trace}
use Rattle.stark_transcript.specs.Replay.{constraint_events, constraint_outcome, prover_constraint_outcome, succeeds}
use Rattle.stark_transcript.specs.declared.error.ProvingError.{ProvingError}
use Rattle.stark_transcript.specs.declared.shape.GrindExhausted.{GrindExhausted}
use Rattle.stark_transcript.specs.declared.shape.StarkShape.{StarkShape}
use Rattle.stark_transcript.specs.declared.shape.TranscriptPhase.TheVariants.{Bound}
use Rattle.stark_protocol.specs.Instance.{Instance, ProtocolOps}
use Rattle.stark_protocol.specs.declared.preprocessed.PreprocessedProverData.{PreprocessedProverData}
use Rattle.stark_prover.specs.CommittedColumns.{IsQuotientCommitment, IsQuotientRefusal}
use Rattle.stark_prover.specs.ProofOfTrace.{air_of, quotient_domain, quotient_rows}
use Rattle.stark_prover.specs.ProverFault.{HasQuotient, IsBound, IsReady, ProverFault, alpha_outcome, described, in_alpha_work, in_quotient, in_randomization, log_chunks_of, seeded}
use Rattle.stark_prover.specs.SchemeFaults.{IsSchemeFault}
use Rattle.stark_prover.specs.Work.{IsExhausted}

module _ {S F E C K T P X Y : Type 0} {ops : ProtocolOps S F E C K T P X Y} {i : Instance S F C K} {coordinates : E → List F} {preprocessed_data : Option (PreprocessedProverData K T)} {height degree_bits : ℕ} {trace : Trace F}
    {columns preprocessed : List (List F)} {commitment : K} {prover_data : T} where
  module _ (ready : IsReady ops i coordinates preprocessed_data height degree_bits trace columns preprocessed commitment prover_data) (shape : StarkShape) (start : C) (key : Option K) (is_shape : shape ≡ described ops i degree_bits)
      (is_start : start ≡ seeded ops i degree_bits) (is_key : key ≡ option_map (λ k. k.commitment) i.key) where
    alpha_outcomes : prover_constraint_outcome ops.sponge shape commitment key i.public_values start ≡ alpha_outcome ops i degree_bits commitment
    alpha_outcomes =
        ap (λ sh. prover_constraint_outcome ops.sponge sh commitment key i.public_values start) is_shape ∙
        ap (λ st. prover_constraint_outcome ops.sponge (described ops i degree_bits) commitment key i.public_values st) is_start ∙
        ap (λ k. prover_constraint_outcome ops.sponge (described ops i degree_bits) commitment k i.public_values (seeded ops i degree_bits)) is_key

    -- No witness of the work before alpha is found.
    pub alpha_work_refused : (error : GrindExhausted) → IsExhausted ops.sponge shape.constraint_pow_bits (constraint_events commitment key i.public_values) start error
        → ProverFault ops i coordinates preprocessed_data height degree_bits trace (ProvingError.GrindExhausted error.bits)
    alpha_work_refused error exhausted =
        let bits_are : shape.constraint_pow_bits ≡ i.constraint_bits = ap (λ s. s.constraint_pow_bits) is_shape in
        let right : IsExhausted ops.sponge i.constraint_bits (constraint_events commitment (option_map (λ k. k.commitment) i.key) i.public_values) (seeded ops i degree_bits) error =
        subst (λ k. IsExhausted ops.sponge i.constraint_bits (constraint_events commitment k i.public_values) (seeded ops i degree_bits) error) is_key
        (subst (λ st. IsExhausted ops.sponge i.constraint_bits (constraint_events commitment key i.public_values) st error) is_start
        (subst (λ bits. IsExhausted ops.sponge bits (constraint_events commitment key i.public_values) start error) bits_are exhausted)) in
        subst (λ bits. ProverFault ops i coordinates preprocessed_data height degree_bits trace (ProvingError.GrindExhausted bits)) (sym right.bits_are) (in_alpha_work ready right.none_passes)

    pub bound_of : (state : C) (alpha : E) (alpha_witness : F) → constraint_outcome ops.sponge shape commitment key i.public_values alpha_witness start ≡ succeeds alpha state Bound
        → ((witness : Option F) × ((prover_constraint_outcome ops.sponge shape commitment key i.public_values start).answer ≡ Ok (alpha, witness)))
        → state ≡ (prover_constraint_outcome ops.sponge shape commitment key i.public_values start).state → (shape.constraint_pow_bits ≡ 0 → alpha_witness ≡ ops.opening.fields.base.zero)
        → IsBound ops i coordinates preprocessed_data height degree_bits trace columns preprocessed commitment prover_data alpha alpha_witness state
    bound_of state alpha alpha_witness drawn answer left no_work = record {
      ready = ready;
      witness = answer.0;
      answered = sym (ap (λ o. o.answer) alpha_outcomes) ∙ answer.1;
      left = left ∙ ap (λ o. o.state) alpha_outcomes;
      drawn = subst (λ k. constraint_outcome ops.sponge (described ops i degree_bits) commitment k i.public_values alpha_witness (seeded ops i degree_bits) ≡ succeeds alpha state Bound) is_key
          (subst (λ st. constraint_outcome ops.sponge (described ops i degree_bits) commitment key i.public_values alpha_witness st ≡ succeeds alpha state Bound) is_start
          (subst (λ sh. constraint_outcome ops.sponge sh commitment key i.public_values alpha_witness start ≡ succeeds alpha state Bound) is_shape drawn));
      no_work = λ none. no_work (ap (λ s. s.constraint_pow_bits) is_shape ∙ none);
    }

  module _ {alpha : E} {alpha_witness : F} {state : C} (bound : IsBound ops i coordinates preprocessed_data height degree_bits trace columns preprocessed commitment prover_data alpha alpha_witness state) where
    pub quotient_made : {quotient : K} {quotient_data : T} → ((chunks : List (QuotientChunk F)) × IsQuotientCommitment ops.opening.scheme i.scheme (air_of ops i height) ops.opening.fields.root coordinates ops.opening.fields.dimension ops.opening.is_zk (quotient_domain ops i degree_bits)
        (log_chunks_of ops i degree_bits) (quotient_rows ops i degree_bits columns preprocessed) alpha chunks quotient quotient_data)
        → (chunks : List (QuotientChunk F)) × HasQuotient ops i coordinates preprocessed_data height degree_bits trace columns preprocessed commitment prover_data alpha alpha_witness state chunks quotient quotient_data
    quotient_made made = (made.0, record { bound = bound; quotient_committed = made.1 })

    pub refused_quotient : (error : ProvingError Y) → (error ≡ ProvingError.OutOfMemory)
        ⊎ IsQuotientRefusal ops.opening.scheme i.scheme (air_of ops i height) coordinates ops.opening.fields.dimension (quotient_domain ops i degree_bits) (log_chunks_of ops i degree_bits) (quotient_rows ops i degree_bits columns preprocessed) alpha error
        → (error ≡ ProvingError.OutOfMemory) ⊎ ProverFault ops i coordinates preprocessed_data height degree_bits trace error
    refused_quotient error (inl memory) = inl memory
    refused_quotient error (inr refusal) = inr (in_quotient bound refusal)

  -- The quotient is refused, or else the randomization behind it.
  pub refused_randomization : {alpha : E} {alpha_witness : F} {state : C} {chunks : List (QuotientChunk F)} {quotient : K} {quotient_data : T} → HasQuotient ops i coordinates preprocessed_data height degree_bits trace columns preprocessed commitment prover_data alpha alpha_witness state chunks quotient quotient_data
      → (error : ProvingError Y) → (error ≡ ProvingError.OutOfMemory) ⊎ ((ops.opening.is_zk ≡ true) × IsSchemeFault (codes "randomization commitment") (ops.opening.scheme.RefusesRandomization i.scheme (natural_coset ops.opening.fields.base degree_bits)) error)
      → (error ≡ ProvingError.OutOfMemory) ⊎ ProverFault ops i coordinates preprocessed_data height degree_bits trace error
  refused_randomization made error (inl memory) = inl memory
  refused_randomization made error (inr fault) = inr (in_randomization made fault.0 fault.1)
