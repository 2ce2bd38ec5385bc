-- What the calls of a scheme that commit answer, over a configuration's domains.
use Rattle.std.specs.Prelude.{◌≡◌, ◌*◌, ◌^◌, ◌≤◌, true, ℕ, Bool, List, codes, map}
use Rattle.stark_support.specs.Coset.{TwoAdicCoset, coset_size}
use Rattle.stark_support.specs.Scheme.{AreQuotientChunks, QuotientChunk, SchemeOps, committed_chunk, matrix_row, natural_coset, zk_bits}
use Rattle.stark_support.specs.declared.matrix.RowMajorMatrix.{RowMajorMatrix}
use Rattle.stark_transcript.specs.declared.error.ProvingError.{ProvingError}
use Rattle.stark_protocol.specs.Instance.{ProtocolOps, log_height}
use Rattle.stark_prover.specs.CommittedColumns.{IsRandomCommitment, IsTraceCommitment}
use Rattle.stark_completeness.specs.RowCheck.{trace_of}
use Rattle.stark_prover.specs.SchemeFaults.{IsOutOfMemoryOr, IsSchemeFault}
use Rattle.stark_prover.specs.declared.commit.Committed.{Committed}
use Rattle.stark_prover.specs.declared.domains.ProverDomains.{ProverDomains}

-- The scheme has room for the chunks of a quotient on this coset, twice as large in zero knowledge.
abbrev pub HasRoomForChunks : {S F E C K T P X Y : Type 0} → SchemeOps S F E C K T P X Y → S → Bool → TwoAdicCoset F → ℕ → Type 0
HasRoomForChunks scheme s is_zk coset log_chunks = coset_size coset * 2 ^ zk_bits is_zk ≤ 2 ^ log_chunks * 2 ^ scheme.log_max_trace_height s

module _ {S F E C K T P X Y : Type 0} (ops : ProtocolOps S F E C K T P X Y) (s : S) where
  -- The commitment stands for columns that take the trace's rows,
  abbrev pub IsOfTrace : ℕ → RowMajorMatrix F → Committed K T → Type 0
  IsOfTrace degree_bits trace made = (columns : List (List F))
      × IsTraceCommitment ops.opening.scheme s ops.opening.fields.base ops.opening.fields.root (log_height ops.opening.is_zk degree_bits) degree_bits (trace_of trace) columns made.commitment made.prover_data

  -- or the scheme refuses the trace.
  abbrev pub IsTraceRefusal : ℕ → RowMajorMatrix F → ProvingError Y → Type 0
  IsTraceRefusal degree_bits trace error = IsOutOfMemoryOr (IsSchemeFault (codes "trace commitment") (ops.opening.scheme.RefusesCommit s (natural_coset ops.opening.fields.base degree_bits) trace.values.items trace.width)) error

  -- The commitment stands for the chunks of the flattened quotient,
  abbrev pub AreChunks : {D : Type 0} → (D → TwoAdicCoset F) → ProverDomains D → RowMajorMatrix F → Committed K T → Type 0
  AreChunks coset_of of flat made = (chunks : List (QuotientChunk F)) × ops.opening.scheme.Stands s made.commitment made.prover_data (map (committed_chunk ops.opening.fields.base ops.opening.is_zk) chunks)
      × AreQuotientChunks ops.opening.fields.base ops.opening.fields.root ops.opening.fields.ring ops.opening.fields.inverse ops.opening.fields.embed ops.opening.is_zk (coset_of of.quotient) of.log_chunks flat.width (matrix_row flat.values.items flat.width) chunks
      × ops.opening.scheme.calls.CommitsQuotient s (coset_of of.quotient) flat.values.items flat.width (2 ^ of.log_chunks) (made.commitment, made.prover_data)

  -- or the scheme refuses them.
  abbrev pub IsChunksRefusal : {D : Type 0} → (D → TwoAdicCoset F) → ProverDomains D → RowMajorMatrix F → ProvingError Y → Type 0
  IsChunksRefusal coset_of of flat error = IsOutOfMemoryOr (IsSchemeFault (codes "quotient commitment") (ops.opening.scheme.RefusesQuotient s (coset_of of.quotient) flat.values.items flat.width (2 ^ of.log_chunks))) error

  -- The commitment stands for random columns,
  abbrev pub IsOfRandom : ℕ → Committed K T → Type 0
  IsOfRandom degree_bits made = (columns : List (List F)) × IsRandomCommitment ops.opening.scheme s ops.opening.fields.base degree_bits ops.opening.fields.dimension columns made.commitment made.prover_data

  -- or the scheme refuses to randomize, which it is asked for in zero knowledge alone.
  abbrev pub IsRandomRefusal : ℕ → ProvingError Y → Type 0
  IsRandomRefusal degree_bits error = IsOutOfMemoryOr (λ cause. (ops.opening.is_zk ≡ true) × IsSchemeFault (codes "randomization commitment") (ops.opening.scheme.RefusesRandomization s (natural_coset ops.opening.fields.base degree_bits)) cause) error
