-- What one stage of a verifier leaves to the next.
use Rattle.std.specs.Prelude.{◌≡◌, ℕ, ◌+◌, ◌^◌, ◌<◌, ◌≤◌, Bool, List, None, Result, length}
use Rattle.stark_support.specs.Ring.{RingOps}
use Rattle.stark_support.specs.Coset.{TwoAdicCoset}
use Rattle.stark_support.specs.Scheme.{natural_coset, zk_bits}
use Rattle.stark_transcript.specs.Shape.{opens_next_row}
use Rattle.stark_transcript.specs.declared.error.VerificationError.{VerificationError}
use Rattle.stark_transcript.specs.declared.shape.StarkShape.{StarkShape}
use Rattle.stark_transcript.specs.declared.shape.TranscriptPhase.{TranscriptPhase}
use Rattle.stark_transcript.specs.declared.shape.TranscriptPhase.TheVariants.{Opened}
use Rattle.stark_proof.specs.ProofView.{ProofView}
use Rattle.stark_protocol.specs.Acceptance.{IsPointOfH, columns_fault, described, key_fault, log_parts, periodic_values, seeded, values_fault}
use Rattle.stark_protocol.specs.FirstFault.{PointFault}
use Rattle.stark_protocol.specs.Instance.{Instance, ProtocolOps, log_height, trace_coset}
use Rattle.stark_protocol.specs.OpenedClaims.{OpeningsVerdict}
use Rattle.stark_protocol.specs.Sizes.{quotient_coset}
use Rattle.stark_verifier.specs.Constraints.{LiesOutside}
use Rattle.stark_verifier.specs.declared.opened.ExpectedOpenings.{ExpectedOpenings}
use Rattle.stark_verifier.specs.declared.shape.ProofDomains.{ProofDomains}

-- The domains of a trace and of the committed one, of 2 ^ degree_bits points.
pub record AreTraceDomains {F D : Type 0} (base : RingOps F) (is_zk : Bool) (coset_of : D → TwoAdicCoset F) (degree_bits : ℕ) (trace committed : D) : Type 0 where
  pub is_trace : coset_of trace ≡ trace_coset base is_zk degree_bits
  pub is_committed : coset_of committed ≡ natural_coset base degree_bits

module _ {S F E C K T P X Y : Type 0} (ops : ProtocolOps S F E C K T P X Y) where
  module _ (i : Instance S F C K) (p : ProofView K E P F) where
    -- The logarithm of the number of chunks: zero knowledge makes two of each part.
    abbrev pub log_chunks : ℕ
    log_chunks = log_parts ops i p + zk_bits ops.opening.is_zk

    -- The quotient's domain, apart from the committed trace's.
    abbrev pub quotient_domain : TwoAdicCoset F
    quotient_domain = quotient_coset ops.opening.fields.base ops.opening.fields.generator (natural_coset ops.opening.fields.base p.degree_bits) (log_parts ops i p)

    -- What is to be opened, with 2 ^ log chunks.
    abbrev pub expected_openings : ℕ → ExpectedOpenings
    expected_openings log = record {
      public_values = i.layout.public_values;
      reads_next = opens_next_row i.main_next_columns;
      width = i.layout.main;
      chunks = 2 ^ log;
      dimension = ops.opening.fields.dimension;
      alpha_bits = i.constraint_bits;
      ood_bits = i.ood_bits;
    }

    -- The proof's transcript stands at its beginning, and there are as many public values as the AIR has.
    pub record IsOpened (phase : TranscriptPhase) (shape : StarkShape) (state : C) : Type 0 where
      pub counted : length i.public_values ≡ i.layout.public_values
      pub is_first : phase ≡ Opened
      pub is_described : shape ≡ described ops i p
      pub is_seeded : state ≡ seeded ops i p

    -- The first fault of zeta and the periodic columns.
    abbrev pub IsPointFault : E → VerificationError X → Type 0
    IsPointFault zeta error = PointFault (IsPointOfH ops.opening.fields (log_height ops.opening.is_zk p.degree_bits) zeta) (columns_fault ops i p) error

    -- Whether the proof's claims at zeta hold, from this state, want of memory aside.
    abbrev pub IsOpeningsVerdict : E → C → Result (Unit {0}) (VerificationError X) → Type 0
    IsOpeningsVerdict zeta state answer = OpeningsVerdict ops.opening i.scheme i.key p zeta state answer

  module _ {D : Type 0} (coset_of : D → TwoAdicCoset F) (i : Instance S F C K) (p : ProofView K E P F) where
    -- The domains of the proof's trace and of its committed one.
    abbrev pub AreDomains : D → D → Type 0
    AreDomains trace committed = AreTraceDomains ops.opening.fields.base ops.opening.is_zk coset_of p.degree_bits trace committed

    -- The quotient's domain, and the logarithm of the number of its chunks.
    pub record IsQuotient (domain : D) (chunks : ℕ) : Type 0 where
      pub is_domain : coset_of domain ≡ quotient_domain i p
      pub is_count : chunks ≡ log_chunks i p
      pub few : chunks < 64

    -- What the proof has where its shape has no fault: rows and chunks that fit, and these domains.
    pub record IsShaped (of : ProofDomains D) : Type 0 where
      pub rows : key_fault ops i p ≡ None
      pub opened : values_fault ops i p ≡ None
      pub domains : AreDomains of.trace of.committed
      pub quotient : IsQuotient of.quotient of.log_chunks
      pub extended : zk_bits ops.opening.is_zk ≤ p.degree_bits

    -- The point is none of H and no zero of its vanishing polynomial; the periodic columns fit H, and have these values there.
    pub record IsSampled (domains : ProofDomains D) (zeta : E) (values : List E) : Type 0 where
      pub outside : IsPointOfH ops.opening.fields (log_height ops.opening.is_zk p.degree_bits) zeta → ⊥
      pub nonzero : LiesOutside ops.opening.fields.ring ops.opening.fields.inverse ops.opening.fields.embed (coset_of domains.trace) zeta
      pub fitting : columns_fault ops i p ≡ None
      pub are_values : values ≡ periodic_values ops.opening.fields i.periodic_columns (log_height ops.opening.is_zk p.degree_bits) zeta
