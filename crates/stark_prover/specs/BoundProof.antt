-- What a proof has before its point is drawn.
use Rattle.std.specs.Prelude.{ℕ, List, Option}
use Rattle.stark_support.specs.Scheme.{QuotientChunk}
use Rattle.stark_air.specs.Declaration.{Trace}
use Rattle.stark_protocol.specs.Instance.{Instance, ProtocolOps}
use Rattle.stark_protocol.specs.declared.preprocessed.PreprocessedProverData.{PreprocessedProverData}
use Rattle.stark_prover.specs.ProofOfTrace.{IsRandomization}
use Rattle.stark_prover.specs.ProverFault.{HasQuotient}

-- Alpha is drawn with this witness, the quotient over the committed columns is committed to, and the random commitment is there exactly in zero knowledge.
pub record IsBoundProof {S F E C K T P X Y : Type 0} (ops : ProtocolOps S F E C K T P X Y) (i : Instance S F C K) (coordinates : E → List F) (preprocessed_data : Option (PreprocessedProverData K T)) (height degree_bits : ℕ) (trace : Trace F) (preprocessed : List (List F))
    (commitment : K) (prover_data : T) (alpha : E) (alpha_witness : F) (state : C) (quotient : K) (quotient_data : T) (random : Option K) (random_data : Option T) : Type 0 where
  pub columns : List (List F)
  pub chunks : List (QuotientChunk F)
  pub random_columns : Option (List (List F))
  pub made : HasQuotient ops i coordinates preprocessed_data height degree_bits trace columns preprocessed commitment prover_data alpha alpha_witness state chunks quotient quotient_data
  pub randomization : IsRandomization ops i degree_bits random random_data random_columns
