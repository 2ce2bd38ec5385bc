use Rattle.stark_proof.specs.ProofView.{proof_view}
use Rattle.stark_proof_bytes.specs.ProofBytes.{ProofCodecsLaws, codecs, read_is_written}
use Rattle.stark_proof_bytes.proofs.file.proof_from_bytes.Goals as goal

pub returns-clause-canonical : goal.returns-clause-canonical
returns-clause-canonical g c =
    let ops = codecs g.Com.BytesCodec.bytes g.Challenge.BytesCodec.bytes g.PcsProof.BytesCodec.bytes g.Val.BytesCodec.bytes in
    let laws : ProofCodecsLaws ops = record { commitment = g.met.Com.BytesCodec.bytes_laws; challenge = g.met.Challenge.BytesCodec.bytes_laws; opening = g.met.PcsProof.BytesCodec.bytes_laws; value = g.met.Val.BytesCodec.bytes_laws } in
    read_is_written ops laws c.args.bytes.now (proof_view c.in_ok-proof.proof) c.known_bytes.ensures c.in_ok-proof.ensures
