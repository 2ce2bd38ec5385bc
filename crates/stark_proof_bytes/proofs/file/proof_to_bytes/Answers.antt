use Rattle.std.proofs.Common.{◌≡◌, ◌∙◌, ap, rules}
use Rattle.stark_proof.specs.ProofView.{proof_view}
use Rattle.stark_proof_bytes.specs.ProofBytes.{ProofCodecsLaws, codecs, proof_reading, proof_writing, written_is_read}
use Rattle.stark_proof_bytes.proofs.file.proof_to_bytes.Goals as goal

pub returns-clause-read_back : goal.returns-clause-read_back
returns-clause-read_back g c =
    let ops = codecs g.Com.BytesCodec.bytes g.Challenge.BytesCodec.bytes g.PcsProof.BytesCodec.bytes g.Val.BytesCodec.bytes in
    let laws : ProofCodecsLaws ops = record { commitment = g.met.Com.BytesCodec.bytes_laws; challenge = g.met.Challenge.BytesCodec.bytes_laws; opening = g.met.PcsProof.BytesCodec.bytes_laws; value = g.met.Val.BytesCodec.bytes_laws } in
    let written : c.write_proof.new.out.items ≡ proof_writing ops (proof_view c.args.proof.now) = search rules in
    ap (λ bytes. proof_reading ops bytes) written ∙ written_is_read ops laws (proof_view c.args.proof.now) c.in_ok-write_proof.ensures.fits
