use Rattle.std.proofs.Common.{◌≡◌, ap, ◌∙◌, rules, arith}
use Rattle.serde_json.specs.View.{view}
use Rattle.stark_proof.specs.ProofView.{proof_view}
use Rattle.stark_proof.specs.ProofJson.{proof_reading, proof_writing}
use Rattle.stark_proof.proofs.ReadBack.{proof_back}
use Rattle.stark_proof.proofs.values.Proof.to_json.Goals as goal

pub returns-clause-read_back : goal.returns-clause-read_back
unfolding proof_writing
returns-clause-read_back g c =
    let written : view c.in_ok-value.value ≡ proof_writing g.Com.JsonCodec.writing g.Challenge.JsonCodec.writing g.PcsProof.JsonCodec.writing g.Val.JsonCodec.writing g.Val.PartialEq.eq g.Val.Field.ring.zero (proof_view c.args.self.now) = search rules in
    ap (proof_reading g.Com.JsonCodec.reading g.Challenge.JsonCodec.reading g.PcsProof.JsonCodec.reading g.Val.JsonCodec.reading g.Val.Field.ring.zero) written ∙
    proof_back g.Com.JsonCodec.reading g.Com.JsonCodec.writing g.met.Com.JsonCodec.reads_back g.met.Com.NeverNull.never_null
    g.Challenge.JsonCodec.reading g.Challenge.JsonCodec.writing g.met.Challenge.JsonCodec.reads_back
    g.PcsProof.JsonCodec.reading g.PcsProof.JsonCodec.writing g.met.PcsProof.JsonCodec.reads_back
    g.Val.JsonCodec.reading g.Val.JsonCodec.writing g.met.Val.JsonCodec.reads_back g.met.Val.NeverNull.never_null
    g.Val.PartialEq.eq g.Val.Field.ring.zero g.met.Val.Field.eq_same (proof_view c.args.self.now) (omega arith)
