use Rattle.std.proofs.Common.{◌≡◌, ap, ◌∙◌, rules}
use Rattle.serde_json.specs.View.{view}
use Rattle.stark_proof.specs.ProofJson.{commitments_reading, commitments_writing}
use Rattle.stark_proof.proofs.ReadBack.{commitments_back}
use Rattle.stark_proof.proofs.values.Commitments.to_json.Goals as goal

pub returns-clause-read_back : goal.returns-clause-read_back
unfolding commitments_writing
returns-clause-read_back g c =
    let written : view c.in_ok-value.value ≡ commitments_writing g.Com.JsonCodec.writing c.args.self.now = search rules in
    ap (commitments_reading g.Com.JsonCodec.reading) written ∙
    commitments_back g.Com.JsonCodec.reading g.Com.JsonCodec.writing g.met.Com.JsonCodec.reads_back g.met.Com.NeverNull.never_null c.args.self.now

pub returns-in_err-trace : goal.returns-in_err-trace
returns-in_err-trace c = search rules

pub returns-in_err-value : goal.returns-in_err-value
returns-in_err-value c = search rules
