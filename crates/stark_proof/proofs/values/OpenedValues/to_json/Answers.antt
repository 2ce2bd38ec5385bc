use Rattle.std.proofs.Common.{◌≡◌, ap, ◌∙◌, rules}
use Rattle.serde_json.specs.View.{view}
use Rattle.stark_proof.specs.ProofView.{openings_view}
use Rattle.stark_proof.specs.ProofJson.{openings_reading, openings_writing}
use Rattle.stark_proof.proofs.ReadBack.{openings_back}
use Rattle.stark_proof.proofs.values.OpenedValues.to_json.Goals as goal

pub returns-clause-read_back : goal.returns-clause-read_back
unfolding openings_writing
returns-clause-read_back g c =
    let written : view c.in_ok-value.value ≡ openings_writing g.Challenge.JsonCodec.writing (openings_view c.args.self.now) = search rules in
    ap (openings_reading g.Challenge.JsonCodec.reading) written ∙
    openings_back g.Challenge.JsonCodec.reading g.Challenge.JsonCodec.writing g.met.Challenge.JsonCodec.reads_back (openings_view c.args.self.now)
