use Rattle.std.proofs.Common.{ap, sym, ◌∙◌}
use Rattle.serde_json.specs.Read.{read}
use Rattle.stark_support.proofs.Readings.{json_of-some}
use Rattle.stark_json.proofs.document.document_from_bytes.Goals as goal

pub returns-in-Ok-read_document : goal.returns-in-Ok-read_document
returns-in-Ok-read_document c = json_of-some c.args.bytes.now _ c.in-Ok.ensures.cases.1 (ap read (sym c.in-Ok.ensures.cases.0) ∙ c.in-Ok-read_document.ensures)
