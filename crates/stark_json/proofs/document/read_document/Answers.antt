use Rattle.std.proofs.Common.{◌≡◌, [], Some, map, subst, rules}
use Rattle.json.specs.Lex.{tokens}
use Rattle.json.specs.Json.{value}
use Rattle.serde_json.specs.Read.{converted, of_json}
use Rattle.serde_json.specs.View.{view}
use Rattle.stark_json.specs.Apart.{joined, rows_apart}
use Rattle.stark_json.proofs.SoFar.{whole_read}
use Rattle.stark_json.proofs.document.read_document.Goals as goal

pub returns : goal.returns
returns c =
    let d = joined (map (λ name. name.now) c.args.path.now) (rows_apart c.in_ok-value.rows) (view c.in_ok-value.value) in
    let none : c.read_at.new.reader ≡ [] = search rules in
    let ended = subst (λ r. converted of_json (value 127 c.in_ok-reader.reader) ≡ Some (d, r)) none c.in_ok-value.ensures.read in
    let read = subst (λ ts. converted of_json (value 127 ts) ≡ Some (d, [])) c.in_ok-reader.ensures.ok ended in
    whole_read (value 127 (tokens c.args.text.now)) d read
