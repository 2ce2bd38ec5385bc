use Rattle.json.specs.Lex.{tokens}
use Rattle.stark_support.proofs.Readings.{json_of-none}
use Rattle.stark_trace_json.specs.Scanned.{HasTable}
use Rattle.stark_trace_json.proofs.Tables.{some_holds, table_read}
use Rattle.stark_trace_json.proofs.rows.rows_from_bytes.Goals as goal

pub returns-in_default : goal.returns-in_default
returns-in_default g c = json_of-none c.args.bytes.now (λ utf8. absurd (c.in_default.ensures.cases.0 utf8))

pub returns-in-Some : goal.returns-in-Some
unfolding HasTable
returns-in-Some g c =
    let table = some_holds (λ obtained. HasTable g.F.JsonCodec.reading obtained (tokens c.args.bytes.now)) c.in_ok-rows.field-0 c.in-Some.rows c.in_ok-rows.ensures c.in-Some.is in
    (table.0, table_read g.F.JsonCodec.reading c.args.bytes.now table.0 c.in-Ok.ensures.cases.1 table.2, table.1)
