use Rattle.stark_service.proofs.UnreadRows.{unread_rows}
use Rattle.stark_service.proofs.reading.read_rows.Goals as goal

pub returns : goal.returns
returns g c = unread_rows g.F.JsonCodec.reading c.args.bytes.items _ c.in-Err.fault (rw c.deref.ensures.value at c.in-Err.ensures) c.unread_rows.ensures
