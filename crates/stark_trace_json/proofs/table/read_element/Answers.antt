use Rattle.std.proofs.Common.{ap, ◌∙◌, sym}
use Rattle.stark_trace_json.specs.Scanned.{HasElement, IsElement}
use Rattle.stark_trace_json.proofs.table.read_element.Goals as goal

pub returns-in-Ok : goal.returns-in-Ok
unfolding HasElement IsElement
returns-in-Ok g c =
    let read = c.in-Some.ensures in
    (c.in-Ok.element, c.in_ok-push-in-Ok.ensures.items, (c.in-Some.number, read.fits, read.passed, ap g.F.JsonCodec.reading (sym c.from.ensures) ∙ c.in-Ok.ensures))
