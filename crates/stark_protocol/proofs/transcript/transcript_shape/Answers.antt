use Rattle.std.proofs.Common.{rules}
use Rattle.stark_transcript.specs.Shape.{shape_is}
use Rattle.stark_protocol.proofs.transcript.transcript_shape.Goals as goal

pub returns : goal.returns
returns g c = search (rules, shape_is c.in_ok-shape.ensures.declared c.in_ok-shape.ensures.given)
