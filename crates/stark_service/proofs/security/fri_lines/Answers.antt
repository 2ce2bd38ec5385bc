use Rattle.std.proofs.Common.{string_bytes}
use Rattle.stark_statement.specs.Limits.{view_of}
use Rattle.stark_service.specs.Security.{AreFriLines}
use Rattle.stark_service.proofs.SecuritySteps.{fri_lines_are, if_ok}
use Rattle.stark_service.proofs.security.fri_lines.Goals as goal

pub returns : goal.returns
returns g c = if_ok _ (λ text. AreFriLines (view_of c.args.air.now) c.args.params.now c.args.greatest (string_bytes text)) c.format.result
    (λ text is. fri_lines_are (view_of c.args.air.now) c.args.params.now c.args.greatest c.min-height.result c.in_ok-usual.usual c.in_ok-most.most c.conjectured_security_bits.result c.conjectured_security_bits-2.result
    c.max-better_usual.result c.max-better_most.result (string_bytes text) (string_bytes c.in_ok-proved.proved) (string_bytes c.in_ok-conjectured.conjectured) c.min-height.ensures c.in_ok-usual.ensures c.in_ok-most.ensures
    c.conjectured_security_bits.ensures c.conjectured_security_bits-2.ensures c.max-better_usual.ensures c.max-better_most.ensures c.in_ok-proved.ensures c.in_ok-conjectured.ensures is) c.format.ensures.ok
