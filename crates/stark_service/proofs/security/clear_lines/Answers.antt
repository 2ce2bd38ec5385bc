use Rattle.std.proofs.Common.{string_bytes}
use Rattle.stark_statement.specs.Limits.{view_of}
use Rattle.stark_service.specs.Security.{AreClearLines, AreProvedInTheClear, FieldNumbers}
use Rattle.stark_service.proofs.SecuritySteps.{clear_lines_are, if_ok}
use Rattle.stark_service.proofs.security.clear_lines.Goals as goal

pub returns : goal.returns
returns g c =
    let fields : FieldNumbers g.row.F.Denot = record { number = g.F.PrimeField64.number_of; order = g.F.PrimeField64.ORDER; degree = g.EF.ExtensionField.DIMENSION; adicity = g.F.TwoAdicField.TWO_ADICITY } in
    if_ok _ (λ text. AreClearLines (AreProvedInTheClear (view_of c.args.air.now) fields) c.args.greatest (string_bytes text)) c.format.result
    (λ text is. clear_lines_are (AreProvedInTheClear (view_of c.args.air.now) fields) c.args.greatest c.min-height.result c.in_ok-usual.usual c.in_ok-most.most (string_bytes text)
    (string_bytes c.in_ok-proved.proved) (string_bytes c.in_ok-rest.rest) c.min-height.ensures c.in_ok-usual.ensures c.in_ok-most.ensures c.in_ok-proved.ensures c.in_ok-rest.ensures is) c.format.ensures.ok
