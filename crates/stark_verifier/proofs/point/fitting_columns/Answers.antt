use Rattle.std.proofs.Common.{◌∙◌, sym}
use Rattle.std.proofs.lemmas.Bool.{false≢true}
use Rattle.stark_protocol.specs.FirstFault.{in_columns, in_domain}
use Rattle.stark_verifier.proofs.point.fitting_columns.Goals as goal

pub returns-then-inside-clause-fault : goal.returns-then-inside-clause-fault
returns-then-inside-clause-fault g c = in_domain c.if-inside.true

pub returns-in-Err-clause-fault : goal.returns-in-Err-clause-fault
returns-in-Err-clause-fault g c = in_columns (λ stated. false≢true (sym c.if-inside.false ∙ stated)) c.in-Err.ensures.fault
