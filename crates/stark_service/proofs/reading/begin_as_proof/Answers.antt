use Rattle.std.proofs.Common.{◌≡◌, rules, true}
use Rattle.std.specs.List.{starts_with}
use Rattle.std.specs.Prelude.{nat_eq}
use Rattle.stark_proof_bytes.specs.ProofBytes.{magic}
use Rattle.stark_service.proofs.StatementSteps.{no_json}
use Rattle.stark_service.proofs.reading.begin_as_proof.Goals as goal

pub returns-clause-no_json : goal.returns-clause-no_json
returns-clause-no_json c = λ is. no_json c.args.bytes.now (let begins : starts_with nat_eq c.args.bytes.now magic ≡ true = search rules in begins)
