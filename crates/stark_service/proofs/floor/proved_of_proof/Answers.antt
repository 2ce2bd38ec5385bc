use Rattle.stark_service.specs.contracts.proof_heights.NamedFieldsProofHeights.TheImpl as heights
use Rattle.stark_service.specs.contracts.worth.NamedFieldsStatementSecurity.TheImpl as worth
use Rattle.stark_service.proofs.FloorSteps.{height_of, no_height, of_height}
use Rattle.stark_service.proofs.floor.proved_of_proof.Goals as goal

pub returns-in-Some : goal.returns-in-Some
returns-in-Some c =
    let s = c.args.statement.now in
    of_height (heights.height-value.it s c.args.proof.now) (worth.security-value.it s) c.in-Some.log_height c.proved_at.result
    (height_of (heights.height-value.it s c.args.proof.now) (worth.security-value.it s) c.in_ok-height.height c.in-Some.log_height c.in-Some.is (rw c.in_ok-copy.ensures at c.in_ok-height.ensures.is)) c.proved_at.ensures

pub returns-in-None : goal.returns-in-None
returns-in-None c =
    let s = c.args.statement.now in
    no_height (heights.height-value.it s c.args.proof.now) (worth.security-value.it s) c.in_ok-height.height c.in-None.is (rw c.in_ok-copy.ensures at c.in_ok-height.ensures.only)
