use Rattle.std.proofs.Common.{rules}
use Rattle.stark_verifier.proofs.opened.check_witnesses.Goals as goal

pub returns : goal.returns
returns c = search rules

pub returns-in_err-check_witness : goal.returns-in_err-check_witness
returns-in_err-check_witness c = search rules
